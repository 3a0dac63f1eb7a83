use Rattle.std.proofs.Common.{◌≡◌}
use Rattle.std.specs.List.{filter, range_with_len}
use Rattle.slub_state_text.proofs.Peels.{IsPeeled, is_free}
use Rattle.slub_state_text.proofs.pool.free_frames.Given as goal

abbrev pub invariant-loop-frame : goal.invariant-loop-frame
invariant-loop-frame l = (l.free.items ≡ filter (is_free l.lists) (range_with_len 0 l.frame)) × IsPeeled l.lists l.frame l.next
