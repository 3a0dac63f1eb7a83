use Rattle.std.proofs.Common.{◌≡◌, ◌++◌, flat_map}
use Rattle.std.specs.List.{range_with_len}
use Rattle.slub_state_text.specs.Slabs.{slab_row}
use Rattle.slub_state_text.proofs.slabs.push_slabs.Given as goal

abbrev pub invariant-loop-frame : goal.invariant-loop-frame
invariant-loop-frame l = l.text.items ≡ l.fn.text.items ++ flat_map (slab_row l.lists l.cache) (range_with_len 0 l.frame)
