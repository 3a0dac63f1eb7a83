use Rattle.std.proofs.Common.{◌≡◌}
use Rattle.std.specs.List.{filter, range_with_len}
use Rattle.slub_red_zone.specs.State.{slab_of}
use Rattle.slub_state_text.specs.Slabs.{is_aside_at}
use Rattle.slub_state_text.proofs.slabs.aside_of.Given as goal

abbrev pub invariant-loop-index : goal.invariant-loop-index
invariant-loop-index l = l.aside.items ≡ filter (is_aside_at (slab_of l.slabs l.frame)) (range_with_len 0 l.index)
