use Rattle.std.proofs.Common.{◌≡◌}
use Rattle.slub_core.specs.Values.{values_of}
use Rattle.slub_open_close.specs.Reads.{slab_in_values}
use Rattle.slub_open_close.proofs.slabs.slab_in_values.Given as goal

abbrev pub invariant-loop-lock : goal.invariant-loop-lock
invariant-loop-lock l = l.found ≡ slab_in_values (values_of l.values) l.lock l.frame
