use Rattle.std.proofs.Common.{◌≡◌, ℕ, ◌<◌, get_or, None}
use Rattle.slub_core.specs.Values.{values_of}
use Rattle.slub_open_close.specs.Reads.{slab_at}
use Rattle.slub_open_close.proofs.slabs.close_slabs.Given as goal

abbrev pub invariant-loop-frame : goal.invariant-loop-frame
invariant-loop-frame l = (k : ℕ) → k < l.frame → get_or l.slabs k None ≡ slab_at l.setup l.table.words (values_of l.values) k
