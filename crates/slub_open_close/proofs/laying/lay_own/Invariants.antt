use Rattle.std.proofs.Common.{◌≡◌, length}
use Rattle.slub_law_opening.specs.Opening.{lay_each}
use Rattle.slub_open_close.specs.Laying.{read, own_in}
use Rattle.slub_open_close.proofs.laying.lay_own.Given as goal

-- the freelists of the first slabs stand there
abbrev pub invariant-loop-frame : goal.invariant-loop-frame
invariant-loop-frame l = record {
  count : length l.memory ≡ length l.fn.memory;
  memory : read l.memory ≡ lay_each (own_in l.setup l.slabs l.frees) l.frame (read l.fn.memory);
}
