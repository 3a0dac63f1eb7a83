use Rattle.std.proofs.Common.{◌≡◌, length}
use Rattle.slub_law_opening.specs.Opening.{lay_each}
use Rattle.slub_open_close.specs.Laying.{read, cpu_free_in}
use Rattle.slub_open_close.proofs.laying.lay_cpus.Given as goal

-- the freelists of the first CPUs stand there
abbrev pub invariant-loop-number : goal.invariant-loop-number
invariant-loop-number l = record {
  count : length l.memory ≡ length l.fn.memory;
  memory : read l.memory ≡ lay_each (cpu_free_in l.setup l.cpus l.lists) l.number (read l.fn.memory);
}
