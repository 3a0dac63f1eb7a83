use Rattle.std.proofs.Common.{◌≡◌}
use Rattle.slub_law_opening.specs.Opening.{lay_each}
use Rattle.slub_open_close.specs.Laying.{read, string_in}
use Rattle.slub_open_close.proofs.laying.lay_links.Given as goal

-- the lists of the first CPUs stand there
abbrev pub invariant-loop-number : goal.invariant-loop-number
invariant-loop-number l = read l.links ≡ lay_each (string_in l.cpus l.lists) l.number (read l.fn.links)
