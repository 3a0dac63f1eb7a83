use Rattle.std.proofs.Common.{◌≡◌, replicate}
use Rattle.slub_lists.specs.Alloc.{no_lists}
use Rattle.slub_list_machine.proofs.lists.open_cpu_lists.Given as goal

-- so many are there
abbrev pub invariant-loop : goal.invariant-loop
invariant-loop l = l.lists.items ≡ replicate l.counter no_lists
