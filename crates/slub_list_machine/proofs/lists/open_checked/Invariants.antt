use Rattle.std.proofs.Common.{◌≡◌, replicate, None}
use Rattle.slub_list_machine.proofs.lists.open_checked.Given as goal

-- so many are there
abbrev pub invariant-loop : goal.invariant-loop
invariant-loop l = l.checked.items ≡ replicate l.counter None
