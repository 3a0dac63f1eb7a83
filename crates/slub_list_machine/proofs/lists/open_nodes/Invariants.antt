use Rattle.std.proofs.Common.{◌≡◌, replicate, []}
use Rattle.slub_list_machine.proofs.lists.open_nodes.Given as goal

-- so many are there
abbrev pub invariant-loop : goal.invariant-loop
invariant-loop l = l.nodes.items ≡ replicate l.counter []
