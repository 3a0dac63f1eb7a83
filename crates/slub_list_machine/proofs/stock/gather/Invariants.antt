use Rattle.std.proofs.Common.{◌≡◌, ◌++◌, take, drop, reverse}
use Rattle.slub_list_machine.proofs.stock.gather.Given as goal

-- so many were taken off the head, and stand here the other way round
abbrev pub invariant-loop : goal.invariant-loop
invariant-loop l = record {
  here : l.partial ≡ reverse (take l.counter l.fn.node) ++ l.fn.partial;
  there : l.node ≡ drop l.counter l.fn.node;
}
