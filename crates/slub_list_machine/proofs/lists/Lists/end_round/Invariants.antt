use Rattle.std.proofs.Common.{◌≡◌, take, drop, map, option_map}
use Rattle.slub_lists.specs.Coherent.{laid_down}
use Rattle.slub_list_machine.proofs.lists.Lists.end_round.Given as goal

-- the objects below the index are on the board, and the others as they were
abbrev pub invariant-loop-held : goal.invariant-loop-held
invariant-loop-held l = record {
  down : take l.held-index l.held-items ≡ map (option_map laid_down) (take l.held-index l.initial.held-items);
  rest : drop l.held-index l.held-items ≡ drop l.held-index l.initial.held-items;
}
