use Rattle.std.proofs.Common.{◌≡◌, ◌++◌, [], drop, get_or, set}
use Rattle.slub_list_machine.proofs.own_lists.OwnLists.take_before.Given as goal

-- the last ones of the CPU's list stand before the others
abbrev pub invariant-loop-at : goal.invariant-loop-at
invariant-loop-at l = l.self ≡ set l.fn.self l.frame (drop l.at l.front ++ get_or l.fn.self l.frame [])
