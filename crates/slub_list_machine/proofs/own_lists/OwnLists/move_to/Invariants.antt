use Rattle.std.proofs.Common.{◌≡◌, [], take, get_or}
use Rattle.slub_list_machine.proofs.own_lists.OwnLists.move_to.Given as goal

-- the first ones were moved
abbrev pub invariant-loop-at : goal.invariant-loop-at
invariant-loop-at l = l.free ≡ take l.at (get_or l.fn.self l.frame [])
