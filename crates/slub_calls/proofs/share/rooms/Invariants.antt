use Rattle.std.proofs.Common.{◌≡◌, map, take}
use Rattle.slub_calls.specs.Calls.{room_for}
use Rattle.slub_calls.proofs.share.rooms.Given as goal

abbrev pub invariant-loop-at : goal.invariant-loop-at
invariant-loop-at l = l.rooms.items ≡ map room_for (take l.at l.numbers.keys)
