use Rattle.std.proofs.Common.{◌≡◌, take}
use Rattle.slub_state_text.proofs.cpus.items_of.Given as goal

abbrev pub invariant-loop-at : goal.invariant-loop-at
invariant-loop-at g l = l.items.items ≡ take l.at l.list
