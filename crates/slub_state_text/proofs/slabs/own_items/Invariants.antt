use Rattle.std.proofs.Common.{◌≡◌, [], take, get_or}
use Rattle.slub_state_text.proofs.slabs.own_items.Given as goal

abbrev pub invariant-loop-at : goal.invariant-loop-at
invariant-loop-at l = l.items.items ≡ take l.at (get_or l.frees l.frame [])
