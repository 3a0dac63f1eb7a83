use Rattle.std.proofs.Common.{◌≡◌, ◌++◌, take, flat_map}
use Rattle.slub_state_text.specs.Ranges.{spaced_number}
use Rattle.slub_state_text.proofs.ranges.put_each.Given as goal

abbrev pub invariant-loop-n : goal.invariant-loop-n
invariant-loop-n l = l.text.items ≡ l.fn.text.items ++ flat_map spaced_number (take l.n-index l.numbers)
