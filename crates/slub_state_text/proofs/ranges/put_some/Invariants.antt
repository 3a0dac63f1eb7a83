use Rattle.std.proofs.Common.{◌≡◌, ◌∷◌, ◌++◌, drop, flat_map}
use Rattle.slub_state_text.specs.Ranges.{joined, ranges_of, spaced_range}
use Rattle.slub_state_text.proofs.ranges.put_some.Given as goal

abbrev pub invariant-loop-n : goal.invariant-loop-n
invariant-loop-n l =
    l.text.items ++ flat_map spaced_range (joined l.before (ranges_of (drop l.n-index l.rest)))
    ≡ l.fn.text.items ++ flat_map spaced_range (ranges_of (l.first ∷ l.rest))
