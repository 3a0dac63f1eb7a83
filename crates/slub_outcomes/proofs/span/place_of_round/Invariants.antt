use Rattle.std.proofs.Common.{◌≡◌, ◌<◌, count_by, take}
use Rattle.slub_outcomes.specs.Span.{is_round}
use Rattle.slub_outcomes.proofs.span.place_of_round.Given as goal

abbrev pub invariant-loop-place : goal.invariant-loop-place
invariant-loop-place l = (l.before ≡ count_by is_round (take l.place l.items)) × (l.before < l.n)
