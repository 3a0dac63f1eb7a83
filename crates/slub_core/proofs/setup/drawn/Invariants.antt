use Rattle.std.proofs.Common.{◌≡◌}
use Rattle.slub_words.specs.Words.{steps_from_one}
use Rattle.slub_core.proofs.setup.drawn.Given as goal

abbrev pub invariant-loop : goal.invariant-loop
invariant-loop l = l.x ≡ steps_from_one l.counter
