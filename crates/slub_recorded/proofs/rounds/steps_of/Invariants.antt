use Rattle.std.proofs.Common.{◌≡◌, ◌++◌, [], drop}
use Rattle.slub_recorded.specs.Rounds.{steps_from}
use Rattle.slub_recorded.proofs.rounds.steps_of.Given as goal

abbrev pub invariant-loop-place : goal.invariant-loop-place
invariant-loop-place l = l.steps.items ++ steps_from l.plan l.place l.left l.holders.entries (drop l.place l.turns) ≡ steps_from l.plan 0 255 [] l.turns
