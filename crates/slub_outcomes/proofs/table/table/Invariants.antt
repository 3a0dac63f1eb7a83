use Rattle.std.proofs.Common.{◌≡◌, take, flat_map}
use Rattle.slub_outcomes.specs.Table.{outcome_line}
use Rattle.slub_outcomes.proofs.table.table.Given as goal

abbrev pub invariant-loop-outcome : goal.invariant-loop-outcome
invariant-loop-outcome l = l.text.items ≡ flat_map outcome_line (take l.outcome-index l.outcomes)
