use Rattle.std.proofs.Common.{◌≡◌}
use Rattle.slub_core.specs.Setup.{Means}
use Rattle.slub_core.specs.Steps.{rested}
use Rattle.slub_core.specs.Facts.{setup_of}
use Rattle.slub_turns.proofs.Mixed.{mixed}
use Rattle.slub_turns.proofs.begin.rest_all.Given as goal

abbrev pub invariant-loop-local : goal.invariant-loop-local
invariant-loop-local l = (means : Means) → l.local-items ≡ mixed (rested (setup_of l.setup means)) l.fn.locals l.local-index
