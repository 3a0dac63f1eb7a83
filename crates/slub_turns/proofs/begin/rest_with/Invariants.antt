use Rattle.std.proofs.Common.{◌≡◌, length}
use Rattle.slub_core.specs.Setup.{Means}
use Rattle.slub_core.specs.Steps.{rested_with}
use Rattle.slub_core.specs.Facts.{setup_of}
use Rattle.slub_turns.proofs.begin.rest_with.Given as goal

-- the replies to come lead to where all led
abbrev pub invariant-loop-local : goal.invariant-loop-local
invariant-loop-local l = (means : Means) → rested_with (setup_of l.setup means) l.local.todo l.local ≡ rested_with (setup_of l.setup means) l.fn.local.todo l.fn.local

abbrev pub decreases-loop-local : goal.decreases-loop-local
decreases-loop-local l = length l.local.todo
