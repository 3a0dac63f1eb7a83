-- The table of a worker that is alone with the events of a round, from lists to the machine that it
-- leaves.
use Rattle.std.specs.Prelude.{◌≡◌, ℕ, Bool, List, [], ◌∷◌}
use Rattle.slub_trace.specs.declared.event.Round.{Round}
use Rattle.slub_lists.specs.State.{State}
use Rattle.slub_law_opening.specs.Opening.{Beside, setup_of}
use Rattle.slub_turns.specs.declared.machine.StepMachine.{StepMachine}
use Rattle.slub_turns.specs.Means.{the_means}
use Rattle.slub_rounds.specs.Rounds.{StandsBeside, system_begun}
use Rattle.slub_workers.specs.Begun.{Begun}
use Rattle.slub_workers.specs.Round.{HasClosed, begun_by}
use Rattle.slub_workers.specs.Rule.{setup_in}
use Rattle.slub_workers.specs.Rule as rule
use Rattle.slub_tries.specs.declared.tries.Told.{Told}
use Rattle.slub_tries.specs.Lone.{Lone, begins_as}
use Rattle.slub_tries.specs.Told.{AllAreTold}

-- the lists and the ids beside them open into this machine, whose worker has the events of the
-- round as its calls
pub record OpensInto (s : State) (ids : List ℕ) (round : Round) (key : Begun) : Type 0 where
  pub beside : Beside
  pub stands : StandsBeside s ids beside
  pub means : beside.means ≡ the_means
  pub setup : setup_in key ≡ setup_of s beside
  pub system : rule.system_begun key ≡ system_begun s beside round

-- the machine that a worker leaves is one that some order of its steps leads to
pub record Leaves (lone : Lone) (last : StepMachine) : Type 0 where
  pub tried : Bool
  pub closed : HasClosed lone.key tried (begun_by last)
  pub local : last.locals.items ≡ lone.standing.local ∷ []

-- the worker did all its calls, from where it stands in the machine that was opened
pub record PlaysRound (s : State) (ids : List ℕ) (round : Round) (all : List Told)
    (last : StepMachine) : Type 0 where
  pub lone : Lone
  pub opens : OpensInto s ids round lone.key
  pub told : AllAreTold lone.key (begins_as lone.key) all lone.standing
  pub leaves : Leaves lone last
