-- Workers that go on: none of them stays at a spot in a call at which nothing is to be done.
use Rattle.std.specs.Prelude.{◌≡◌, ◌≢◌, ℕ, List, [], ◌∷◌, All}
use Rattle.slub_core.specs.declared.call.CallKind.{CallKind}
use Rattle.slub_core.specs.declared.call.CallKind.TheVariants.{Trim, Flush}
use Rattle.slub_core.specs.declared.spot.Spot.TheVariants.{Between, InChecked}
use Rattle.slub_core.specs.declared.spot.CheckedSpot.{CheckedSpot}
use Rattle.slub_core.specs.Setup.{Setup}
use Rattle.slub_core.specs.World.{LockValue}
use Rattle.slub_core.specs.Local.{Local}
use Rattle.slub_core.specs.Ops.{no_step}
use Rattle.slub_core.specs.Steps.{step_of}
use Rattle.slub_core.specs.Run.{System, Pick, turn}

pub record GoesOn (m : Setup) (value : ℕ → LockValue) (l : Local) : Type 0 where
  -- only between two calls a worker has no step to make (profile)
  pub step : step_of m value l ≡ no_step → l.spot ≡ Between
  -- no trim and no flush is made under a checked cache's lock (profile)
  pub kind : (s : CheckedSpot) (kind : CallKind) → l.spot ≡ InChecked s kind
      → (kind ≢ Trim) × (kind ≢ Flush)

-- all workers go on, before each pick of a run and after the last one
abbrev pub GoOnAlong : Setup → System → List Pick → Type 0
GoOnAlong m s [] = All (GoesOn m s.value) s.locals
GoOnAlong m s (pick ∷ picks) = All (GoesOn m s.value) s.locals × GoOnAlong m (turn m s pick) picks
