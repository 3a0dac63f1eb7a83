-- A call of a worker, from its begin to its end.
use Rattle.std.specs.Prelude.{◌≡◌, ◌<◌, ℕ, false, List, [], ◌∷◌, length}
use Rattle.slub_trace.specs.declared.reply.Reply.{Reply}
use Rattle.slub_core.specs.declared.spot.Spot.TheVariants.{Between}
use Rattle.slub_core.specs.Setup.{Setup}
use Rattle.slub_core.specs.Local.{Local}
use Rattle.slub_workers.specs.Begun.{Begun}
use Rattle.slub_workers.specs.Rule.{setup_in}
use Rattle.slub_workers.specs.Standing.{Standing}
use Rattle.slub_workers.specs.Turns.{Met, after_one, after_turns, IsAnswered}

-- the call that came after so many replies is over: it has its reply, and the worker is between two
-- calls again
pub record IsOver (told : ℕ) (l : Local) : Type 0 where
  pub between : l.spot ≡ Between
  pub replied : told < length l.done

-- turns that meet these are that one call, to its end: it is over after the last one of them, and
-- after none before
abbrev pub IsOneCall : Setup → ℕ → Standing → List Met → Type 0
IsOneCall m told x [] = ⊥
IsOneCall m told x (met ∷ []) = IsOver told (after_one m false x met).local
IsOneCall m told x (met ∷ next ∷ more) =
    (¬ IsOver told (after_one m false x met).local)
    × IsOneCall m told (after_one m false x met) (next ∷ more)

-- the worker that stood so made its next call, had this reply to it, and stands where the turns of
-- the step machine lead that find what it found
pub record HasCalled (key : Begun) (x : Standing) (reply : Reply) (after : Standing) : Type 0 where
  pub met : List Met
  pub one : IsOneCall (setup_in key) (length x.local.done) x met
  pub leads : after ≡ after_turns (setup_in key) false x met
  pub answered : IsAnswered x.local reply after.local
