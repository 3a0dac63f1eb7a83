-- Why a round that is watched wasn't done, on what it was given.
use Rattle.std.specs.Prelude.{IfErr, IfOk}
use Rattle.std.proofs.Common.{◌≡◌, ℕ, List, Result, Ok, Err, subst}
use Rattle.slub_trace.specs.declared.event.Round.{Round}
use Rattle.slub_lists.specs.State.{State}
use Rattle.slub_core.specs.Local.{Local}
use Rattle.slub_core.specs.Facts.{Facts}
use Rattle.slub_core.specs.Run.{System}
use Rattle.slub_turns.specs.Happenings.{Happening}
use Rattle.slub_rounds.specs.declared.watched.Unwatched.{Unwatched as Stopped}
use Rattle.slub_rounds.specs.declared.watched.Unwatched.TheVariants as stopped
use Rattle.slub_rounds.specs.Watched as steps
use Rattle.slub_items.specs.declared.watched.Unwatched.TheVariants.{TurnsSpent, Halted}
use Rattle.slub_items.specs.Watched.{IsUnwatched}

-- what holds of a result that is there, and of one that isn't
pub on_ok : {A E : Type 0} (r : Result A E) (a : A) (P : A → Type 0) → r ≡ Ok a → IfOk r P → P a
on_ok {A} {E} r a P is holds = let Q : Result A E → Type 0 = λ r. IfOk r P in subst Q is holds

pub on_err : {A E : Type 0} (r : Result A E) (e : E) (P : E → Type 0) → r ≡ Err e → IfErr r P → P e
on_err {A} {E} r e P is holds = let Q : Result A E → Type 0 = λ r. IfErr r P in subst Q is holds

module _ {W H : Type 0} (begins_round : Facts → W → List Local → W → Type 0) (chooses : Facts → W → System → ℕ → W → Type 0) (hears : Facts → W → Happening → W → Type 0) (halts : Facts → W → System → H → W → Type 0) where
  pub spent_on : {G : Type 0} (given : G) (s : State) (ids from : List ℕ) (round : Round) (watch after : W) (why : Stopped H) → ids ≡ from → why ≡ stopped.TurnsSpent
      → steps.IsUnwatched begins_round chooses hears halts s ids round watch after why → IsUnwatched {G = G} {W = W} {H = H} begins_round chooses hears halts given s from round watch after TurnsSpent
  spent_on {G} given s ids from round watch after why same is unwatched =
      let P : List ℕ × Stopped H → Type 0 = λ p. steps.IsUnwatched begins_round chooses hears halts s p.0 round watch after p.1 in
      subst P (λ i. (same i, is i)) unwatched

  pub halted_on : {G : Type 0} (given : G) (s : State) (ids from : List ℕ) (round : Round) (watch after : W) (why : Stopped H) (said : H) → ids ≡ from → why ≡ stopped.Halted said
      → steps.IsUnwatched begins_round chooses hears halts s ids round watch after why → IsUnwatched {G = G} {W = W} {H = H} begins_round chooses hears halts given s from round watch after (Halted said)
  halted_on {G} given s ids from round watch after why said same is unwatched =
      let P : List ℕ × Stopped H → Type 0 = λ p. steps.IsUnwatched begins_round chooses hears halts s p.0 round watch after p.1 in
      subst P (λ i. (same i, is i)) unwatched
