-- The turns of a call, one after another.
use Rattle.std.proofs.Common.{◌≡◌, ℕ, false, List, [], ◌∷◌, sym, subst}
use Rattle.slub_core.specs.Setup.{Setup}
use Rattle.slub_workers.specs.Standing.{Standing}
use Rattle.slub_workers.specs.Turns.{Met, after_one, after_turns}
use Rattle.slub_workers.specs.Calls.{IsOver, IsOneCall}
use Rattle.slub_workers.proofs.Calls.{Goes, still, goes_on, turn_goes}

-- turns that are one call, to where it leads
abbrev pub Ends : Setup → ℕ → Standing → Standing → Type 0
Ends m told x after = (met : List Met) × (IsOneCall m told x met × (after ≡ after_turns m false x met))

-- the worker stood so first, and stands so now, in the same call
pub record Leaves (m : Setup) (told : ℕ) (first now : Standing) : Type 0 where
  -- whatever turns end the call end it from where it was begun
  pub ends : (after : Standing) → Ends m told now after → Ends m told first after
  pub goes : Goes first.local now.local

pub leaves_first : (m : Setup) (told : ℕ) (x : Standing) → Leaves m told x x
leaves_first m told x = record { ends = λ after e. e; goes = still x.local }

one_more : (m : Setup) (told : ℕ) (x : Standing) (met : Met) (after : Standing) → ¬ IsOver told (after_one m false x met).local → Ends m told (after_one m false x met) after → Ends m told x after
one_more m told x met after not ([], (one, leads)) = absurd one
one_more m told x met after not (next ∷ more, (one, leads)) = (met ∷ next ∷ more, ((not, one), leads))

module _ (m : Setup) (told : ℕ) (first now : Standing) (l : Leaves m told first now) (met : Met) (after : Standing) (is : after ≡ after_one m false now met) where
  pub goes_after : Goes first.local after.local
  goes_after = subst (λ (y : Standing). Goes first.local y.local) (sym is) (goes_on first.local now.local (after_one m false now met).local l.goes (turn_goes m false now met.word met.value met.refused))

  pub leaves_next : ¬ IsOver told after.local → Leaves m told first after
  leaves_next not = record {
    ends = λ last e. l.ends last (one_more m told now met last (subst (λ (y : Standing). ¬ IsOver told y.local) is not) (subst (λ (y : Standing). Ends m told y last) is e));
    goes = goes_after;
  }

  pub ends_now : IsOver told after.local → Ends m told first after
  ends_now over = l.ends after (met ∷ [], (subst (λ (y : Standing). IsOver told y.local) is over, is))
