-- What a worker knows, by object number.
use Rattle.std.proofs.Common.{◌≡◌, ℕ, zero, suc, ◌+◌, ◌<◌, ◌≤◌, eqb, true, false, List, [], ◌∷◌, length, get_or, set, drop, refl, sym, ap, ◌∙◌, arith, inl, inr, ◌&&◌}
use Rattle.std.specs.Prelude.{All}
use Rattle.std.proofs.lemmas.Bool.{cases_eq, cases_lt, eq-eqb, ne_eqb, false≢true}
use Rattle.std.proofs.lemmas.List.{get_or-set_same, get_or-set_other, length-set}
use Rattle.std.proofs.lemmas.List.Elements.{All-weaker}
use Rattle.slub_core.specs.declared.call.Call.{Call}
use Rattle.slub_core.specs.declared.local.Known.{Known}
use Rattle.slub_core.specs.Calls.{call_kind, call_object}
use Rattle.slub_core.specs.Setup.{Setup}
use Rattle.slub_core.specs.Local.{nobody, no_call}
use Rattle.slub_core.specs.Replies.{asked_in, is_alloc}
use Rattle.slub_core.specs.World.{one_if}
use Rattle.slub_core.specs.Accounted.{place_of, known_of, AreDistinct, CallFits}

-- a change that keeps the number keeps all places
pub place_of-set : (ks : List Known) (p : ℕ) (k : Known) (o : ℕ) → k.object ≡ (get_or ks p nobody).object → place_of (set ks p k) o ≡ place_of ks o
place_of-set [] p k o same = refl
place_of-set (j ∷ ks) zero k o same = rw same refl
place_of-set (j ∷ ks) (suc p) k o same = rw (place_of-set ks p k o same) refl

-- what stands at the place of a number has it
pub place_of-object : (ks : List Known) (o : ℕ) → place_of ks o < length ks → (get_or ks (place_of ks o) nobody).object ≡ o
place_of-object [] o below = absurd (omega arith)
place_of-object (j ∷ ks) o below = elim (cases_eq j.object o) [
  | inl e ↦ rw (eq-eqb j.object o e) e
  | inr d ↦ let b : place_of (j ∷ ks) o ≡ suc (place_of ks o) = rw (ne_eqb j.object o d) refl in rw b (place_of-object ks o (omega arith))
]

-- the object of this place is known so then, and each other one as before
pub known_of-here : (ks : List Known) (p : ℕ) (k : Known) (o : ℕ) → p < length ks → k.object ≡ (get_or ks p nobody).object → p ≡ place_of ks o → known_of (set ks p k) o ≡ k
known_of-here ks p k o below same is = rw (place_of-set ks p k o same, ← is) (get_or-set_same ks p k nobody below)

pub known_of-other : (ks : List Known) (p : ℕ) (k : Known) (o : ℕ) → p < length ks → k.object ≡ (get_or ks p nobody).object → (o ≡ (get_or ks p nobody).object → ⊥) → known_of (set ks p k) o ≡ known_of ks o
known_of-other ks p k o below same other =
    rw (place_of-set ks p k o same) (get_or-set_other ks p (place_of ks o) k nobody
    (λ e. let b : place_of ks o < length ks = rw e below in other (sym (place_of-object ks o b) ∙ ap (λ q. (get_or ks q nobody).object) e)))

past-end : (ks : List Known) (p : ℕ) → length ks ≤ p → (get_or ks p nobody).held ≡ false
past-end [] p above = refl
past-end (k ∷ ks) zero above = absurd (omega arith)
past-end (k ∷ ks) (suc p) above = past-end ks p (omega arith)

-- what is held has a place
pub held-inside : (ks : List Known) (o : ℕ) → (known_of ks o).held ≡ true → place_of ks o < length ks
held-inside ks o is = elim (cases_lt (place_of ks o) (length ks)) [
  | inl b ↦ b
  | inr g ↦ absurd (false≢true (sym (past-end ks (place_of ks o) g) ∙ is))
]

pub fits-set : (m : Setup) (ks : List Known) (p : ℕ) (k : Known) (cs : List Call) → k.object ≡ (get_or ks p nobody).object → All (CallFits m ks) cs → All (CallFits m (set ks p k)) cs
fits-set m ks p k cs same all =
    All-weaker (CallFits m ks) (CallFits m (set ks p k)) (λ c f. record { cpu = f.cpu; object = f.object; place = λ n. rw (place_of-set ks p k (call_object c) same) (f.place n); inside = λ n. rw (length-set ks p k) (f.inside n); cache = f.cache }) cs all

pub distinct-set : (ks : List Known) (p : ℕ) (k : Known) → k.object ≡ (get_or ks p nobody).object → AreDistinct ks → AreDistinct (set ks p k)
distinct-set [] p k same d = d
distinct-set (j ∷ ks) zero k same d = rw same d
distinct-set (j ∷ ks) (suc p) k same d = (place_of-set ks p k j.object same ∙ d.0 ∙ sym (length-set ks p k), distinct-set ks p k same d.1)

-- the first call is no longer asked
pub asked-drop : (o : ℕ) (cs : List Call) → 1 ≤ length cs → asked_in o cs ≡ one_if (is_alloc (call_kind (get_or cs 0 no_call)) && eqb (call_object (get_or cs 0 no_call)) o) + asked_in o (drop 1 cs)
asked-drop o [] some = absurd (omega arith)
asked-drop o (c ∷ cs) some = refl

pub length-drop : (cs : List Call) → 1 ≤ length cs → suc (length (drop 1 cs)) ≡ length cs
length-drop [] some = absurd (omega arith)
length-drop (c ∷ cs) some = refl
