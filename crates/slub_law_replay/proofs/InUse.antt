-- An object of a checked cache that a worker holds is in use there, by the value of the cache's lock.
use Rattle.std.proofs.Common.{◌≡◌, ℕ, zero, suc, ◌<◌, ◌≤◌, Bool, true, false, Some, List, [], ◌∷◌, length, get_or, refl, sym, ap, subst, ◌∙◌, arith, inl, inr}
use Rattle.std.specs.Prelude.{nat_lt, slice_get}
use Rattle.std.proofs.lemmas.Bool.{cases_lt, false≢true}
use Rattle.std.proofs.lemmas.List.Elements.{All-head}
use Rattle.slub_red_zone.specs.declared.slab.ObjectState.{ObjectState}
use Rattle.slub_red_zone.specs.declared.slab.ObjectState.TheVariants.{Free, Used, Aside}
use Rattle.slub_red_zone.specs.State.{CheckedState, IsUsed, objects_in, slab_of}
use Rattle.slub_red_zone.specs.Objects.{idle, is_idle}
use Rattle.slub_core.specs.declared.local.Known.{Known}
use Rattle.slub_core.specs.Setup.{node_lock}
use Rattle.slub_core.specs.World.{World, Checked, cache_at, idle_in, object_at, objects_at, one_if, size_in}
use Rattle.slub_core.specs.Local.{Worker, nobody}
use Rattle.slub_core.specs.Checked.{slabs_in}
use Rattle.slub_core.specs.Listed.{IsCheckedOf}
use Rattle.slub_core.specs.Fresh.{IsAtWork}
use Rattle.slub_core.specs.Coherent.{Stands}
use Rattle.slub_core.proofs.Counts.{places-cons}
use Rattle.slub_core.proofs.StepValues.{checked-value, in-value, object-within, unworded-cache, unworded-objects, word-cache}
use Rattle.slub_core.proofs.UnderLock.{checked-is}
use Rattle.slub_core.proofs.Update.{term_le_sum}
use Rattle.slub_core.proofs.ValueStep.{known-owned}

pub the-slabs : (w : World) (xs : List Worker) (cache : ℕ) → Stands w xs → w.setup.checks cache ≡ true → (slabs : CheckedState) × (w.value (node_lock cache) ≡ Checked slabs) × IsCheckedOf w.setup cache slabs
the-slabs w xs cache s checks =
    let setup = s.fresh.setup in
    let lives = setup.checked cache checks in
    let few = setup.live cache lives in
    let count = setup.locks in
    checked-is w.setup cache (w.value (node_lock cache)) (few, lives, checks) (s.listed.shaped.guarded (node_lock cache) (omega arith))

-- what is held has a place
held-inside : (ks : List Known) (i : ℕ) → (get_or ks i nobody).held ≡ true → i < length ks
held-inside [] i is = absurd (false≢true is)
held-inside (k ∷ ks) zero is = omega arith
held-inside (k ∷ ks) (suc i) is = let below = held-inside ks i is in omega arith

used-state : (states : List ObjectState) (i : ℕ) → i < length states → one_if (is_idle (slice_get states i)) ≡ 0 → slice_get states i ≡ Some Used
used-state [] i below none = absurd (omega arith)
used-state (Free ∷ states) zero below none = absurd (omega (arith, none))
used-state (Used ∷ states) zero below none = refl
used-state (Aside ∷ states) zero below none = absurd (omega (arith, none))
used-state (state ∷ states) (suc i) below none = used-state states i (omega arith) none

-- an object of a checked cache is in a slab of it
is-in-slab : (w : World) (xs : List Worker) (old : CheckedState) (cache f i : ℕ) → Stands w xs → w.setup.checks cache ≡ true → w.value (node_lock cache) ≡ Checked old → cache ≡ cache_at w f → 1 ≤ object_at w f i → i < objects_in (slab_of old f)
is-in-slab w xs old cache f i s checks is owner some =
    let within = object-within w f i some in
    let none : (w.slab f).objects ≡ 0 = elim (cases_lt 0 (w.slab f).objects) [
      | inl l ↦ absurd (false≢true (sym (s.listed.shaped.plain f (omega arith)).2 ∙ ap w.setup.checks (sym (owner ∙ word-cache w f (omega arith))) ∙ checks))
      | inr g ↦ omega arith
    ] in
    let o = unworded-objects w f none in
    let r = in-value w.value w.setup.locks f (omega arith) in
    let c = checked-value w.setup r.lock f (w.value r.lock) (s.listed.shaped.guarded r.lock r.below) r.some in
    let lock : r.lock ≡ node_lock cache = let a = c.3 in let b = r.cache in let d = unworded-cache w f none in omega arith in
    let size : size_in (w.value r.lock) f ≡ objects_in (slab_of old f) = ap (λ n. size_in (w.value n) f) lock ∙ ap (λ v. size_in v f) is in
    let b = r.objects in
    omega arith

pub in-use : (w : World) (x : Worker) (others : List Worker) (i : ℕ) → Stands w (x ∷ others) → let k = get_or x.local.known i nobody in k.held ≡ true → w.setup.checks k.cache ≡ true
    → IsUsed (slabs_in (w.setup.layout k.cache) (w.value (node_lock k.cache))) (record { frame = k.frame; index = k.index })
in-use w x others i s held checks =
    let k = get_or x.local.known i nobody in
    let f = k.frame in
    let j = k.index in
    let ok = All-head (IsAtWork w) x others s.fresh.workers in
    let inside = held-inside x.local.known i held in
    let owns = known-owned x i nobody inside held in
    let r = the-slabs w (x ∷ others) k.cache s checks in
    let p = places-cons w s.chains x others f j in
    let o = s.placed.once f j in
    let one = bit (nat_lt j (objects_at w f)) in
    let there = is-in-slab w (x ∷ others) r.0 k.cache f j s checks r.1 (ok.seen.known i nobody inside held) (omega arith) in
    let setup = s.fresh.setup in
    let few = setup.live k.cache (setup.checked k.cache checks) in
    let count = setup.locks in
    let t = term_le_sum w.setup.locks (λ n. idle_in (w.value n) f j) (node_lock k.cache) (omega arith) in
    let z : idle_in (w.value (node_lock k.cache)) f j ≡ idle r.0 f j = ap (λ v. idle_in v f j) r.1 in
    subst (λ slabs. IsUsed slabs (record { frame = f; index = j })) (sym (ap (slabs_in (w.setup.layout k.cache)) r.1)) (used-state (slab_of r.0 f).states j there (omega arith))
  where
    bit : (b : Bool) → one_if b ≤ 1
    bit true = omega arith
    bit false = omega arith
