-- One slab at a frame: of its word, or of a checked cache's value.
use Rattle.std.proofs.Common.{◌≡◌, ℕ, zero, suc, ◌-◌, ◌<◌, ◌≤◌, ◌⊎◌, true, refl, sym, ◌∙◌, subst, arith, inl, inr}
use Rattle.std.specs.Prelude.{nat_lt}
use Rattle.std.proofs.lemmas.Bool.{cases_eq, cases_lt, cases_Bool, lt-ltb, le-ltb}
use Rattle.slub_red_zone.specs.State.{CheckedState}
use Rattle.slub_core.specs.Setup.{Setup, IsPlain, IsChecked, node_lock}
use Rattle.slub_object_layout.specs.Layout.{order_for}
use Rattle.slub_core.specs.World.{World, Chains, LockValue, Nothing, Node, Checked, Pool, size_in, order_in, objects_in_values, cache_in_values, order_in_values, objects_at, cache_at, order_at, object_at, one_if, sum_below, live}
use Rattle.slub_core.specs.Listed.{IsGuarded, IsCheckedOf, IsShaped}
use Rattle.slub_core.proofs.Update.{term_le_sum}

-- a slab with a word
pub word-objects : (w : World) (f : ℕ) → 1 ≤ (w.slab f).objects → objects_at w f ≡ (w.slab f).objects
word-objects w f some = rw (lt-ltb 0 (w.slab f).objects (omega arith)) refl

pub word-cache : (w : World) (f : ℕ) → 1 ≤ (w.slab f).objects → cache_at w f ≡ (w.slab f).cache
word-cache w f some = rw (lt-ltb 0 (w.slab f).objects (omega arith)) refl

pub word-order : (w : World) (f : ℕ) → 1 ≤ (w.slab f).objects → order_at w f ≡ order_for (w.setup.layout (w.slab f).cache) (w.slab f).objects
word-order w f some = rw (lt-ltb 0 (w.slab f).objects (omega arith)) refl

-- an object lies within its slab
pub object-within : (w : World) (f i : ℕ) → 1 ≤ object_at w f i → i < objects_at w f
object-within w f i some = elim (cases_lt i (objects_at w f)) [ inl l ↦ l | inr g ↦ absurd (let z : object_at w f i ≡ 0 = rw (le-ltb i (objects_at w f) g) refl in omega arith) ]

-- the value that has a slab, of the first n locks
pub record InValue (value : ℕ → LockValue) (n f : ℕ) : Type 0 where
  pub lock : ℕ
  pub below : lock < n
  pub some : 1 ≤ size_in (value lock) f
  pub objects : objects_in_values value n f ≡ size_in (value lock) f
  pub cache : cache_in_values value n f ≡ lock - 1
  pub order : order_in_values value n f ≡ order_in (value lock) f

pub in-value : (value : ℕ → LockValue) (n f : ℕ) → 1 ≤ objects_in_values value n f → InValue value n f
in-value value zero f some = absurd (omega arith)
in-value value (suc n) f some = elim (cases_lt 0 (size_in (value n) f)) [
  | inl l ↦ (let t = lt-ltb 0 (size_in (value n) f) l in record { lock = n; below = omega arith; some = omega arith; objects = rw t refl; cache = rw t refl; order = rw t refl })
  | inr g ↦ (
      let t = le-ltb 0 (size_in (value n) f) g in
      let more : 1 ≤ objects_in_values value n f = rw t at some in
      let r = in-value value n f more in
      let b = r.below in
      record { lock = r.lock; below = omega arith; some = r.some; objects = rw t r.objects; cache = rw t r.cache; order = rw t r.order })
]

-- where the value of lock k has a slab at the frame, it is the one that is there
pub record IsOf (value : ℕ → LockValue) (n k f : ℕ) : Type 0 where
  pub objects : objects_in_values value n f ≡ size_in (value k) f
  pub cache : cache_in_values value n f ≡ k - 1
  pub order : order_in_values value n f ≡ order_in (value k) f

pub alone-in : (value : ℕ → LockValue) (n k f : ℕ) → k < n → 1 ≤ size_in (value k) f → sum_below n (λ k. one_if (nat_lt 0 (size_in (value k) f))) ≤ 1 → IsOf value n k f
alone-in value zero k f below some one = absurd (omega arith)
alone-in value (suc n) k f below some one = elim (cases_eq k n) [
  | inl e ↦ (let t : nat_lt 0 (size_in (value n) f) ≡ true = lt-ltb 0 (size_in (value n) f) (subst (λ j. 1 ≤ size_in (value j) f) e some) in rw e (record { objects = rw t refl; cache = rw t refl; order = rw t refl }))
  | inr d ↦ (
      let mine : one_if (nat_lt 0 (size_in (value k) f)) ≡ 1 = rw (lt-ltb 0 (size_in (value k) f) (omega arith)) refl in
      let t = term_le_sum n (λ k. one_if (nat_lt 0 (size_in (value k) f))) k (omega arith) in
      elim (cases_Bool (nat_lt 0 (size_in (value n) f))) [
        | inl e ↦ absurd (let last : one_if (nat_lt 0 (size_in (value n) f)) ≡ 1 = rw e refl in omega arith)
        | inr e ↦ (let r = alone-in value n k f (omega arith) some (omega arith) in record { objects = rw e r.objects; cache = rw e r.cache; order = rw e r.order })
      ])
]

-- a slab of a value has no word, and no other value has it
pub value-slab : (w : World) (y : Chains) (k f : ℕ) → IsShaped w y → k < w.setup.locks → 1 ≤ size_in (w.value k) f
    → ((w.slab f).objects ≡ 0) × (objects_at w f ≡ size_in (w.value k) f) × (cache_at w f ≡ k - 1) × (order_at w f ≡ order_in (w.value k) f)
value-slab w y k f sh below some =
    let a = sh.alone f in
    let mine : one_if (nat_lt 0 (size_in (w.value k) f)) ≡ 1 = rw (lt-ltb 0 (size_in (w.value k) f) (omega arith)) refl in
    let t = term_le_sum w.setup.locks (λ k. one_if (nat_lt 0 (size_in (w.value k) f))) k below in
    let none : (w.slab f).objects ≡ 0 = elim (cases_lt 0 (w.slab f).objects) [
      | inl l ↦ absurd (let o : live (w.slab f) ≡ 1 = rw (lt-ltb 0 (w.slab f).objects l) refl in omega arith)
      | inr g ↦ omega arith
    ] in
    let r = alone-in w.value w.setup.locks k f below some (omega arith) in
    (none, rw none r.objects, rw none r.cache, rw none r.order)

-- a value with a slab is of a checked cache
pub checked-value : (m : Setup) (n f : ℕ) (v : LockValue) → IsGuarded m n v → 1 ≤ size_in v f → (cache : ℕ) × (slabs : CheckedState) × (v ≡ Checked slabs) × (n ≡ node_lock cache) × (m.lives cache ≡ true) × (m.checks cache ≡ true) × IsCheckedOf m cache slabs
checked-value m n f Nothing g some = absurd (omega arith)
checked-value m n f (Node frames) g some = absurd (omega arith)
checked-value m n f (Pool pool) g some = absurd (omega arith)
checked-value m n f (Checked slabs) g some = (g.0, slabs, refl, g.1, g.2, g.3, g.4)

-- where a slab has no word, its cache is checked
pub unworded-cache : (w : World) (f : ℕ) → (w.slab f).objects ≡ 0 → cache_at w f ≡ cache_in_values w.value w.setup.locks f
unworded-cache w f none = rw none refl

pub unworded-objects : (w : World) (f : ℕ) → (w.slab f).objects ≡ 0 → objects_at w f ≡ objects_in_values w.value w.setup.locks f
unworded-objects w f none = rw none refl

pub checked-cache : (w : World) (y : Chains) (f : ℕ) → IsShaped w y → (w.slab f).objects ≡ 0 → 1 ≤ objects_at w f → (cache : ℕ) × (cache_at w f ≡ cache) × (w.setup.lives cache ≡ true) × (w.setup.checks cache ≡ true)
checked-cache w y f sh none some =
    let o = unworded-objects w f none in
    let r = in-value w.value w.setup.locks f (omega arith) in
    let c = checked-value w.setup r.lock f (w.value r.lock) (sh.guarded r.lock r.below) r.some in
    (c.0, unworded-cache w f none ∙ r.cache ∙ (let e = c.3 in omega arith), c.4, c.5)

-- the cache of a slab is live, and checked where the slab has no word
pub cache-live : (w : World) (y : Chains) (f : ℕ) → IsShaped w y → ((cache : ℕ) → w.setup.lives cache ≡ true → cache < 32) → 1 ≤ objects_at w f → IsPlain w.setup (cache_at w f) ⊎ IsChecked w.setup (cache_at w f)
cache-live w y f sh lives some = elim (cases_lt 0 (w.slab f).objects) [
  | inl l ↦ inl (subst (IsPlain w.setup) (sym (word-cache w f (omega arith))) (sh.plain f (omega arith)))
  | inr g ↦ inr (let c = checked-cache w y f sh (omega arith) some in subst (IsChecked w.setup) (sym c.1) (lives c.0 c.2, c.2, c.3))
]
