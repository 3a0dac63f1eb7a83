-- The slabs of an opened machine, by their words and the values of the locks, are those of the lists.
use Rattle.std.proofs.Common.{◌≡◌, ℕ, zero, suc, ◌-◌, ◌<◌, ◌≤◌, Bool, true, false, List, get_or, Option, Some, None, refl, ap, sym, ◌∙◌, subst, arith}
use Rattle.std.specs.Prelude.{nat_lt, is_some, option_map, unwrap_or}
use Rattle.std.proofs.lemmas.Bool.{cond-true, cond-false, lt-ltb, le-ltb}
use Rattle.slub_common.proofs.Writes.{inside-of}
use Rattle.slub_red_zone.specs.State.{CheckedState, SlabState, no_slab, objects_in}
use Rattle.slub_red_zone.specs.Objects.{shape_at, shape_of}
use Rattle.slub_words.specs.declared.slab.SlabWord.{SlabWord}
use Rattle.slub_lists.specs.declared.lists.Slab.{Slab}
use Rattle.slub_lists.specs.State.{State}
use Rattle.slub_lists.specs.Alloc.{slab_of, cache_of, checked_of, node_of}
use Rattle.slub_lists.specs.Coherent.{IsConsistent, Agrees}
use Rattle.slub_lists.specs.Places.{layout_at}
use Rattle.slub_lists.proofs.CheckedSlabs.{was-checked}
use Rattle.slub_lists.proofs.Places.{objects-few, order-of-slab, checked-unfrozen}
use Rattle.slub_object_layout.specs.Layout.{order_for}
use Rattle.slub_core.specs.Words.{no_slab_word}
use Rattle.slub_core.specs.World.{World, LockValue, size_in, order_in, objects_in_values, cache_in_values, order_in_values, objects_at, cache_at, order_at, one_if, sum_below}
use Rattle.slub_core.proofs.StepValues.{alone-in}
use Rattle.slub_core.proofs.RemakeStep.{no_value-objects}
use Rattle.slub_core.proofs.Pigeon.{sum_below-none}
use Rattle.slub_law_opening.specs.Opening.{Beside, node_value, value_of, plain_word, slab_word, opened_words}
use Rattle.slub_law_opening.specs.Rests.{slab_at}
use Rattle.slub_law_opening.proofs.Sums.{one-term}

-- ---- values of locks

pub no-size : (s : State) (f k : ℕ) → IsConsistent s → ((x : Slab) → slab_of s f ≡ Some x → x.cache ≡ k → ⊥) → size_in (value_of s (suc k)) f ≡ 0
no-size s f k consistent never = go (checked_of s k) refl
  where
    at : (c : CheckedState) (y : Option Slab) (z : Option SlabState) → slab_of s f ≡ y → Agrees k y (option_map shape_of z) → objects_in (unwrap_or z no_slab) ≡ 0
    at c None None e a = refl
    at c None (Some w) e a = absurd a
    at c (Some x) None e a = refl
    at c (Some x) (Some w) e a = absurd (never x e a.0)

    list : (b : Bool) (fs : List ℕ) → size_in (node_value b None fs) f ≡ 0
    list true fs = refl
    list false fs = refl

    go : (o : Option CheckedState) → checked_of s k ≡ o → size_in (node_value (is_some (cache_of s k)) o (node_of s k)) f ≡ 0
    go None e = list (is_some (cache_of s k)) (node_of s k)
    go (Some c) e = at c (slab_of s f) (get_or c.slabs f None) refl ((was-checked s k c c e consistent.shaped.checked).agrees f)

pub has-size : (s : State) (f : ℕ) (x : Slab) (c : CheckedState) → IsConsistent s → slab_of s f ≡ Some x → checked_of s x.cache ≡ Some c
    → (size_in (value_of s (suc x.cache)) f ≡ x.objects) × (order_in (value_of s (suc x.cache)) f ≡ x.order)
has-size s f x c consistent is was =
    let a = at (get_or c.slabs f None) (subst (λ y. Agrees x.cache y (shape_at c f)) is ((was-checked s x.cache c c was consistent.shaped.checked).agrees f)) in
    let v : value_of s (suc x.cache) ≡ _ = ap (λ o. node_value (is_some (cache_of s x.cache)) o (node_of s x.cache)) was in
    (ap (λ (v : LockValue). size_in v f) v ∙ a.0, ap (λ (v : LockValue). order_in v f) v ∙ a.1)
  where
    at : (z : Option SlabState) → Agrees x.cache (Some x) (option_map shape_of z) → (objects_in (unwrap_or z no_slab) ≡ x.objects) × ((unwrap_or z no_slab).order ≡ x.order)
    at None a = absurd (a refl)
    at (Some w) a = (sym a.2, sym a.1)

-- no value has a slab at a frame
abbrev pub values_with : State → ℕ → ℕ → ℕ
values_with s f n = one_if (nat_lt 0 (size_in (value_of s n) f))

no-value : (s : State) (f : ℕ) (n : ℕ) → ((k : ℕ) → size_in (value_of s (suc k)) f ≡ 0) → values_with s f n ≡ 0
no-value s f zero none = refl
no-value s f (suc k) none = ap (λ n. one_if (nat_lt 0 n)) (none k)

one-le : (b : Bool) → one_if b ≤ 1
one-le true = omega arith
one-le false = omega arith

-- or one has
pub values-one : (s : State) (f m : ℕ) (x : Slab) → IsConsistent s → slab_of s f ≡ Some x → sum_below m (values_with s f) ≤ 1
values-one s f m x consistent is = one-term m (values_with s f) (suc x.cache) (one-le (nat_lt 0 (size_in (value_of s (suc x.cache)) f))) others
  where
    others : (j : ℕ) → (j ≡ suc x.cache → ⊥) → values_with s f j ≡ 0
    others zero d = refl
    others (suc j) d = ap (λ n. one_if (nat_lt 0 n)) (no-size s f j consistent (λ y at here. d (ap suc (sym here ∙ ap (λ (z : Slab). z.cache) (injected (sym at ∙ is))))))
      where
        injected : {x y : Slab} → Some x ≡ Some y → x ≡ y
        injected e = cc

-- ---- a slab word, by cases

pub data IsOpened (s : State) (f : ℕ) (c : SlabWord) : Type 0 where
  is_none : slab_of s f ≡ None → c ≡ no_slab_word → IsOpened s f c
  is_checked : (x : Slab) (k : CheckedState) → slab_of s f ≡ Some x → checked_of s x.cache ≡ Some k → c ≡ no_slab_word → IsOpened s f c
  is_plain : (x : Slab) → slab_of s f ≡ Some x → checked_of s x.cache ≡ None → c ≡ plain_word s f x → IsOpened s f c

pub word-cases : (s : State) (f : ℕ) → IsOpened s f (slab_word s f (slab_of s f))
word-cases s f = go (slab_of s f) refl
  where
    by : (x : Slab) (k : Option CheckedState) → checked_of s x.cache ≡ k → slab_of s f ≡ Some x → IsOpened s f (slab_word s f (slab_of s f))
    by x None e is = is_plain x is e (ap (slab_word s f) is ∙ cond-false (is_some (checked_of s x.cache)) no_slab_word (plain_word s f x) (ap is_some e))
    by x (Some k) e is = is_checked x k is e (ap (slab_word s f) is ∙ cond-true (is_some (checked_of s x.cache)) no_slab_word (plain_word s f x) (ap is_some e))

    go : (y : Option Slab) → slab_of s f ≡ y → IsOpened s f (slab_word s f (slab_of s f))
    go None e = is_none e (ap (slab_word s f) e)
    go (Some x) e = by x (checked_of s x.cache) refl e

-- ---- the slab at a frame

pub slab-none : (w : World) (f : ℕ) → objects_at w f ≡ 0 → slab_at w f ≡ None
slab-none w f none = cond-false {A = Option Slab} (nat_lt 0 (objects_at w f)) _ None (le-ltb 0 (objects_at w f) (omega arith))

pub slab-some : (w : World) (f : ℕ) (x : Slab) → 1 ≤ x.objects → objects_at w f ≡ x.objects → cache_at w f ≡ x.cache → order_at w f ≡ x.order → (w.slab f).frozen ≡ x.frozen → slab_at w f ≡ Some x
slab-some w f x some o c r z =
    cond-true {A = Option Slab} (nat_lt 0 (objects_at w f)) _ None (lt-ltb 0 (objects_at w f) (omega (arith, o, some)))
    ∙ (λ i. Some (record { cache = c i; order = r i; objects = o i; frozen = z i }))

-- without a word it is of a value
unworded : (w : World) (f : ℕ) → w.slab f ≡ no_slab_word → (objects_at w f ≡ objects_in_values w.value w.setup.locks f) × (cache_at w f ≡ cache_in_values w.value w.setup.locks f) × (order_at w f ≡ order_in_values w.value w.setup.locks f)
unworded w f e =
    let none : nat_lt 0 (w.slab f).objects ≡ false = ap (λ (c : SlabWord). nat_lt 0 c.objects) e in
    (cond-false (nat_lt 0 (w.slab f).objects) _ _ none, cond-false (nat_lt 0 (w.slab f).objects) _ _ none, cond-false (nat_lt 0 (w.slab f).objects) _ _ none)

pub slab-opened : (s : State) (b : Beside) (f : ℕ) → IsConsistent s → slab_of s f ≡ slab_at (opened_words s b) f
slab-opened s b f consistent = go (word-cases s f)
  where
    go : IsOpened s f (slab_word s f (slab_of s f)) → slab_of s f ≡ slab_at (opened_words s b) f
    go (is_none e c) =
        let u = unworded (opened_words s b) f c in
        let z = no_value-objects (value_of s) 33 f (sum_below-none 33 (values_with s f) (λ n _. no-value s f n (λ k. no-size s f k consistent (λ x at here. absurd (cc (at, e)))))) in
        e ∙ sym (slab-none (opened_words s b) f (u.0 ∙ z))
    go (is_checked x k e was c) =
        let u = unworded (opened_words s b) f c in
        let h = has-size s f x k consistent e was in
        let few = (objects-few s f x consistent e).0 in
        let within : suc x.cache < 33 = omega (arith, inside-of s.checked x.cache k was, consistent.shaped.checked.numbers) in
        let a = alone-in (value_of s) 33 (suc x.cache) f within (omega (arith, h.0, few)) (values-one s f 33 x consistent e) in
        let d : suc x.cache - 1 ≡ x.cache = omega arith in
        e ∙ sym (slab-some (opened_words s b) f x few (u.0 ∙ a.objects ∙ h.0) (u.1 ∙ a.cache ∙ d) (u.2 ∙ a.order ∙ h.1) (ap (λ (c : SlabWord). c.frozen) c ∙ sym (checked-unfrozen s f x k consistent e was).0))
    go (is_plain x e was c) =
        let few = (objects-few s f x consistent e).0 in
        let o : (opened_words s b).slab f ≡ plain_word s f x = c in
        let there : nat_lt 0 ((opened_words s b).slab f).objects ≡ true = ap (λ (c : SlabWord). nat_lt 0 c.objects) o ∙ lt-ltb 0 x.objects few in
        e ∙ sym (slab-some (opened_words s b) f x few
        (cond-true (nat_lt 0 ((opened_words s b).slab f).objects) _ _ there ∙ ap (λ (c : SlabWord). c.objects) o)
        (cond-true (nat_lt 0 ((opened_words s b).slab f).objects) _ _ there ∙ ap (λ (c : SlabWord). c.cache) o)
        (cond-true (nat_lt 0 ((opened_words s b).slab f).objects) _ _ there ∙ ap (λ (c : SlabWord). order_for (layout_at s c.cache) c.objects) o ∙ sym (order-of-slab s f x consistent e))
        (ap (λ (c : SlabWord). c.frozen) o))
