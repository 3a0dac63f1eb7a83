-- How many objects of a slab are free, used and set aside.
use Rattle.std.proofs.Common.{◌≡◌, ℕ, zero, suc, ◌+◌, ◌<◌, cond, Bool, List, [], ◌∷◌, length, get_or, set, map, count_by, replicate, Some, slice_get, refl, ap, arith, if◌then◌else◌}
use Rattle.std.proofs.lemmas.List.Sums.{sum_by-cons, sum_by-set}
use Rattle.std.proofs.lemmas.Option.{get_or_from_slice_get}
use Rattle.slub_red_zone.specs.declared.slab.ObjectState.{ObjectState}
use Rattle.slub_red_zone.specs.declared.slab.ObjectState.TheVariants.{Free, Used, Aside}
use Rattle.slub_red_zone.specs.State.{is_free, is_used, is_aside}
use Rattle.slub_red_zone.specs.Steps.{set_aside}

-- what one counts
abbrev pub one_if : Bool → ℕ
one_if b = if b then 1 else 0

-- one element is written
pub count-set : {X : Type 0} (p : X → Bool) (xs : List X) (i : ℕ) (y d : X) → i < length xs → count_by p (set xs i y) + one_if (p (get_or xs i d)) ≡ count_by p xs + one_if (p y)
count-set p xs i y d inside = sum_by-set (λ x. cond (p x) 1 0) xs i y d inside

-- a state that counts as free is Free
pub free-state : (state : ObjectState) → 0 < one_if (is_free state) → state ≡ Free
free-state Free some = refl
free-state Used some = absurd (omega (arith, some))
free-state Aside some = absurd (omega (arith, some))

-- what is read is what is there
pub got : (states : List ObjectState) (i : ℕ) (state : ObjectState) → slice_get states i ≡ Some state → get_or states i Aside ≡ state
got states i state e = get_or_from_slice_get states i state Aside e

-- a free object that is given
pub given-kinds : (states : List ObjectState) (i : ℕ) → i < length states → get_or states i Aside ≡ Free
    → (count_by is_free (set states i Used) + 1 ≡ count_by is_free states) × (count_by is_used (set states i Used) ≡ count_by is_used states + 1) × (count_by is_aside (set states i Used) ≡ count_by is_aside states)
given-kinds states i inside free =
    let f : one_if (is_free (get_or states i Aside)) ≡ 1 = ap (λ s. one_if (is_free s)) free in
    let u : one_if (is_used (get_or states i Aside)) ≡ 0 = ap (λ s. one_if (is_used s)) free in
    let a : one_if (is_aside (get_or states i Aside)) ≡ 0 = ap (λ s. one_if (is_aside s)) free in
    (omega (arith, count-set is_free states i Used Aside inside, f), omega (arith, count-set is_used states i Used Aside inside, u), omega (arith, count-set is_aside states i Used Aside inside, a))

-- a used object that is taken back
pub taken-kinds : (states : List ObjectState) (i : ℕ) → i < length states → get_or states i Aside ≡ Used
    → (count_by is_free (set states i Free) ≡ count_by is_free states + 1) × (count_by is_used (set states i Free) + 1 ≡ count_by is_used states) × (count_by is_aside (set states i Free) ≡ count_by is_aside states)
taken-kinds states i inside used =
    let f : one_if (is_free (get_or states i Aside)) ≡ 0 = ap (λ s. one_if (is_free s)) used in
    let u : one_if (is_used (get_or states i Aside)) ≡ 1 = ap (λ s. one_if (is_used s)) used in
    let a : one_if (is_aside (get_or states i Aside)) ≡ 0 = ap (λ s. one_if (is_aside s)) used in
    (omega (arith, count-set is_free states i Free Aside inside, f), omega (arith, count-set is_used states i Free Aside inside, u), omega (arith, count-set is_aside states i Free Aside inside, a))

-- all free objects that are set aside
pub aside-kinds : (states : List ObjectState)
    → (count_by is_free (map set_aside states) ≡ 0) × (count_by is_used (map set_aside states) ≡ count_by is_used states) × (count_by is_aside (map set_aside states) ≡ count_by is_aside states + count_by is_free states)
aside-kinds [] = (refl, refl, refl)
aside-kinds (x ∷ xs) =
    let h = aside-kinds xs in
    let o = each x in (
      omega (arith, sum_by-cons (λ s. cond (is_free s) 1 0) (set_aside x) (map set_aside xs), h, o),
      omega (arith, sum_by-cons (λ s. cond (is_used s) 1 0) (set_aside x) (map set_aside xs), sum_by-cons (λ s. cond (is_used s) 1 0) x xs, h, o),
      omega (arith, sum_by-cons (λ s. cond (is_aside s) 1 0) (set_aside x) (map set_aside xs), sum_by-cons (λ s. cond (is_aside s) 1 0) x xs, sum_by-cons (λ s. cond (is_free s) 1 0) x xs, h, o),
    )
  where
    each : (x : ObjectState) → (one_if (is_free (set_aside x)) ≡ 0) × (one_if (is_used (set_aside x)) ≡ one_if (is_used x)) × (one_if (is_aside (set_aside x)) ≡ one_if (is_aside x) + one_if (is_free x))
    each Free = (refl, refl, refl)
    each Used = (refl, refl, refl)
    each Aside = (refl, refl, refl)

-- the objects of a new slab
pub new-kinds : (n : ℕ) → (count_by is_free (replicate n Free) ≡ n) × (count_by is_used (replicate n Free) ≡ 0) × (count_by is_aside (replicate n Free) ≡ 0)
new-kinds zero = (refl, refl, refl)
new-kinds (suc n) =
    let h = new-kinds n in (
      omega (arith, sum_by-cons (λ s. cond (is_free s) 1 0) Free (replicate n Free), h),
      omega (arith, sum_by-cons (λ s. cond (is_used s) 1 0) Free (replicate n Free), h),
      omega (arith, sum_by-cons (λ s. cond (is_aside s) 1 0) Free (replicate n Free), h),
    )

-- each object is of one kind
pub kinds-sum : (states : List ObjectState) → count_by is_free states + count_by is_used states + count_by is_aside states ≡ length states
kinds-sum [] = refl
kinds-sum (x ∷ xs) =
    let h = kinds-sum xs in let o = each x in
    omega (arith, sum_by-cons (λ s. cond (is_free s) 1 0) x xs, sum_by-cons (λ s. cond (is_used s) 1 0) x xs, sum_by-cons (λ s. cond (is_aside s) 1 0) x xs, h, o)
  where
    each : (x : ObjectState) → one_if (is_free x) + one_if (is_used x) + one_if (is_aside x) ≡ 1
    each Free = refl
    each Used = refl
    each Aside = refl
