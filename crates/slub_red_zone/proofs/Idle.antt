-- Which objects of a slab are idle.
use Rattle.std.proofs.Common.{◌≡◌, ℕ, zero, suc, ◌+◌, ◌<◌, List, [], ◌∷◌, length, get_or, set, map, count_by, replicate, Option, Some, slice_get, refl, ap, arith, cond, eqb, if◌then◌else◌}
use Rattle.std.proofs.lemmas.Bool.Decides.{nat_tests}
use Rattle.std.proofs.lemmas.List.Sums.{sum_by-cons}
use Rattle.slub_red_zone.specs.declared.slab.ObjectState.{ObjectState}
use Rattle.slub_red_zone.specs.declared.slab.ObjectState.TheVariants.{Free, Used, Aside}
use Rattle.slub_red_zone.specs.State.{is_used}
use Rattle.slub_red_zone.specs.Steps.{set_aside}
use Rattle.slub_red_zone.specs.Objects.{is_idle, one_of}

-- 1 for an idle object
abbrev pub one_idle : Option ObjectState → ℕ
one_idle x = if is_idle x then 1 else 0

-- 1 for the same index
abbrev pub same : ℕ → ℕ → ℕ
same i j = if eqb i j then 1 else 0

-- a free object that is given is idle no more
pub idle-given : (states : List ObjectState) (i j : ℕ) → i < length states → get_or states i Aside ≡ Free → one_idle (slice_get states j) ≡ one_idle (slice_get (set states i Used) j) + same i j
idle-given [] i j inside free = absurd (omega (arith, inside))
idle-given (x ∷ xs) zero zero inside free = let e : one_idle (Some x) ≡ 1 = ap (λ s. one_idle (Some s)) free in grind (arith, nat_tests, e)
idle-given (x ∷ xs) zero (suc j) inside free = grind (arith, nat_tests)
idle-given (x ∷ xs) (suc i) zero inside free = grind (arith, nat_tests)
idle-given (x ∷ xs) (suc i) (suc j) inside free = let h = idle-given xs i j (omega (arith, inside)) free in grind (arith, nat_tests, h)

-- a used object that is taken back is idle
pub idle-taken : (states : List ObjectState) (i j : ℕ) → i < length states → get_or states i Aside ≡ Used → one_idle (slice_get (set states i Free) j) ≡ one_idle (slice_get states j) + same i j
idle-taken [] i j inside used = absurd (omega (arith, inside))
idle-taken (x ∷ xs) zero zero inside used = let e : one_idle (Some x) ≡ 0 = ap (λ s. one_idle (Some s)) used in grind (arith, nat_tests, e)
idle-taken (x ∷ xs) zero (suc j) inside used = grind (arith, nat_tests)
idle-taken (x ∷ xs) (suc i) zero inside used = grind (arith, nat_tests)
idle-taken (x ∷ xs) (suc i) (suc j) inside used = let h = idle-taken xs i j (omega (arith, inside)) used in grind (arith, nat_tests, h)

-- one that is set aside stays idle
pub idle-aside : (states : List ObjectState) (j : ℕ) → one_idle (slice_get (map set_aside states) j) ≡ one_idle (slice_get states j)
idle-aside [] j = refl
idle-aside (Free ∷ xs) zero = refl
idle-aside (Used ∷ xs) zero = refl
idle-aside (Aside ∷ xs) zero = refl
idle-aside (x ∷ xs) (suc j) = idle-aside xs j

-- each object of a new slab is idle
pub idle-new : (n j : ℕ) → one_idle (slice_get (replicate n Free) j) ≡ one_of n j
idle-new zero j = grind (arith, nat_tests)
idle-new (suc n) zero = grind (arith, nat_tests)
idle-new (suc n) (suc j) = let h = idle-new n j in grind (arith, nat_tests, h)

-- where none is used, each is idle
pub idle-all : (states : List ObjectState) (j : ℕ) → count_by is_used states ≡ 0 → one_idle (slice_get states j) ≡ one_of (length states) j
idle-all [] j none = grind (arith, nat_tests)
idle-all (Free ∷ xs) zero none = grind (arith, nat_tests)
idle-all (Used ∷ xs) zero none = absurd (omega (arith, none, sum_by-cons (λ s. cond (is_used s) 1 0) Used xs))
idle-all (Aside ∷ xs) zero none = grind (arith, nat_tests)
idle-all (x ∷ xs) (suc j) none = let h = idle-all xs j (omega (arith, none, sum_by-cons (λ s. cond (is_used s) 1 0) x xs)) in grind (arith, nat_tests, h)

-- what was written is there
pub slice_get-set : {X : Type 0} (xs : List X) (i : ℕ) (x : X) → i < length xs → slice_get (set xs i x) i ≡ Some x
slice_get-set [] i x inside = absurd (omega (arith, inside))
slice_get-set (y ∷ ys) zero x inside = refl
slice_get-set (y ∷ ys) (suc i) x inside = slice_get-set ys i x (omega (arith, inside))
