-- How often a number stands in a list, and how many names a number has.
use Rattle.std.proofs.Common.{◌≡◌, ◌≢◌, ℕ, zero, suc, ◌+◌, ◌<◌, ◌≤◌, cond, Bool, true, false, not, List, [], ◌∷◌, ◌++◌, length, filter, count_by, Option, Some, refl, subst, arith, eqb, nat_lt}
use Rattle.std.proofs.lemmas.List.Elements.{All-head, All-tail, All-cons}
use Rattle.std.proofs.lemmas.List.Sums.{sum_by-cons, sum_by_push, count_by-le-length}
use Rattle.std.proofs.lemmas.Bool.Decides.{nat_tests}
use Rattle.std.specs.List.{All}
use Rattle.std.specs.Map.{lookup, remove_entry}
use Rattle.slub_common.specs.Times.{times}

-- how many entries have this value
abbrev pub having : {K : Type 0} → ℕ → List (K × ℕ) → ℕ
having x es = count_by (λ e. eqb e.1 x) es

-- one more at the end
pub having-push : {K : Type 0} (x : ℕ) (k : K) (y : ℕ) (es : List (K × ℕ)) → having x (es ++ (k, y) ∷ []) ≡ having x es + cond (eqb y x) 1 0
having-push x k y es = sum_by_push (λ e. cond (eqb e.1 x) 1 0) es (k, y)

pub having-le : {K : Type 0} (x : ℕ) (es : List (K × ℕ)) → having x es ≤ length es
having-le x es = count_by-le-length (λ e. eqb e.1 x) es

-- without one number, each other stands as often as before
pub times-filter : (x k : ℕ) (xs : List ℕ) → times x (filter (λ y. not (eqb y k)) xs) ≡ cond (eqb x k) 0 (times x xs)
times-filter x k [] = grind (arith, nat_tests)
times-filter x k (y ∷ ys) =
    let h = times-filter x k ys in
    let whole = sum_by-cons (λ y. cond (eqb y x) 1 0) y ys in
    let kept = sum_by-cons (λ y. cond (eqb y x) 1 0) y (filter (λ y. not (eqb y k)) ys) in
    grind (arith, nat_tests, h, whole, kept)

-- an entry that is taken out counts no more
pub having-removed : {K : Type 0} (test : K → Bool) (x y : ℕ) (es : List (K × ℕ)) → lookup test es ≡ Some y → having x (remove_entry test es) + cond (eqb y x) 1 0 ≡ having x es
having-removed test x y [] found = absurd cc
having-removed {K} test x y (e ∷ es) found = by (test e.0) refl (having-removed test x y es)
  where
    whole : having x (e ∷ es) ≡ cond (eqb e.1 x) 1 0 + having x es
    whole = sum_by-cons (λ e. cond (eqb e.1 x) 1 0) e es

    by : (b : Bool) → test e.0 ≡ b → (lookup test es ≡ Some y → having x (remove_entry test es) + cond (eqb y x) 1 0 ≡ having x es) → having x (remove_entry test (e ∷ es)) + cond (eqb y x) 1 0 ≡ having x (e ∷ es)
    by true is below =
        let here : ◌≡◌ {A = Option ℕ} (Some e.1) (Some y) = rw is at found in
        let same : e.1 ≡ y = cc in
        rw is (rw (← same) (omega (arith, whole)))
    by false is below =
        let rest = below (rw is at found) in
        let kept : having x (e ∷ remove_entry test es) ≡ cond (eqb e.1 x) 1 0 + having x (remove_entry test es) = sum_by-cons (λ e. cond (eqb e.1 x) 1 0) e (remove_entry test es) in
        rw is (omega (arith, whole, kept, rest))

pub length-removed : {K X : Type 0} (test : K → Bool) (es : List (K × X)) → length (remove_entry test es) ≤ length es
length-removed test [] = omega arith
length-removed test (e ∷ es) = by (test e.0) refl (length-removed test es)
  where
    by : (b : Bool) → test e.0 ≡ b → length (remove_entry test es) ≤ length es → length (remove_entry test (e ∷ es)) ≤ length (e ∷ es)
    by true is rest = rw is (omega arith)
    by false is rest = rw is (omega (arith, rest))

pub All-removed : {K X : Type 0} (P : K × X → Type 0) (test : K → Bool) (es : List (K × X)) → All P es → All P (remove_entry test es)
All-removed P test [] all = all
All-removed P test (e ∷ es) all = by (test e.0) refl (All-removed P test es (All-tail P e es all))
  where
    by : (b : Bool) → test e.0 ≡ b → All P (remove_entry test es) → All P (remove_entry test (e ∷ es))
    by true is rest = rw is (All-tail P e es all)
    by false is rest = rw is (All-cons P e (remove_entry test es) (All-head P e es all) rest)

-- entries below a number and those of that number
below-more : {K : Type 0} (n : ℕ) (es : List (K × ℕ)) → count_by (λ e. nat_lt e.1 (suc n)) es ≡ count_by (λ e. nat_lt e.1 n) es + having n es
below-more n [] = refl
below-more n (e ∷ es) =
    let h = below-more n es in
    let one = sum_by-cons (λ e. cond (nat_lt e.1 (suc n)) 1 0) e es in
    let two = sum_by-cons (λ e. cond (nat_lt e.1 n) 1 0) e es in
    let three = sum_by-cons (λ e. cond (eqb e.1 n) 1 0) e es in
    grind (arith, nat_tests, h, one, two, three)

-- where each number below n has an entry, there are n entries or more
pub many : {K : Type 0} (n : ℕ) (es : List (K × ℕ)) → ((x : ℕ) → x < n → 1 ≤ having x es) → n ≤ count_by (λ e. nat_lt e.1 n) es
many zero es some = omega arith
many (suc n) es some = omega (arith, many n es (λ x less. some x (omega arith)), below-more n es, some n (omega arith))

pub many-within : {K : Type 0} (n : ℕ) (es : List (K × ℕ)) → ((x : ℕ) → x < n → 1 ≤ having x es) → n ≤ length es
many-within n es some = omega (arith, many n es some, count_by-le-length (λ e. nat_lt e.1 n) es)

-- a number that no entry has is had by none
pub having-none : {K : Type 0} (x : ℕ) (P : ℕ → Type 0) (es : List (K × ℕ)) → ¬ P x → All (λ e. P e.1) es → having x es ≡ 0
having-none x P [] never all = refl
having-none {K} x P (e ∷ es) never all =
    let rest = having-none x P es never (All-tail (λ e. P e.1) e es all) in
    let whole : having x (e ∷ es) ≡ cond (eqb e.1 x) 1 0 + having x es = sum_by-cons (λ e. cond (eqb e.1 x) 1 0) e es in
    let other : e.1 ≢ x = λ same. never (subst P same (All-head (λ e. P e.1) e es all)) in
    grind (arith, nat_tests, rest, whole, other)
