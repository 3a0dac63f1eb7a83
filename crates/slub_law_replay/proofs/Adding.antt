-- Sums over the numbers below a bound.
use Rattle.std.proofs.Common.{add-one, length, get_or, true, false, Bool, take, take_all, drop, min, ◌≡◌, ℕ, zero, suc, ◌+◌, ◌-◌, ◌*◌, ◌<◌, ◌≤◌, List, [], ◌∷◌, refl, sym, ap, ◌∙◌, inl, inr, arith}
use Rattle.std.specs.Prelude.{sum_by, ◌==◌, nat_lt, slice_range, if◌then◌else◌}
use Rattle.std.proofs.Math.ListN.{get_or-eq_default}
use Rattle.std.proofs.lemmas.List.Sums.{sum_by-cons, sum_by_more, get_or-le-sum_by}
use Rattle.std.proofs.lemmas.List.{length-drop, get_or-drop}
use Rattle.std.proofs.lemmas.Bool.{cases_eq, cases_lt, eq-eqb, ne_eqb}
use Rattle.std.proofs.lemmas.Bool.Decides.{nat_tests}
use Rattle.slub_common.specs.Times.{times}

-- the sum of what is at 0 up to n - 1
abbrev pub upto : (ℕ → ℕ) → ℕ → ℕ
upto g zero = 0
upto g (suc n) = upto g n + g n

pub upto_same : (g h : ℕ → ℕ) (n : ℕ) → ((i : ℕ) → i < n → g i ≡ h i) → upto g n ≡ upto h n
upto_same g h zero same = refl
upto_same g h (suc n) same =
    let front = upto_same g h n (λ i within. same i (omega arith)) in
    let last = same n (omega arith) in
    omega (arith, front, last)

pub upto_none : (g : ℕ → ℕ) (n : ℕ) → ((i : ℕ) → i < n → g i ≡ 0) → upto g n ≡ 0
upto_none g zero none = refl
upto_none g (suc n) none =
    let front = upto_none g n (λ i within. none i (omega arith)) in
    let last = none n (omega arith) in
    omega (arith, front, last)

pub upto_both : (g h : ℕ → ℕ) (n : ℕ) → upto (λ i. g i + h i) n ≡ upto g n + upto h n
upto_both g h zero = refl
upto_both g h (suc n) = let front = upto_both g h n in omega (arith, front)

-- one number alone counts
pub upto_one : (g : ℕ → ℕ) (n at : ℕ) → at < n → ((i : ℕ) → i < n → (i ≡ at → ⊥) → g i ≡ 0) → upto g n ≡ g at
upto_one g zero at within others = absurd (omega arith)
upto_one g (suc n) at within others =
    elim (cases_eq n at) [
      | inl same ↦
          let front = upto_none g n (λ i below. others i (omega arith) (λ (e : i ≡ at). omega arith)) in
          let last : g n ≡ g at = ap g same in
          omega (arith, front, last)
      | inr other ↦
          let front = upto_one g n at (omega arith) (λ i below not_at. others i (omega arith) not_at) in
          let last : g n ≡ 0 = others n (omega arith) other in
          omega (arith, front, last)
    ]

-- sums over a list and over numbers change places
pub upto_sum_by : {X : Type 0} (f : ℕ → X → ℕ) (xs : List X) (n : ℕ) → upto (λ i. sum_by (f i) xs) n ≡ sum_by (λ x. upto (λ i. f i x) n) xs
upto_sum_by f [] n = upto_none (λ i. 0) n (λ i within. refl)
upto_sum_by f (x ∷ xs) n =
    let split = upto_same (λ i. sum_by (f i) (x ∷ xs)) (λ i. f i x + sum_by (f i) xs) n (λ i within. sum_by-cons (f i) x xs) in
    let parts = upto_both (λ i. f i x) (λ i. sum_by (f i) xs) n in
    let rest = upto_sum_by f xs n in
    let whole = sum_by-cons (λ x. upto (λ i. f i x) n) x xs in
    omega (arith, split, parts, rest, whole)

-- the sum over a list, by its places
pub upto_take : {X : Type 0} (f : X → ℕ) (xs : List X) (d : X) (n : ℕ) → n ≤ length xs → sum_by f (take n xs) ≡ upto (λ i. f (get_or xs i d)) n
upto_take f xs d zero within = refl
upto_take f xs d (suc n) within =
    let front = upto_take f xs d n (omega arith) in
    let more : sum_by f (take (n + 1) xs) ≡ sum_by f (take n xs) + f (get_or xs n d) = sum_by_more f xs n d (omega arith) in
    let same : sum_by f (take (suc n) xs) ≡ sum_by f (take (n + 1) xs) = ap (λ k. sum_by f (take k xs)) (sym (add-one n)) in
    omega (arith, front, more, same)

pub upto_list : {X : Type 0} (f : X → ℕ) (xs : List X) (d : X) → sum_by f xs ≡ upto (λ i. f (get_or xs i d)) (length xs)
upto_list f xs d = sym (ap (sum_by f) (take_all (length xs) xs (omega arith))) ∙ upto_take f xs d (length xs) (omega arith)

-- two sums where a test holds
pub share_both : (b : Bool) (x y : ℕ) → (if b then x + y else 0) ≡ (if b then x else 0) + (if b then y else 0)
share_both true x y = refl
share_both false x y = refl

times_cons : (i x : ℕ) (xs : List ℕ) → times i (x ∷ xs) ≡ (if x == i then 1 else 0) + times i xs
times_cons i x xs = sum_by-cons (λ y. if y == i then 1 else 0) x xs

own_share : (x : ℕ) → (if x == x then 1 else 0) ≡ suc zero
own_share x = grind (arith, nat_tests)

-- a list of numbers below a bound is as long as they stand in it
pub upto_times : (xs : List ℕ) (n : ℕ) → ((i : ℕ) → n ≤ i → times i xs ≡ 0) → upto (λ i. times i xs) n ≡ length xs
upto_times [] n below = upto_none (λ i. 0) n (λ i within. refl)
upto_times (x ∷ xs) n below =
    let split = upto_same (λ i. times i (x ∷ xs)) (λ i. (if x == i then 1 else 0) + times i xs) n (λ i within. times_cons i x xs) in
    let parts = upto_both (λ i. if x == i then 1 else 0) (λ i. times i xs) n in
    let rest = upto_times xs n (λ i past. let none = below i past in let more = times_cons i x xs in omega (arith, none, more)) in
    let within : x < n = elim (cases_lt x n) [
      | inl here ↦ here
      | inr past ↦ let none = below x past in let more = times_cons x x xs in absurd (grind (arith, nat_tests, none, more))
    ] in
    let one = upto_one (λ i. if x == i then 1 else 0) n x within (λ i here other. grind (arith, nat_tests, other)) in
    let that = own_share x in
    omega (arith, split, parts, rest, one, that)

-- ---- sums in parts

pub upto_split : (g : ℕ → ℕ) (a n : ℕ) → upto g (a + n) ≡ upto g a + upto (λ j. g (a + j)) n
upto_split g a zero =
    let same : a + zero ≡ a = omega arith in
    let whole : upto g (a + zero) ≡ upto g a = ap (upto g) same in
    omega (arith, whole)
upto_split g a (suc n) =
    let same : a + suc n ≡ suc (a + n) = omega arith in
    let whole : upto g (a + suc n) ≡ upto g (suc (a + n)) = ap (upto g) same in
    let front = upto_split g a n in
    omega (arith, whole, front)

-- row by row
pub upto_rows : (g : ℕ → ℕ) (rows n : ℕ) → upto g (rows * n) ≡ upto (λ a. upto (λ b. g (a * n + b)) n) rows
upto_rows g zero n =
    let same : zero * n ≡ zero = omega arith in
    ap (upto g) same
upto_rows g (suc rows) n =
    let same : suc rows * n ≡ rows * n + n = omega arith in
    let whole : upto g (suc rows * n) ≡ upto g (rows * n + n) = ap (upto g) same in
    let split = upto_split g (rows * n) n in
    let front = upto_rows g rows n in
    omega (arith, whole, split, front)

-- one row alone counts
pub upto_row : (g h : ℕ → ℕ) (rows n at : ℕ) → at < rows → ((a b : ℕ) → b < n → (a ≡ at → ⊥) → g (a * n + b) ≡ 0) → ((b : ℕ) → b < n → g (at * n + b) ≡ h b) → upto g (rows * n) ≡ upto h n
upto_row g h rows n at within others here =
    upto_rows g rows n
    ∙ upto_one (λ a. upto (λ b. g (a * n + b)) n) rows at within (λ a inside other. upto_none (λ b. g (a * n + b)) n (λ b below. others a b below other))
    ∙ upto_same (λ b. g (at * n + b)) h n here

-- nothing counts from n on
pub upto_more : (g : ℕ → ℕ) (n more : ℕ) → n ≤ more → ((i : ℕ) → n ≤ i → g i ≡ 0) → upto g more ≡ upto g n
upto_more g n more within past =
    let same : n + (more - n) ≡ more = omega arith in
    let split = upto_split g n (more - n) in
    let rest = upto_none (λ j. g (n + j)) (more - n) (λ j below. past (n + j) (omega arith)) in
    let whole : upto g (n + (more - n)) ≡ upto g more = ap (upto g) same in
    omega (arith, split, rest, whole)

-- the sum over a list, past its end too
pub upto_list_past : {X : Type 0} (f : X → ℕ) (xs : List X) (d : X) (n : ℕ) → f d ≡ 0 → length xs ≤ n → upto (λ i. f (get_or xs i d)) n ≡ sum_by f xs
upto_list_past f xs d n nothing within =
    upto_more (λ i. f (get_or xs i d)) (length xs) n within (λ i past. ap f (get_or-eq_default xs d past) ∙ nothing) ∙ sym (upto_list f xs d)

-- the sum over a part of a list
pub upto_part : {X : Type 0} (f : X → ℕ) (xs : List X) (d : X) (a b n : ℕ) → b ≡ a + n → b ≤ length xs → sum_by f (slice_range xs a b) ≡ upto (λ j. f (get_or xs (a + j) d)) n
upto_part f xs d a b n is within =
    let many : b - a ≡ n = omega arith in
    let long = length-drop a xs in
    let inside : b - a ≤ length (drop a xs) = omega (arith, long) in
    upto_take f (drop a xs) d (b - a) inside
    ∙ upto_same (λ j. f (get_or (drop a xs) j d)) (λ j. f (get_or xs (a + j) d)) (b - a) (λ j below. ap f (get_or-drop a xs j d))
    ∙ ap (upto (λ j. f (get_or xs (a + j) d))) many

-- an element is no more than the sum, nor is what stands past the end
pub get_or-le : {X : Type 0} (f : X → ℕ) (xs : List X) (d : X) (i : ℕ) → f d ≡ 0 → f (get_or xs i d) ≤ sum_by f xs
get_or-le f xs d i nothing =
    elim (cases_lt i (length xs)) [
      | inl here ↦ get_or-le-sum_by f xs i d here
      | inr past ↦ let gone : f (get_or xs i d) ≡ f d = ap f (get_or-eq_default xs d past) in omega (arith, gone, nothing)
    ]

-- how many numbers below k are below n
one_below : (i n : ℕ) → i < n → (if nat_lt i n then 1 else 0) ≡ suc zero
one_below i n within = grind (arith, nat_tests)

none_above : (i n : ℕ) → n ≤ i → (if nat_lt i n then 1 else 0) ≡ zero
none_above i n past = grind (arith, nat_tests)

below_min : (n k : ℕ) → upto (λ i. if nat_lt i n then 1 else 0) k ≡ min n k
below_min n zero = omega arith
below_min n (suc k) =
    let front = below_min n k in
    elim (cases_lt k n) [
      | inl here ↦ let one = one_below k n here in omega (arith, front, one)
      | inr past ↦ let none = none_above k n past in omega (arith, front, none)
    ]

pub upto_below : (n k : ℕ) → n ≤ k → upto (λ i. if nat_lt i n then 1 else 0) k ≡ n
upto_below n k within = let all = below_min n k in omega (arith, all)

-- a test that fails says that the number is past
pub past_none : (i n : ℕ) → (if nat_lt i n then 1 else 0) ≡ zero → n ≤ i
past_none i n none =
    elim (cases_lt i n) [
      | inl here ↦ let one = one_below i n here in absurd (omega (arith, none, one))
      | inr past ↦ past
    ]

-- ---- shares

pub share_same : (b : Bool) (x y : ℕ) → (b ≡ true → x ≡ y) → (if b then x else 0) ≡ (if b then y else 0)
share_same true x y same = same refl
share_same false x y same = refl

pub share_none : (b : Bool) (x : ℕ) → (b ≡ true → x ≡ 0) → (if b then x else 0) ≡ 0
share_none true x none = none refl
share_none false x none = refl

pub share_test : (a b : Bool) (x : ℕ) → a ≡ b → (if a then x else 0) ≡ (if b then x else 0)
share_test a b x same = ap (λ (t : Bool). if t then x else 0) same

pub share_here : (i x : ℕ) → (if i == i then x else 0) ≡ x
share_here i x = share_test (i == i) true x (eq-eqb i i refl)

pub share_there : (i j x : ℕ) → (i ≡ j → ⊥) → (if i == j then x else 0) ≡ 0
share_there i j x other = share_test (i == j) false x (ne_eqb i j other)

sum_by_none : {X : Type 0} (xs : List X) → sum_by (λ x. 0) xs ≡ 0
sum_by_none [] = refl
sum_by_none {X} (x ∷ xs) =
    let more = sum_by-cons (λ (x : X). 0) x xs in
    let rest = sum_by_none xs in
    omega (arith, more, rest)

share_sum_by : {X : Type 0} (b : Bool) (f : ℕ → X → ℕ) (xs : List X) (k : ℕ) → (if b then upto (λ i. sum_by (f i) xs) k else 0) ≡ sum_by (λ x. if b then upto (λ i. f i x) k else 0) xs
share_sum_by true f xs k = upto_sum_by f xs k
share_sum_by false f xs k = sym (sum_by_none xs)

-- ---- sums over some frames, and the indexes below k

abbrev pub over : (ℕ → Bool) → ℕ → ℕ → (ℕ → ℕ → ℕ) → ℕ
over m n k g = upto (λ f. if m f then upto (g f) k else 0) n

pub over_same : (m : ℕ → Bool) (n k : ℕ) (g h : ℕ → ℕ → ℕ) → ((f i : ℕ) → m f ≡ true → g f i ≡ h f i) → over m n k g ≡ over m n k h
over_same m n k g h same =
    upto_same (λ f. if m f then upto (g f) k else 0) (λ f. if m f then upto (h f) k else 0) n
    (λ f within. share_same (m f) (upto (g f) k) (upto (h f) k) (λ mine. upto_same (g f) (h f) k (λ i below. same f i mine)))

pub over_none : (m : ℕ → Bool) (n k : ℕ) (g : ℕ → ℕ → ℕ) → ((f i : ℕ) → f < n → m f ≡ true → g f i ≡ 0) → over m n k g ≡ 0
over_none m n k g none =
    upto_none (λ f. if m f then upto (g f) k else 0) n (λ f within. share_none (m f) (upto (g f) k) (λ mine. upto_none (g f) k (λ i below. none f i within mine)))

pub over_both : (m : ℕ → Bool) (n k : ℕ) (g h : ℕ → ℕ → ℕ) → over m n k (λ f i. g f i + h f i) ≡ over m n k g + over m n k h
over_both m n k g h =
    upto_same (λ f. if m f then upto (λ i. g f i + h f i) k else 0) (λ f. (if m f then upto (g f) k else 0) + (if m f then upto (h f) k else 0)) n
    (λ f within. share_same (m f) (upto (λ i. g f i + h f i) k) (upto (g f) k + upto (h f) k) (λ mine. upto_both (g f) (h f) k) ∙ share_both (m f) (upto (g f) k) (upto (h f) k))
    ∙ upto_both (λ f. if m f then upto (g f) k else 0) (λ f. if m f then upto (h f) k else 0) n

-- one frame alone counts
pub over_one : (m : ℕ → Bool) (n k at : ℕ) (g : ℕ → ℕ → ℕ) → at < n → ((f i : ℕ) → (f ≡ at → ⊥) → g f i ≡ 0) → over m n k g ≡ (if m at then upto (g at) k else 0)
over_one m n k at g within others =
    upto_one (λ f. if m f then upto (g f) k else 0) n at within (λ f inside other. share_none (m f) (upto (g f) k) (λ mine. upto_none (g f) k (λ i below. others f i other)))

-- sums over a list change places with it
pub over_sum_by : {X : Type 0} (m : ℕ → Bool) (n k : ℕ) (g : ℕ → ℕ → X → ℕ) (xs : List X) → over m n k (λ f i. sum_by (g f i) xs) ≡ sum_by (λ x. over m n k (λ f i. g f i x)) xs
over_sum_by {X} m n k g xs =
    upto_same (λ f. if m f then upto (λ i. sum_by (g f i) xs) k else 0) (λ f. sum_by (λ x. if m f then upto (λ i. g f i x) k else 0) xs) n (λ f within. share_sum_by (m f) (g f) xs k)
    ∙ upto_sum_by (λ f (x : X). if m f then upto (λ i. g f i x) k else 0) xs n
