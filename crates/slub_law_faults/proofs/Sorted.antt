-- Lists in order, of which each name stands as often in the one as in the other, are one.
use Rattle.std.proofs.Common.{◌≡◌, ℕ, suc, ◌+◌, ◌<◌, ◌≤◌, Bool, true, false, cond, List, [], ◌∷◌, ◌++◌, length, get_or, refl, sym, ap, subst, ◌∙◌, arith, All, Contains, inl, inr}
use Rattle.std.specs.Prelude.{sum_by, IsPermutation}
use Rattle.std.specs.Cmp.Lexicographic.{slice_cmp}
use Rattle.std.specs.Ordering.{is_eq, nat_cmp}
use Rattle.std.specs.Str.{bytes_eq}
use Rattle.std.specs.declared.cmp.Ordering.TheVariants.{Equal}
use Rattle.std.proofs.lemmas.Bool.{cases_lt}
use Rattle.std.proofs.lemmas.List.Elements.{All-cons, All-contains, All-head, All-tail}
use Rattle.std.proofs.lemmas.List.Sorted.{sum_by-IsPermutation}
use Rattle.std.proofs.lemmas.List.Sums.{sum_by-append, sum_by-cons}
use Rattle.std.proofs.lemmas.Map.Text.{is_eq-slice_cmp}
use Rattle.std.proofs.lemmas.Slice.Eq.{bytes_eq-Decides}

-- the list behind its first element
abbrev pub behind : {X : Type 0} → List X → List X
behind [] = []
behind (x ∷ xs) = xs

-- ---- names

-- names of which neither is first are one
pub names-tied : (xs ys : List ℕ) → slice_cmp nat_cmp xs ys ≡ Equal → xs ≡ ys
names-tied xs ys e = (bytes_eq-Decides xs ys).0 (sym (is_eq-slice_cmp xs ys) ∙ ap is_eq e)

-- ---- how often a name stands in a list

-- once where it is the element's, else not
pub hit : {X : Type 0} → (X → List ℕ) → List ℕ → X → ℕ
hit name n x = cond (bytes_eq (name x) n) 1 0

hit-own : {X : Type 0} (name : X → List ℕ) (n : List ℕ) (x : X) → name x ≡ n → hit name n x ≡ 1
unfolding hit
hit-own name n x e = ap (λ (b : Bool). cond b 1 0) ((bytes_eq-Decides (name x) n).1 e)

hit-is : {X : Type 0} (name : X → List ℕ) (n : List ℕ) (x : X) → 0 < hit name n x → name x ≡ n
unfolding hit
hit-is name n x some = by (bytes_eq (name x) n) refl some
  where
    by : (b : Bool) → bytes_eq (name x) n ≡ b → 0 < cond b 1 0 → name x ≡ n
    by true e h = (bytes_eq-Decides (name x) n).0 e
    by false e h = absurd (omega (arith, h))

pub times : {X : Type 0} → (X → List ℕ) → List ℕ → List X → ℕ
times name n xs = sum_by (hit name n) xs

times-nil : {X : Type 0} (name : X → List ℕ) (n : List ℕ) → times name n [] ≡ 0
unfolding times
times-nil name n = refl

times-cons : {X : Type 0} (name : X → List ℕ) (n : List ℕ) (x : X) (xs : List X) → times name n (x ∷ xs) ≡ hit name n x + times name n xs
unfolding times
times-cons name n x xs = sum_by-cons (hit name n) x xs

pub times-append : {X : Type 0} (name : X → List ℕ) (n : List ℕ) (xs ys : List X) → times name n (xs ++ ys) ≡ times name n xs + times name n ys
unfolding times
times-append name n xs ys = sum_by-append (hit name n) xs ys

pub times-moved : {X : Type 0} (name : X → List ℕ) (n : List ℕ) (xs ys : List X) → IsPermutation xs ys → times name n ys ≡ times name n xs
unfolding times
times-moved name n xs ys moved = sum_by-IsPermutation (hit name n) xs ys moved

-- where it stands, an element has it
pub there : {X : Type 0} (name : X → List ℕ) (n : List ℕ) (xs : List X) → 0 < times name n xs → (x : X) × Contains xs x × (name x ≡ n)
there name n [] some = absurd (omega (arith, some, times-nil name n))
there name n (x ∷ xs) some =
    elim (cases_lt 0 (hit name n x)) [
      | inl here ↦ (x, (0, omega arith, refl), hit-is name n x here)
      | inr none ↦
          let later = there name n xs (omega (arith, some, none, times-cons name n x xs)) in
          (later.0, (suc later.1.0, omega (arith, later.1.1), later.1.2), later.2)
    ]

-- ---- lists in order

-- each element is least of those from it on
pub Least : {X : Type 0} → (X → X → Bool) → List X → Type 0
Least lt [] = Unit {0}
Least lt (x ∷ xs) = All (λ y. lt y x ≡ false) xs × Least lt xs

pub least : {X : Type 0} (lt : X → X → Bool) (xs : List X) → ((i j : ℕ) (d : X) → i ≤ j → j < length xs → lt (get_or xs j d) (get_or xs i d) ≡ false) → Least lt xs
unfolding Least
least lt [] far = tt
least lt (x ∷ xs) far =
    (λ k d less. far 0 (suc k) d (omega arith) (omega (arith, less)), least lt xs (λ i j d le less. far (suc i) (suc j) d (omega (arith, le)) (omega (arith, less))))

-- an element that is the one of its name stands where its name does
held : {X : Type 0} (name : X → List ℕ) (f : List ℕ → X) (x : X) (xs : List X) → x ≡ f (name x) → All (λ y. y ≡ f (name y)) xs → 0 < times name (name x) xs → Contains xs x
held {X} name f x xs own all some =
    let Own : X → Type 0 = λ y. y ≡ f (name y) in
    let Here : X → Type 0 = λ y. Contains xs y in
    let one = there name (name x) xs some in
    let same : one.0 ≡ x = All-contains Own xs one.0 all one.1 ∙ ap f one.2 ∙ sym own in
    subst Here same one.1

pub same-lists : {X : Type 0} (name : X → List ℕ) (f : List ℕ → X) (lt : X → X → Bool) → ((x y : X) → lt x y ≡ false → lt y x ≡ false → name x ≡ name y) → ((x : X) → lt x x ≡ false) → (xs ys : List X) → Least lt xs → Least lt ys
    → All (λ x. x ≡ f (name x)) xs → All (λ x. x ≡ f (name x)) ys → ((n : List ℕ) → times name n xs ≡ times name n ys) → xs ≡ ys
unfolding Least
same-lists {X} name f lt tied still [] [] lx ly ox oy same = refl
same-lists {X} name f lt tied still [] (y ∷ ys) lx ly ox oy same =
    absurd (omega (arith, same (name y), times-nil name (name y), times-cons name (name y) y ys, hit-own name (name y) y refl))
same-lists {X} name f lt tied still (x ∷ xs) [] lx ly ox oy same =
    absurd (omega (arith, same (name x), times-nil name (name x), times-cons name (name x) x xs, hit-own name (name x) x refl))
same-lists {X} name f lt tied still (x ∷ xs) (y ∷ ys) lx ly ox oy same =
    let Own : X → Type 0 = λ z. z ≡ f (name z) in
    let x_own : x ≡ f (name x) = All-head Own x xs ox in
    let y_own : y ≡ f (name y) = All-head Own y ys oy in
    let up : Contains (y ∷ ys) x = held name f x (y ∷ ys) x_own oy (omega (arith, same (name x), times-cons name (name x) x xs, hit-own name (name x) x refl)) in
    let down : Contains (x ∷ xs) y = held name f y (x ∷ xs) y_own ox (omega (arith, same (name y), times-cons name (name y) y ys, hit-own name (name y) y refl)) in
    let a : lt x y ≡ false = All-contains (λ (z : X). lt z y ≡ false) (y ∷ ys) x (All-cons (λ (z : X). lt z y ≡ false) y ys (still y) ly.0) up in
    let b : lt y x ≡ false = All-contains (λ (z : X). lt z x ≡ false) (x ∷ xs) y (All-cons (λ (z : X). lt z x ≡ false) x xs (still x) lx.0) down in
    let e : x ≡ y = x_own ∙ ap f (tied x y a b) ∙ sym y_own in
    let rest : xs ≡ ys = same-lists name f lt tied still xs ys lx.1 ly.1 (All-tail Own x xs ox) (All-tail Own y ys oy)
    (λ n. omega (arith, same n, times-cons name n x xs, times-cons name n y ys, ap (hit name n) e)) in
    λ i. e i ∷ rest i
