-- Rows that are laid into lists of words.
use Rattle.std.proofs.Common.{◌≡◌, ℕ, zero, suc, ◌+◌, ◌-◌, ◌<◌, ◌≤◌, eqb, List, [], ◌∷◌, length, drop, get_or, set, map, Some, None, refl, ap, sym, ◌∙◌, subst, arith, inl, inr, length-set, get_or-set_other}
use Rattle.std.specs.Prelude.{slice_get, All}
use Rattle.std.specs.List.{range_with_len}
use Rattle.std.proofs.lemmas.Bool.{cases_eq, eq-eqb, ne_eqb, cond-true, cond-false}
use Rattle.std.proofs.lemmas.List.{get_or-set_same}
use Rattle.std.proofs.lemmas.List.FromFn.{fill_by_all}
use Rattle.std.proofs.lemmas.List.Elements.{All-head, All-tail}
use Rattle.slub_core.specs.World.{update}
use Rattle.slub_law_opening.specs.Opening.{Row, lay_items, lay_each, head_of, front_of}
use Rattle.slub_open_close.specs.Laying.{read, laid, laid_items}

pub same-functions : {A : Type 0} {f g : ℕ → A} → ((n : ℕ) → f n ≡ g n) → f ≡ g
same-functions h = λ i n. h n i

pub laid-length : (place : ℕ → ℕ) (value : ℕ → List ℕ → ℕ) (xs words : List ℕ) → length (laid_items place value xs words) ≡ length words
laid-length place value [] words = refl
laid-length place value (x ∷ xs) words = length-set (laid_items place value xs words) (place x) (value x xs) ∙ laid-length place value xs words

-- one word that is written
read-set : (words : List ℕ) (q v : ℕ) → q < length words → read (set words q v) ≡ update (read words) q v
read-set words q v inside = same-functions (λ p. elim (cases_eq p q) [
  | inl e ↦ ap (λ n. get_or (set words q v) n 0) e ∙ get_or-set_same words q v 0 inside ∙ sym (cond-true (eqb p q) v (get_or words p 0) (eq-eqb p q e))
  | inr d ↦ get_or-set_other words q p v 0 d ∙ sym (cond-false (eqb p q) v (get_or words p 0) (ne_eqb p q d))
])

-- what is laid into words is laid into what is read of them
pub laid-read : (place : ℕ → ℕ) (value : ℕ → List ℕ → ℕ) (xs words : List ℕ) → All (λ x. place x < length words) xs → read (laid_items place value xs words) ≡ lay_items place value xs (read words)
laid-read place value [] words inside = refl
laid-read place value (x ∷ xs) words inside =
    let old = laid_items place value xs words in
    let here = All-head (λ x. place x < length words) x xs inside in
    read-set old (place x) (value x xs) (omega (arith, laid-length place value xs words, here))
    ∙ ap (λ m. update m (place x) (value x xs)) (laid-read place value xs words (All-tail (λ x. place x < length words) x xs inside))

-- a list is what is read of it
pub list-read : (words : List ℕ) (n : ℕ) → length words ≡ n → words ≡ map (read words) (range_with_len 0 n)
list-read words n e = fill_by_all (read words) words n 0 e (λ k below. refl)

-- ---- a loop from the last item on

pub drop-at : (xs : List ℕ) (i x : ℕ) → slice_get xs i ≡ Some x → drop i xs ≡ x ∷ drop (i + 1) xs
drop-at [] i x e = absurd (cc e)
drop-at (y ∷ ys) zero x e = ap (λ z. z ∷ ys) (injected e)
  where
    injected : {a b : ℕ} → Some a ≡ Some b → a ≡ b
    injected e = cc
drop-at (y ∷ ys) (suc i) x e = drop-at ys i x e ∙ ap (λ n. x ∷ drop n (y ∷ ys)) (let q : suc (i + 1) ≡ suc i + 1 = omega arith in q)

pub at-none : (xs : List ℕ) (i : ℕ) → slice_get xs i ≡ None → length xs ≤ i
at-none [] i e = omega arith
at-none (y ∷ ys) zero e = absurd (cc e)
at-none (y ∷ ys) (suc i) e = let r = at-none ys i e in let l : length (y ∷ ys) ≡ suc (length ys) = refl in omega arith

pub get-is : (xs : List ℕ) (i x d : ℕ) → slice_get xs i ≡ Some x → get_or xs i d ≡ x
get-is [] i x d e = absurd (cc e)
get-is (y ∷ ys) zero x d e = injected e
  where
    injected : {a b : ℕ} → Some a ≡ Some b → a ≡ b
    injected e = cc
get-is (y ∷ ys) (suc i) x d e = get-is ys i x d e

pub get-inside : (xs : List ℕ) (i x : ℕ) → slice_get xs i ≡ Some x → i < length xs
get-inside [] i x e = absurd (cc e)
get-inside (y ∷ ys) zero x e = let l : length (y ∷ ys) ≡ suc (length ys) = refl in omega arith
get-inside (y ∷ ys) (suc i) x e = let r = get-inside ys i x e in let l : length (y ∷ ys) ≡ suc (length ys) = refl in omega arith

pub all-at : (P : ℕ → Type 0) (xs : List ℕ) (i x : ℕ) → All P xs → slice_get xs i ≡ Some x → P x
all-at P xs i x all e = subst P (get-is xs i x 0 e) (all i 0 (get-inside xs i x e))

pub drop-all : (xs : List ℕ) (i : ℕ) → length xs ≤ i → drop i xs ≡ []
drop-all [] zero le = refl
drop-all [] (suc i) le = refl
drop-all (x ∷ xs) zero le = absurd (omega arith)
drop-all (x ∷ xs) (suc i) le = drop-all xs i (omega arith)

-- the item before those that are laid
pub cut-at : (xs : List ℕ) (at x : ℕ) → 0 < at → slice_get xs (at - 1) ≡ Some x → drop (at - 1) xs ≡ x ∷ drop at xs
cut-at xs at x some here = drop-at xs (at - 1) x here ∙ ap (λ n. x ∷ drop n xs) (let q : at - 1 + 1 ≡ at = omega arith in q)

-- one item more is laid
pub lay-step : (place : ℕ → ℕ) (value : ℕ → List ℕ → ℕ) (xs old now : List ℕ) (at x p v : ℕ) → 0 < at → slice_get xs (at - 1) ≡ Some x → now ≡ laid_items place value (drop at xs) old → p ≡ place x → v ≡ value x (drop at xs)
    → set now p v ≡ laid_items place value (drop (at - 1) xs) old
lay-step place value xs old now at x p v some here is is_place is_value =
    ap (λ words. set words p v) is
    ∙ ap (λ q. set (laid_items place value (drop at xs) old) q v) is_place
    ∙ ap (λ z. set (laid_items place value (drop at xs) old) (place x) z) is_value
    ∙ sym (ap (λ ys. laid_items place value ys old) (cut-at xs at x some here))

pub next-head : (xs : List ℕ) (at x : ℕ) → 0 < at → slice_get xs (at - 1) ≡ Some x → x + 1 ≡ head_of (drop (at - 1) xs)
next-head xs at x some here = (let q : x + 1 ≡ suc x = omega arith in q) ∙ sym (ap head_of (cut-at xs at x some here))

pub next-front : (xs : List ℕ) (at x : ℕ) → 0 < at → slice_get xs (at - 1) ≡ Some x → x ≡ front_of (drop (at - 1) xs)
next-front xs at x some here = sym (ap front_of (cut-at xs at x some here))

-- there is an item at each place
pub no-gap : (xs : List ℕ) (at : ℕ) → at ≤ length xs → 0 < at → slice_get xs (at - 1) ≡ None → ⊥
no-gap xs at inside some gone = omega (arith, at-none xs (at - 1) gone)

-- ---- rows, one after the other

-- it leaves the count
pub row-count : (k : ℕ) (old now : List ℕ) (row : Row) → now ≡ laid row old → length old ≡ k → length now ≡ k
row-count k old now row is count = ap length is ∙ laid-length row.place row.value row.items old ∙ count

-- one row more is laid
pub row-more : (rows : ℕ → Row) (k : ℕ) (old now : List ℕ) (words : ℕ → ℕ) (row : Row) → rows k ≡ row → now ≡ laid row old → All (λ x. (rows k).place x < length old) (rows k).items → read old ≡ lay_each rows k words → read now ≡ lay_each rows (k + 1) words
row-more rows k old now words row is laid_now inside before =
    ap read (laid_now ∙ ap (λ (r : Row). laid r old) (sym is))
    ∙ laid-read (rows k).place (rows k).value (rows k).items old inside
    ∙ ap (λ m. lay_items (rows k).place (rows k).value (rows k).items m) before
    ∙ (let e : suc k ≡ k + 1 = omega arith in ap (λ n. lay_each rows n words) e)

-- a row without items changes nothing
pub row-none : (rows : ℕ → Row) (k : ℕ) (old : List ℕ) (words : ℕ → ℕ) → (rows k).items ≡ [] → read old ≡ lay_each rows k words → read old ≡ lay_each rows (k + 1) words
row-none rows k old words none before =
    before
    ∙ sym (ap (λ xs. lay_items (rows k).place (rows k).value xs (lay_each rows k words)) none)
    ∙ (let e : suc k ≡ k + 1 = omega arith in ap (λ n. lay_each rows n words) e)

pub row-last : (rows : ℕ → Row) (k m : ℕ) (now : List ℕ) (words : ℕ → ℕ) → k ≡ m → read now ≡ lay_each rows k words → read now ≡ lay_each rows m words
row-last rows k m now words e before = before ∙ ap (λ n. lay_each rows n words) e
