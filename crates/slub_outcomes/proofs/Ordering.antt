-- The outcomes of a tally, in their order.
use Rattle.std.proofs.Common.{◌≡◌, ℕ, ◌+◌, Bool, true, false, cond, List, [], ◌∷◌, length, map, get_or, Option, Some, None, refl, sym, ap, subst, ◌∙◌, arith, sum_by, All, inl, inr, ◌||◌, count_by, zero-le}
use Rattle.std.specs.List.{list_any, position_from, AllAdjacentBelow}
use Rattle.std.specs.List.Sorted.{IsPermutation, IsSortedByKey}
use Rattle.std.specs.Ordering.{is_lt, nat_cmp, ordering_then}
use Rattle.std.specs.declared.cmp.Ordering.{Ordering}
use Rattle.std.specs.declared.cmp.Ordering.TheVariants.{Less, Equal, Greater}
use Rattle.std.specs.declared.cmp.Reverse.{Reverse}
use Rattle.std.specs.Str.{bytes_eq}
use Rattle.std.specs.Map.{lookup, keys_of, values_of}
use Rattle.std.specs.Cmp.Lexicographic.{nat_list_eq_equiv}
use Rattle.std.proofs.lemmas.Bool.{cases_order, eq-eqb, false≢true, le-ltb, lt-ltb, ltb-false}
use Rattle.std.proofs.lemmas.List.Elements.{All-map}
use Rattle.std.proofs.lemmas.List.Sorted.{IsPermutation-map, All-permutation, sum_by-IsPermutation, list_any-IsPermutation}
use Rattle.std.proofs.lemmas.List.Sums.{sum_by-append}
use Rattle.std.proofs.lemmas.Map.Entries.{hash_map_get_place}
use Rattle.std.proofs.lemmas.Map.Keys.{IsDistinct-IsPermutation}
use Rattle.std.proofs.lemmas.Map.Views.{All-from_any}
use Rattle.std.proofs.lemmas.Option.{slice_get-get_or}
use Rattle.slub_outcomes.specs.declared.tally.Seeds.{Seeds}
use Rattle.slub_outcomes.specs.declared.tally.Outcome.{Outcome}
use Rattle.slub_outcomes.specs.declared.tally.Tally.{Tally}
use Rattle.slub_outcomes.specs.Tally.{AreOutcomes, Precedes, seeds_of, texts_of}
use Rattle.slub_outcomes.specs.Tallies.{IsTallyOf, outcome_of}

-- ---- a tally's entries as outcomes

texts-entries : (es : List (List ℕ × Seeds)) → texts_of (map outcome_of es) ≡ keys_of es
texts-entries [] = refl
texts-entries (e ∷ es) = ap (λ (ks : List (List ℕ)). e.0 ∷ ks) (texts-entries es)

sum-cons : {A : Type 0} (f : A → ℕ) (x : A) (xs : List A) → sum_by f (x ∷ xs) ≡ f x + sum_by f xs
sum-cons f x xs = let e : 0 + f x ≡ f x = omega arith in sum_by-append f (x ∷ []) xs ∙ ap (λ (n : ℕ). n + sum_by f xs) e

sum-entries : (es : List (List ℕ × Seeds)) → sum_by (λ (outcome : Outcome). outcome.seeds.count) (map outcome_of es) ≡ sum_by (λ (s : Seeds). s.count) (values_of es)
sum-entries [] = refl
sum-entries (e ∷ es) =
    sum-cons (λ (outcome : Outcome). outcome.seeds.count) (outcome_of e) (map outcome_of es) ∙ ap (λ (n : ℕ). e.1.count + n) (sum-entries es)
    ∙ sym (sum-cons (λ (s : Seeds). s.count) e.1 (values_of es))

-- a text that stands among others has a first place
no-place : {A : Type 0} (p : A → Bool) (i : ℕ) (xs : List A) → position_from p i xs ≡ None → list_any p xs ≡ false
no-place p i [] h = refl
no-place p i (x ∷ xs) h = by (p x) (position_from p (i + 1) xs) (no-place p (i + 1) xs) h
  where
    by : (b : Bool) (rest : Option ℕ) → (rest ≡ None → list_any p xs ≡ false) → cond b (Some i) rest ≡ None → (b || list_any p xs) ≡ false
    by true rest step h = cc
    by false rest step h = step h

-- a key that is found is there
key-there : {X : Type 0} (test : List ℕ → Bool) (es : List (List ℕ × X)) (v : X) → lookup test es ≡ Some v → list_any test (keys_of es) ≡ true
key-there test [] v h = cc
key-there {X} test (e ∷ es) v h = by (test e.0) (key-there test es v) h
  where
    by : (b : Bool) → (lookup test es ≡ Some v → list_any test (keys_of es) ≡ true) → cond b (Some e.1) (lookup test es) ≡ Some v → (b || list_any test (keys_of es)) ≡ true
    by true step h = refl
    by false step h = step h

module _ (from : ℕ) (texts : List (List ℕ)) (tally : Tally) (is : IsTallyOf from texts tally) where
  -- each entry's seeds are those of its text
  entry-seeds : All (λ (outcome : Outcome). seeds_of from texts outcome.replies ≡ Some outcome.seeds) (map outcome_of tally.seeds.entries)
  entry-seeds =
      All-map (λ (outcome : Outcome). seeds_of from texts outcome.replies ≡ Some outcome.seeds) outcome_of tally.seeds.entries
      (λ k d within. sym (is.seeds (get_or tally.seeds.entries k d).0)
      ∙ hash_map_get_place nat_list_eq_equiv tally.seeds k (get_or tally.seeds.entries k d).0 (get_or tally.seeds.entries k d).1 is.unique (slice_get-get_or tally.seeds.entries k d within))

  text-found : (text : List ℕ) (found : Option ℕ) → position_from (bytes_eq text) from texts ≡ found → list_any (bytes_eq text) texts ≡ true → list_any (bytes_eq text) (keys_of tally.seeds.entries) ≡ true
  text-found text None h there = absurd (false≢true (sym (no-place (bytes_eq text) from texts h) ∙ there))
  text-found text (Some k) h there =
      let its : Seeds = record { count = count_by (bytes_eq text) texts; least = k } in
      let known : seeds_of from texts text ≡ Some its = rw h refl in
      key-there (bytes_eq text) tally.seeds.entries its (is.seeds text ∙ known)

-- ---- in order

less-never : (b e : Bool) (rest : Ordering) → b ≡ true → is_lt (ordering_then (cond b Less (cond e Equal Greater)) rest) ≡ false → ⊥
less-never true e rest is h = cc
less-never false e rest is h = cc

equal-then : (b e c d : Bool) → b ≡ false → e ≡ true → is_lt (ordering_then (cond b Less (cond e Equal Greater)) (cond c Less (cond d Equal Greater))) ≡ false → c ≡ false
equal-then true e c d not same h = cc
equal-then false false c d not same h = cc
equal-then false true true d not same h = cc
equal-then false true false d not same h = refl

-- what a sort by falling counts and rising seeds says of two neighbours
ranked : (one other : Outcome) → is_lt (ordering_then (nat_cmp one.seeds.count other.seeds.count) (nat_cmp other.seeds.least one.seeds.least)) ≡ false → Precedes one other
ranked one other h = elim (cases_order one.seeds.count other.seeds.count) [
  | inl same ↦ inr (
    same,
    ltb-false other.seeds.least one.seeds.least
        (equal-then _ _ _ _ (le-ltb one.seeds.count other.seeds.count (omega arith)) (eq-eqb one.seeds.count other.seeds.count same) h),
  )
  | inr (inl below) ↦ absurd (less-never _ _ _ (lt-ltb one.seeds.count other.seeds.count below) h)
  | inr (inr above) ↦ inl above
]

-- the key of such a sort
abbrev pub rank : Outcome → Reverse ℕ × ℕ
rank outcome = (record { 0 = outcome.seeds.count }, outcome.seeds.least)

abbrev pub rank_cmp : Reverse ℕ × ℕ → Reverse ℕ × ℕ → Ordering
rank_cmp one other = ordering_then (nat_cmp other.0.0 one.0.0) (nat_cmp one.1 other.1)

pub ranked-all : (outcomes : List Outcome) → IsSortedByKey rank rank_cmp outcomes → AllAdjacentBelow Precedes outcomes (length outcomes)
ranked-all outcomes sorted = λ k d within. ranked (get_or outcomes k d) (get_or outcomes (k + 1) d) (sorted k d zero-le within)

-- the outcomes of a tally, in any order that is theirs
pub tally-outcomes : (from : ℕ) (texts : List (List ℕ)) (tally : Tally) (outcomes : List Outcome) → IsTallyOf from texts tally → IsPermutation (map outcome_of tally.seeds.entries) outcomes
    → AllAdjacentBelow Precedes outcomes (length outcomes) → AreOutcomes from texts outcomes
tally-outcomes from texts tally outcomes is moved ordered =
    let es = map outcome_of tally.seeds.entries in
    let keys : IsPermutation (keys_of tally.seeds.entries) (texts_of outcomes) =
    subst (λ (keys : List (List ℕ)). IsPermutation keys (texts_of outcomes)) (texts-entries tally.seeds.entries) (IsPermutation-map (λ (outcome : Outcome). outcome.replies) es outcomes moved) in
    record {
      once = IsDistinct-IsPermutation bytes_eq nat_list_eq_equiv.symm (keys_of tally.seeds.entries) (texts_of outcomes) keys is.unique;
      each = All-from_any nat_list_eq_equiv (λ text. list_any (bytes_eq text) (texts_of outcomes) ≡ true) texts
          (λ text there. sym (list_any-IsPermutation (bytes_eq text) (keys_of tally.seeds.entries) (texts_of outcomes) keys) ∙ text-found from texts tally is text _ refl there);
      seeds = All-permutation (λ (outcome : Outcome). seeds_of from texts outcome.replies ≡ Some outcome.seeds) es outcomes moved (entry-seeds from texts tally is);
      ordered = ordered;
      adds_up = sum_by-IsPermutation (λ (outcome : Outcome). outcome.seeds.count) es outcomes moved ∙ sum-entries tally.seeds.entries ∙ is.all;
    }
