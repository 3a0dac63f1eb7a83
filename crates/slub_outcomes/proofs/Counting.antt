-- What one more text changes.
use Rattle.std.proofs.Common.{◌≡◌, ℕ, ◌+◌, suc, Bool, true, false, cond, List, [], ◌∷◌, ◌++◌, length, Option, Some, None, count_by, refl, sym, ap, ◌∙◌, arith, unwrap_or, inl, inr, length-append}
use Rattle.std.specs.Option.{option_map}
use Rattle.std.specs.List.{position_from}
use Rattle.std.specs.Str.{bytes_eq}
use Rattle.std.specs.Cmp.Lexicographic.{nat_list_eq_equiv}
use Rattle.std.specs.HashMap.{IsUnique, PutsEntry, Updates, get}
use Rattle.std.proofs.lemmas.Bool.{cases_Bool}
use Rattle.std.proofs.lemmas.List.Sums.{sum_by-append}
use Rattle.std.proofs.lemmas.Map.Entries.{sum_by_puts_entry}
use Rattle.std.proofs.lemmas.Slice.Eq.{bytes_eq-Decides}
use Rattle.slub_outcomes.specs.declared.tally.Seeds.{Seeds}
use Rattle.slub_outcomes.specs.declared.tally.Tally.{Tally}
use Rattle.slub_outcomes.specs.Tally.{seeds_of}
use Rattle.slub_outcomes.specs.Tallies.{IsTallyOf, counted}

module _ {A : Type 0} (p : A → Bool) where
  -- a first place stays the first
  found_at : (b : Bool) (i k : ℕ) (rest more : Option ℕ) → (rest ≡ Some k → more ≡ Some k) → cond b (Some i) rest ≡ Some k → cond b (Some i) more ≡ Some k
  found_at true i k rest more step h = h
  found_at false i k rest more step h = step h

  pub position-found : (i k : ℕ) (xs : List A) (y : A) → position_from p i xs ≡ Some k → position_from p i (xs ++ y ∷ []) ≡ Some k
  position-found i k [] y h = cc
  position-found i k (x ∷ xs) y h = found_at (p x) i k (position_from p (i + 1) xs) (position_from p (i + 1) (xs ++ y ∷ [])) (position-found (i + 1) k xs y) h

  -- where there is none, it is that of the new one, if any
  none_at : (b : Bool) (i : ℕ) (rest more last : Option ℕ) → (rest ≡ None → more ≡ last) → cond b (Some i) rest ≡ None → cond b (Some i) more ≡ last
  none_at true i rest more last step h = cc
  none_at false i rest more last step h = step h

  pub position-none : (i : ℕ) (xs : List A) (y : A) → position_from p i xs ≡ None → position_from p i (xs ++ y ∷ []) ≡ cond (p y) (Some (i + length xs)) None
  position-none i [] y h = let e : i + 0 ≡ i = omega arith in rw e refl
  position-none i (x ∷ xs) y h =
      let e : i + suc (length xs) ≡ i + 1 + length xs = omega arith in
      rw e (none_at (p x) i (position_from p (i + 1) xs) (position_from p (i + 1) (xs ++ y ∷ [])) _ (position-none (i + 1) xs y) h)

  -- one more is counted where it passes
  pub count-more : (xs : List A) (y : A) → count_by p (xs ++ y ∷ []) ≡ count_by p xs + cond (p y) 1 0
  count-more xs y = let e : 0 + cond (p y) 1 0 ≡ cond (p y) 1 0 = omega arith in sum_by-append (λ x. cond (p x) 1 0) xs (y ∷ []) ∙ ap (λ (n : ℕ). count_by p xs + n) e

  count-cons : (x : A) (xs : List A) → count_by p (x ∷ xs) ≡ cond (p x) 1 0 + count_by p xs
  count-cons x xs = let e : 0 + cond (p x) 1 0 ≡ cond (p x) 1 0 = omega arith in sum_by-append (λ x. cond (p x) 1 0) (x ∷ []) xs ∙ ap (λ (n : ℕ). n + count_by p xs) e

  -- none is counted where there is no first
  pub count-none : (i : ℕ) (xs : List A) → position_from p i xs ≡ None → count_by p xs ≡ 0
  count-none i [] h = refl
  count-none i (x ∷ xs) h = count-cons x xs ∙ by (p x) (position_from p (i + 1) xs) (count-none (i + 1) xs) h
    where
      by : (b : Bool) (rest : Option ℕ) → (rest ≡ None → count_by p xs ≡ 0) → cond b (Some i) rest ≡ None → cond b 1 0 + count_by p xs ≡ 0
      by true rest step h = cc
      by false rest step h = let e : 0 + count_by p xs ≡ count_by p xs = omega arith in e ∙ step h

-- what a text's seeds are when one more seed has it
abbrev pub one_more : Option Seeds → ℕ → Seeds
one_more None seed = record { count = 1; least = seed }
one_more (Some seeds) seed = record { count = seeds.count + 1; least = seeds.least }

bytes_eq-same : (text : List ℕ) → bytes_eq text text ≡ true
bytes_eq-same text = (bytes_eq-Decides text text).1 refl

-- the seeds of the text that is new
same-more : (from : ℕ) (texts : List (List ℕ)) (text : List ℕ) (found : Option ℕ) → position_from (bytes_eq text) from texts ≡ found
    → seeds_of from (texts ++ text ∷ []) text ≡ Some (one_more (seeds_of from texts text) (from + length texts))
same-more from texts text None h =
    rw (h, position-none (bytes_eq text) from texts text h, count-more (bytes_eq text) texts text, bytes_eq-same text, count-none (bytes_eq text) from texts h) refl
same-more from texts text (Some k) h =
    rw (h, position-found (bytes_eq text) from k texts text h, count-more (bytes_eq text) texts text, bytes_eq-same text) refl

-- those of another
other-more : (from : ℕ) (texts : List (List ℕ)) (text q : List ℕ) (found : Option ℕ) → position_from (bytes_eq q) from texts ≡ found → bytes_eq q text ≡ false
    → seeds_of from (texts ++ text ∷ []) q ≡ seeds_of from texts q
other-more from texts text q None h differs =
    rw (h, position-none (bytes_eq q) from texts text h, differs) refl
other-more from texts text q (Some k) h differs =
    let same : count_by (bytes_eq q) texts + 0 ≡ count_by (bytes_eq q) texts = omega arith in
    rw (h, position-found (bytes_eq q) from k texts text h, count-more (bytes_eq q) texts text, differs, same) refl

flipped : (a b : List ℕ) → bytes_eq a b ≡ false → bytes_eq b a ≡ false
flipped a b h = nat_list_eq_equiv.symm b a ∙ h

-- those of any
pub seeds_of-more : (from : ℕ) (texts : List (List ℕ)) (text q : List ℕ)
    → seeds_of from (texts ++ text ∷ []) q ≡ cond (bytes_eq text q) (Some (one_more (seeds_of from texts text) (from + length texts))) (seeds_of from texts q)
seeds_of-more from texts text q = elim (cases_Bool (bytes_eq text q)) [
  | inl is ↦ (let e : text ≡ q = (bytes_eq-Decides text q).0 is in rw (is, ← e) (same-more from texts text _ refl))
  | inr is ↦ rw is (other-more from texts text q _ refl (flipped text q is))
]

-- how many seeds are counted then
adds_one : (found : Option Seeds) (seed new old : ℕ) → new + unwrap_or (option_map (λ (s : Seeds). s.count) found) 0 ≡ old + (one_more found seed).count → new ≡ old + 1
adds_one None seed new old h = omega arith
adds_one (Some s) seed new old h = omega arith

-- a tally with one more seed
pub noted : (from : ℕ) (texts : List (List ℕ)) (text : List ℕ) (seed : ℕ) (old new : Tally) (found : Option Seeds) (put : Seeds) → IsTallyOf from texts old → seed ≡ from + length texts
    → found ≡ get bytes_eq old.seeds text → put ≡ one_more found seed → Updates bytes_eq old.seeds new.seeds text (Some put) → PutsEntry bytes_eq old.seeds new.seeds text put found → IsUnique bytes_eq new.seeds
    → IsTallyOf from (texts ++ text ∷ []) new
noted from texts text seed old new found put is next finds puts updates entries unique =
    let known : found ≡ seeds_of from texts text = finds ∙ is.seeds text in
    let put_is : put ≡ one_more (seeds_of from texts text) (from + length texts) = rw (← next, ← known) puts in
    let sums : counted new + unwrap_or (option_map (λ (s : Seeds). s.count) found) 0 ≡ counted old + (one_more found seed).count = rw (← puts) (sum_by_puts_entry (λ (s : Seeds). s.count) bytes_eq old.seeds new.seeds text put found finds entries) in
    record {
      seeds = λ q. updates.0 q ∙ rw (put_is, is.seeds q) (sym (seeds_of-more from texts text q));
      unique = unique;
      all = adds_one found seed (counted new) (counted old) sums ∙ ap (λ (n : ℕ). n + 1) is.all ∙ sym (length-append texts (text ∷ []));
    }
