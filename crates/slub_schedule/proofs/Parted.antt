-- A list of words that stands in three parts: what is stored in a part is stored in the list.
use Rattle.std.proofs.Common.{◌≡◌, ◌∙◌, ℕ, ◌+◌, ◌-◌, ◌<◌, ◌≤◌, ◌++◌, List, length, set, take, drop, ap, sym, append_assoc, arith}
use Rattle.std.specs.List.{slice_range}
use Rattle.slub_schedule.specs.Table.{WordTable}
use Rattle.std.proofs.lemmas.List.{length-append, length-drop, set-append_left, set-append_right, take-append-drop, take_all}
use Rattle.std.proofs.lemmas.List.Folds.{drop_split}

module _ (xs ys zs : List ℕ) (n w : ℕ) where
  pub set-first : n < length xs → (set xs n w ++ ys) ++ zs ≡ set ((xs ++ ys) ++ zs) n w
  set-first below =
      sym (set-append_left (xs ++ ys) zs n w (omega (arith, below, length-append xs ys)) ∙ ap (λ (l : List ℕ). l ++ zs) (set-append_left xs ys n w below))

  pub set-middle : (k : ℕ) → length xs ≡ k → k ≤ n → n < k + length ys → (xs ++ set ys (n - k) w) ++ zs ≡ set ((xs ++ ys) ++ zs) n w
  set-middle k long from below =
      sym (set-append_left (xs ++ ys) zs n w (omega (arith, below, long, length-append xs ys)) ∙ ap (λ (l : List ℕ). l ++ zs) (set-append_right xs ys k n w long from))

  pub set-last : (k : ℕ) → length xs + length ys ≡ k → k ≤ n → (xs ++ ys) ++ set zs (n - k) w ≡ set ((xs ++ ys) ++ zs) n w
  set-last k long from = sym (set-append_right (xs ++ ys) zs k n w (length-append xs ys ∙ long) from)

-- a list taken apart in three parts
pub parted : (words : List ℕ) (m n : ℕ) → m ≤ n → (take m words ++ slice_range words m n) ++ drop n words ≡ words
parted words m n order =
    append_assoc (take m words) (slice_range words m n) (drop n words) ∙ ap (λ (l : List ℕ). take m words ++ l) (sym (drop_split words m n order)) ∙ take-append-drop m words

-- the same of its three ranges
pub ranges : (words : List ℕ) (m n end : ℕ) → m ≤ n → end ≡ length words → (slice_range words 0 m ++ slice_range words m n) ++ slice_range words n end ≡ words
ranges words m n end order all =
    let whole : m - 0 ≡ m = omega arith in
    let left = length-drop n words in
    (λ i. (take (whole i) words ++ slice_range words m n) ++ take_all (end - n) (drop n words) (omega arith) i) ∙ parted words m n order

-- ---- tables

-- the table of these words
abbrev pub of_words : ℕ → ℕ → List ℕ → WordTable
of_words frames objects words = record { frames = frames; objects = objects; words = words }
