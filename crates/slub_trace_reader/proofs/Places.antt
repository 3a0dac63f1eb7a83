-- Places of names, one name after the other, and names in front of bytes.
use Rattle.std.proofs.Common.{◌≡◌, ◌≢◌, ℕ, ◌+◌, ◌<◌, true, false, None, Some, List, [], ◌∷◌, ◌++◌, length, get_or, refl, sym, ap, ◌∙◌, arith, inl, inr}
use Rattle.std.specs.Cmp.Lexicographic.{bytes_decides}
use Rattle.std.specs.Str.{bytes_eq}
use Rattle.std.proofs.lemmas.Bool.{cases_Bool}
use Rattle.std.proofs.lemmas.List.Folds.{list_any_at}
use Rattle.std.proofs.lemmas.List.Sums.{position_or_len_is}
use borrow.Author.Count.{below_more}
use Rattle.slub_object_layout.specs.Name.{IsName}
use Rattle.slub_trace_reader.specs.Above.{place_of}
use Rattle.slub_trace_reader.specs.Forms.{strip}
use Rattle.slub_trace_reader.specs.Parsing.{IsNameFront}
use Rattle.slub_trace_reader.proofs.Fields.{strip_found, strip_some}
use Rattle.slub_trace_reader.proofs.WordTexts.{same_some}

-- names that aren't the same don't pass for it
apart_by : (name other : List ℕ) → name ≢ other → bytes_eq name other ≡ false
apart_by name other apart = elim (cases_Bool (bytes_eq name other)) [
  | inl same ↦ absurd (apart ((bytes_decides name other).0 same))
  | inr differ ↦ differ
]

-- a name that isn't the first stands one place behind its place among the others
pub place_after : (name other : List ℕ) (rest names : List (List ℕ)) (p : ℕ) → names ≡ other ∷ rest → name ≢ other → p ≡ place_of name rest → 1 + p ≡ place_of name names
place_after name other rest names p whole apart is = rw (whole, apart_by name other apart, is) refl

-- a name and a space don't stand in front
abbrev pub IsNotFront : List ℕ → List ℕ → Type 0
IsNotFront bytes name = (rest : List ℕ) → bytes ≢ name ++ 32 ∷ rest

-- the first of the names that stands in front, with a space behind it, is that of its place
pub place_found : (names : List (List ℕ)) (bytes name rest : List ℕ) (place : ℕ) → place < length names → name ≡ get_or names place [] → ((k : ℕ) → k < place → IsNotFront bytes (get_or names k []))
    → bytes ≡ name ++ 32 ∷ rest → IsName name → IsNameFront names bytes place rest
place_found names bytes name rest place low is none whole named =
    let here : bytes_eq name (get_or names place []) ≡ true = (bytes_decides name (get_or names place [])).1 is in
    let first : place_of name names ≡ place = position_or_len_is (bytes_eq name) names place [] (omega arith)
    (λ k below. apart_by name (get_or names k []) (λ same. none k below rest (whole ∙ ap (λ n. n ++ 32 ∷ rest) same))) (λ _. here) in
    (name, whole, (named, list_any_at (bytes_eq name) names place [] low here, sym first))

-- a name that doesn't stand in front, and one with no space behind it
pub not_stripped : (bytes name : List ℕ) → strip name bytes ≡ None → IsNotFront bytes name
not_stripped bytes name is rest whole =
    let found : strip name bytes ≡ Some (32 ∷ rest) = ap (λ b. strip name b) whole ∙ strip_found name (32 ∷ rest) in
    (let never : None ≡ Some (32 ∷ rest) = sym is ∙ found in cc)

pub nothing_behind : (bytes name behind : List ℕ) → strip name bytes ≡ Some behind → length behind ≡ 0 → IsNotFront bytes name
nothing_behind bytes name behind is none rest whole =
    let found : strip name bytes ≡ Some (32 ∷ rest) = ap (λ b. strip name b) whole ∙ strip_found name (32 ∷ rest) in
    let same : behind ≡ 32 ∷ rest = same_some _ _ (sym is ∙ found) in
    absurd (let never : ⊥ = omega (arith, ap length same) in never)

pub no_space_behind : (bytes name behind more : List ℕ) (c : ℕ) → strip name bytes ≡ Some behind → behind ≡ c ∷ more → c ≢ 32 → IsNotFront bytes name
no_space_behind bytes name behind more c is whole apart rest goes =
    let found : strip name bytes ≡ Some (32 ∷ rest) = ap (λ b. strip name b) goes ∙ strip_found name (32 ∷ rest) in
    let same : c ∷ more ≡ 32 ∷ rest = sym whole ∙ same_some _ _ (sym is ∙ found) in
    apart (cc same)

-- and one with a space behind it
pub space_behind : (bytes name behind rest : List ℕ) (c : ℕ) → strip name bytes ≡ Some behind → behind ≡ c ∷ rest → c ≡ 32 → bytes ≡ name ++ 32 ∷ rest
space_behind bytes name behind rest c is whole same = strip_some name bytes behind is ∙ ap (λ b. name ++ b) (whole ∙ ap (λ d. d ∷ rest) same)

-- one name more isn't in front
pub none_more : (names : List (List ℕ)) (bytes : List ℕ) (place : ℕ) → ((k : ℕ) → k < place → IsNotFront bytes (get_or names k [])) → IsNotFront bytes (get_or names place [])
    → (k : ℕ) → k < place + 1 → IsNotFront bytes (get_or names k [])
none_more names bytes place below here = below_more (λ k. IsNotFront bytes (get_or names k [])) place below here
