-- Rows that differ in their letters alone.
use Rattle.std.proofs.Common.{◌≡◌, ℕ, ◌+◌, Bool, true, false, not, cond, nat_lt, List, [], ◌∷◌, length, map, take, get_or, refl, sym, ap, ◌∙◌, arith, Some, None, inl, inr}
use Rattle.std.specs.Prelude.{filter, position, ◌==◌}
use Rattle.std.specs.List.{prefix_len}
use Rattle.std.specs.Str.{bytes_eq}
use Rattle.std.proofs.lemmas.Bool.{cases_eq, eq-eqb, ne_eqb}
use Rattle.std.proofs.lemmas.List.{length-map}
use Rattle.slub_recorded.specs.declared.naming.Title.{Title}
use Rattle.slub_recorded.specs.declared.text.Row.{Row}
use Rattle.slub_recorded.specs.Converted.{place_of}
use Rattle.slub_recorded.specs.Groups.{AreApart, letters_of}
use Rattle.slub_recorded.specs.Members.{unlettered_row}
use Rattle.slub_law_faults.proofs.Sorted.{behind}

-- ---- their places

prefix-mapped : {X Y : Type 0} (f : X → Y) (p : Y → Bool) (xs : List X) → prefix_len p (map f xs) ≡ prefix_len (λ x. p (f x)) xs
prefix-mapped f p [] = refl
prefix-mapped f p (x ∷ xs) = ap (λ (n : ℕ). cond (p (f x)) (1 + n) 0) (prefix-mapped f p xs)

-- the first place that passes a test, through a map
place-mapped : {X Y : Type 0} (f : X → Y) (p : Y → Bool) (xs : List X) → position p (map f xs) ≡ position (λ x. p (f x)) xs
place-mapped f p xs =
    let a : prefix_len (λ y. not (p y)) (map f xs) ≡ prefix_len (λ x. not (p (f x))) xs = prefix-mapped f (λ y. not (p y)) xs in
    let b : length (map f xs) ≡ length xs = length-map xs f in
    λ i. cond (nat_lt (a i) (b i)) (Some (a i)) None

-- the cache of a title stands in the same place, whatever the letters
pub place-unlettered : (rows : List Row) (title : Title) → place_of (map unlettered_row rows) title ≡ place_of rows title
place-unlettered rows title = place-mapped unlettered_row (λ (row : Row). bytes_eq title.name row.name) rows

-- ---- the letters of a slot

here : (row : Row) (rows : List Row) (slot : ℕ) → row.slot ≡ slot → letters_of slot (row ∷ rows) ≡ row.reclaim ∷ letters_of slot rows
unfolding letters_of
here row rows slot is = ap (λ (b : Bool). map (λ (r : Row). r.reclaim) (cond b (row ∷ filter (λ (r : Row). r.slot == slot) rows) (filter (λ (r : Row). r.slot == slot) rows))) (eq-eqb row.slot slot is)

elsewhere : (row : Row) (rows : List Row) (slot : ℕ) → (row.slot ≡ slot → ⊥) → letters_of slot (row ∷ rows) ≡ letters_of slot rows
unfolding letters_of
elsewhere row rows slot other = ap (λ (b : Bool). map (λ (r : Row). r.reclaim) (cond b (row ∷ filter (λ (r : Row). r.slot == slot) rows) (filter (λ (r : Row). r.slot == slot) rows))) (ne_eqb row.slot slot other)

one-more : (b : Bool) (row : Row) (rows others : List Row) → length (map (λ (r : Row). r.reclaim) rows) ≡ length (map (λ (r : Row). r.reclaim) others)
    → length (map (λ (r : Row). r.reclaim) (cond b (unlettered_row row ∷ rows) rows)) ≡ length (map (λ (r : Row). r.reclaim) (cond b (row ∷ others) others))
one-more true row rows others same = omega (arith, same)
one-more false row rows others same = same

-- as many, whatever they are
as-many : (slot : ℕ) (rows : List Row) → length (letters_of slot (map unlettered_row rows)) ≡ length (letters_of slot rows)
unfolding letters_of
as-many slot [] = refl
as-many slot (row ∷ rows) =
    one-more (row.slot == slot) row (filter (λ (r : Row). r.slot == slot) (map unlettered_row rows)) (filter (λ (r : Row). r.slot == slot) rows) (as-many slot rows)

same-by-letters : (rows others : List Row) → map unlettered_row rows ≡ map unlettered_row others → ((slot : ℕ) → letters_of slot rows ≡ letters_of slot others) → rows ≡ others
same-by-letters [] [] same letters = refl
same-by-letters [] (other ∷ others) same letters = absurd cc
same-by-letters (row ∷ rows) [] same letters = absurd cc
same-by-letters (row ∷ rows) (other ∷ others) same letters =
    let head : unlettered_row row ≡ unlettered_row other = ap (λ (l : List Row). get_or l 0 row) same in
    let name : row.name ≡ other.name = ap (λ (r : Row). r.name) head in
    let slot : row.slot ≡ other.slot = ap (λ (r : Row). r.slot) head in
    let both : row.reclaim ∷ letters_of row.slot rows ≡ other.reclaim ∷ letters_of row.slot others = sym (here row rows row.slot refl) ∙ letters row.slot ∙ here other others row.slot (sym slot) in
    let letter : row.reclaim ≡ other.reclaim = ap (λ (l : List Bool). get_or l 0 false) both in
    let rest : rows ≡ others = same-by-letters rows others (ap behind same) (λ s. more s slot) in
    λ i. record { name = name i; slot = slot i; reclaim = letter i } ∷ rest i
  where
    more : (s : ℕ) → row.slot ≡ other.slot → letters_of s rows ≡ letters_of s others
    more s slot =
        elim (cases_eq row.slot s) [
          | inl is ↦ ap behind (sym (here row rows s is) ∙ letters s ∙ here other others s (sym slot ∙ is))
          | inr not_it ↦ sym (elsewhere row rows s not_it) ∙ letters s ∙ elsewhere other others s (λ e. not_it (slot ∙ e))
        ]

-- caches that are apart have the letters that they have for their slots
pub same-letters : (rows others : List Row) → map unlettered_row rows ≡ map unlettered_row others → AreApart rows → AreApart others → rows ≡ others
unfolding AreApart
same-letters rows others same apart also =
    same-by-letters rows others same (λ slot.
    let long : length (letters_of slot rows) ≡ length (letters_of slot others) = sym (as-many slot rows) ∙ ap (λ (l : List Row). length (letters_of slot l)) same ∙ as-many slot others in
    apart slot ∙ ap (λ (n : ℕ). take n (false ∷ true ∷ [])) long ∙ sym (also slot))
