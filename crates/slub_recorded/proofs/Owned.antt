-- The turns of a trace follow each other where the moves of its recording do.
use Rattle.std.proofs.Common.{◌≡◌, ◌≢◌, ℕ, zero, suc, ◌+◌, ◌%◌, ◌<◌, ◌≤◌, Bool, true, false, not, ◌&&◌, ◌||◌, ◌⊎◌, List, [], ◌∷◌, length, take, get_or, refl, sym, ap, ◌∙◌, inl, inr, Option, None, Some, nat_eq, arith, true≢false}
use Rattle.std.specs.Prelude.{option_map}
use Rattle.std.specs.List.{cons_option}
use Rattle.std.proofs.lemmas.Bool.{cases_lt, eqb-true, eqb-false, eq-eqb, ne_eqb}
use Rattle.slub_recorded.specs.declared.pairing.Move.{Move}
use Rattle.slub_recorded.specs.declared.pairing.Move.TheVariants as move
use Rattle.slub_recorded.specs.declared.text.Row.{Row}
use Rattle.slub_recorded.specs.declared.turns.Kept.{Kept}
use Rattle.slub_recorded.specs.declared.turns.Turn.{Turn}
use Rattle.slub_recorded.specs.declared.turns.Turn.TheVariants.{Alloc, Free}
use Rattle.slub_recorded.specs.Turns.{AreNext, count_kept, lives_after, numbered, turns_of}
use Rattle.slub_recorded.proofs.Lines.{AreTurns}

-- ---- numbers of kept objects

take_next : (places : List (Option ℕ)) (n : ℕ) → count_kept (take (suc n) places) ≡ count_kept (take n places) + count_kept (get_or places n None ∷ [])
take_next [] zero = refl
take_next [] (suc n) = refl
take_next (None ∷ places) zero = refl
take_next (Some p ∷ places) zero = refl
take_next (None ∷ places) (suc n) = take_next places n
take_next (Some p ∷ places) (suc n) = let more = take_next places n in omega (arith, more)

count_rises : (places : List (Option ℕ)) (o x p : ℕ) → get_or places o None ≡ Some p → o < x → count_kept (take o places) + 1 ≤ count_kept (take x places)
count_rises places o zero p is low = absurd (let never : ⊥ = omega arith in never)
count_rises [] o (suc x) p is low = absurd cc
count_rises (None ∷ places) zero (suc x) p is low = absurd cc
count_rises (Some q ∷ places) zero (suc x) p is low = omega arith
count_rises (None ∷ places) (suc o) (suc x) p is low = count_rises places o x p is (omega arith)
count_rises (Some q ∷ places) (suc o) (suc x) p is low = let more = count_rises places o x p is (omega arith) in omega (arith, more)

-- what is known of a kept object
record IsKept (count : ℕ) (places : List (Option ℕ)) (object : ℕ) (k : Kept) : Type 0 where
  place : get_or places object None ≡ Some k.place
  number : k.number ≡ count + count_kept (take object places) + 1
  few : k.number ≤ count + count_kept places

kept_first : (count p : ℕ) (places : List (Option ℕ)) (k : Kept) (first : Kept) → first ≡ record { place = p; number = count + 1 } → Some first ≡ Some k → IsKept count (Some p ∷ places) zero k
kept_first count p places k first made is =
    let same : first ≡ k = cc in
    let number : k.number ≡ count + 1 = ap (λ (f : Kept). f.number) (sym same ∙ made) in
    let place : p ≡ k.place = ap (λ (f : Kept). f.place) (sym made ∙ same) in
    record { place = ap (λ q. Some q) place; number = omega (arith, number); few = omega (arith, number) }

numbered_at : (count : ℕ) (places : List (Option ℕ)) (object : ℕ) (k : Kept) → get_or (numbered count places) object None ≡ Some k → IsKept count places object k
numbered_at count [] object k is = absurd cc
numbered_at count (None ∷ places) zero k is = absurd cc
numbered_at count (Some p ∷ places) zero k is = kept_first count p places k _ refl is
numbered_at count (None ∷ places) (suc object) k is =
    let more = numbered_at count places object k is in
    record { place = more.place; number = more.number; few = more.few }
numbered_at count (Some p ∷ places) (suc object) k is =
    let more = numbered_at (count + 1) places object k is in
    let number : k.number ≡ count + 1 + count_kept (take object places) + 1 = more.number in
    let few : k.number ≤ count + 1 + count_kept places = more.few in
    record { place = more.place; number = omega (arith, number); few = omega (arith, few) }

-- two kept objects have two numbers
distinct : (places : List (Option ℕ)) (o x : ℕ) (k l : Kept) → IsKept 0 places o k → IsKept 0 places x l → x ≢ o → nat_eq l.number k.number ≡ false
distinct places o x k l one other ne = ne_eqb l.number k.number (λ same.
    let m : k.number ≡ 0 + count_kept (take o places) + 1 = one.number in
    let n : l.number ≡ 0 + count_kept (take x places) + 1 = other.number in
    elim (cases_lt x o) [
      | inl low ↦ let rises = count_rises places x o l.place other.place low in let never : ⊥ = omega (arith, rises, m, n, same) in never
      | inr high ↦ let low : o < x = omega (arith, ne) in let rises = count_rises places o x k.place one.place low in let never : ⊥ = omega (arith, rises, m, n, same) in never
    ])

-- ---- moves

-- an object is allocated as the next one, and freed only while it lives
abbrev pub AreMoves : (ℕ → Bool) → ℕ → List Move → Type 0
AreMoves alive count [] = Unit {0}
AreMoves alive count (move.Alloc cpu object ∷ moves) = (object ≡ count) × AreMoves (λ n. nat_eq n object || alive n) (suc count) moves
AreMoves alive count (move.Free cpu object name ∷ moves) = (alive object ≡ true) × AreMoves (λ n. not (nat_eq n object) && alive n) count moves

-- kept objects that live have numbers that live
pub record Agrees (places : List (Option ℕ)) (n : ℕ) (alive lives : ℕ → Bool) : Type 0 where
  pub below : (o : ℕ) → alive o ≡ true → o < n
  pub lively : (o : ℕ) (k : Kept) → alive o ≡ true → get_or (numbered 0 places) o None ≡ Some k → lives k.number ≡ true

pub split_or : (a b : Bool) → (a || b) ≡ true → (a ≡ true) ⊎ (b ≡ true)
split_or true b is = inl refl
split_or false b is = inr is

pub or_left : (a b : Bool) → a ≡ true → (a || b) ≡ true
or_left a b is = rw is refl

pub or_right : (a b : Bool) → b ≡ true → (a || b) ≡ true
or_right true b is = refl
or_right false b is = is

pub split_and : (a b : Bool) → (not a && b) ≡ true → (a ≡ false) × (b ≡ true)
split_and true b is = absurd (true≢false (sym is))
split_and false b is = (refl, is)

pub both : (a b : Bool) → a ≡ false → b ≡ true → (not a && b) ≡ true
both a b gone is = rw (gone, is) refl

go_alloc : (cpus cpu count : ℕ) (lives : ℕ → Bool) (rest : List Turn) (r : Option Kept)
    → ((k : Kept) → r ≡ Some k → (k.number ≡ count + 1) × AreNext (lives_after lives (Alloc (cpu % cpus) k.place k.number)) (count + 1) rest)
    → (r ≡ None → AreNext lives count rest) → AreNext lives count (cons_option (option_map (λ k. Alloc (cpu % cpus) k.place k.number) r) rest)
go_alloc cpus cpu count lives rest None some none = none refl
go_alloc cpus cpu count lives rest (Some k) some none = some k refl

go_free : (cpus cpu count : ℕ) (lives : ℕ → Bool) (rest : List Turn) (r : Option Kept)
    → ((k : Kept) → r ≡ Some k → (lives k.number ≡ true) × AreNext (lives_after lives (Free (cpu % cpus) k.number)) count rest)
    → (r ≡ None → AreNext lives count rest) → AreNext lives count (cons_option (option_map (λ k. Free (cpu % cpus) k.number) r) rest)
go_free cpus cpu count lives rest None some none = none refl
go_free cpus cpu count lives rest (Some k) some none = some k refl

alloc_agrees : (places : List (Option ℕ)) (n o cpu : ℕ) (alive lives : ℕ → Bool) (k : Kept) → o ≡ n → get_or (numbered 0 places) o None ≡ Some k → Agrees places n alive lives
    → Agrees places (suc n) (λ m. nat_eq m o || alive m) (lives_after lives (Alloc cpu k.place k.number))
alloc_agrees places n o cpu alive lives k same here agrees = record {
  below = λ m is. elim (split_or (nat_eq m o) (alive m) is) [
    | inl at ↦ let e = eqb-true m o at in omega (arith, e, same)
    | inr old ↦ let low = agrees.below m old in omega (arith, low)
  ];
  lively = λ m l is kept. elim (split_or (nat_eq m o) (alive m) is) [
    | inl at ↦ or_left (nat_eq l.number k.number) (lives l.number) (eq-eqb l.number k.number (alone m l at kept))
    | inr old ↦ or_right (nat_eq l.number k.number) (lives l.number) (agrees.lively m l old kept)
  ];
}
  where
    alone : (m : ℕ) (l : Kept) → nat_eq m o ≡ true → get_or (numbered 0 places) m None ≡ Some l → l.number ≡ k.number
    alone m l at kept =
        let e : m ≡ o = eqb-true m o at in
        let w : Some l ≡ Some k = sym kept ∙ ap (λ i. get_or (numbered 0 places) i None) e ∙ here in
        let same : l ≡ k = cc in ap (λ (f : Kept). f.number) same

skip_agrees : (places : List (Option ℕ)) (n o : ℕ) (alive lives : ℕ → Bool) → o ≡ n → get_or (numbered 0 places) o None ≡ None → Agrees places n alive lives
    → Agrees places (suc n) (λ m. nat_eq m o || alive m) lives
skip_agrees places n o alive lives same here agrees = record {
  below = λ m is. elim (split_or (nat_eq m o) (alive m) is) [
    | inl at ↦ let e = eqb-true m o at in omega (arith, e, same)
    | inr old ↦ let low = agrees.below m old in omega (arith, low)
  ];
  lively = λ m l is kept. elim (split_or (nat_eq m o) (alive m) is) [
    | inl at ↦ absurd (none m l at kept)
    | inr old ↦ agrees.lively m l old kept
  ];
}
  where
    none : (m : ℕ) (l : Kept) → nat_eq m o ≡ true → get_or (numbered 0 places) m None ≡ Some l → ⊥
    none m l at kept =
        let e : m ≡ o = eqb-true m o at in
        let w : Some l ≡ None = sym kept ∙ ap (λ i. get_or (numbered 0 places) i None) e ∙ here in cc

free_agrees : (places : List (Option ℕ)) (n o cpu : ℕ) (alive lives : ℕ → Bool) (k : Kept) → get_or (numbered 0 places) o None ≡ Some k → Agrees places n alive lives
    → Agrees places n (λ m. not (nat_eq m o) && alive m) (lives_after lives (Free cpu k.number))
free_agrees places n o cpu alive lives k here agrees = record {
  below = λ m is. agrees.below m (split_and (nat_eq m o) (alive m) is).1;
  lively = λ m l is kept.
      let parts = split_and (nat_eq m o) (alive m) is in
      both (nat_eq l.number k.number) (lives l.number)
      (distinct places o m k l (numbered_at 0 places o k here) (numbered_at 0 places m l kept) (eqb-false m o parts.0))
      (agrees.lively m l parts.1 kept);
}

gone_agrees : (places : List (Option ℕ)) (n o : ℕ) (alive lives : ℕ → Bool) → Agrees places n alive lives → Agrees places n (λ m. not (nat_eq m o) && alive m) lives
gone_agrees places n o alive lives agrees = record {
  below = λ m is. agrees.below m (split_and (nat_eq m o) (alive m) is).1;
  lively = λ m l is kept. agrees.lively m l (split_and (nat_eq m o) (alive m) is).1 kept;
}

none_kept : (count : ℕ) (places : List (Option ℕ)) (object : ℕ) → get_or (numbered count places) object None ≡ None → get_or places object None ≡ None
none_kept count [] object is = refl
none_kept count (None ∷ places) zero is = refl
none_kept count (Some p ∷ places) zero is = absurd cc
none_kept count (None ∷ places) (suc object) is = none_kept count places object is
none_kept count (Some p ∷ places) (suc object) is = none_kept (count + 1) places object is

-- the turns follow each other
pub moves_next : (places : List (Option ℕ)) (cpus : ℕ) (moves : List Move) (n count : ℕ) (alive lives : ℕ → Bool) → count ≡ count_kept (take n places)
    → AreMoves alive n moves → Agrees places n alive lives → AreNext lives count (turns_of places cpus moves)
moves_next places cpus [] n count alive lives is are agrees = tt
moves_next places cpus (move.Alloc cpu o ∷ moves) n count alive lives is are agrees =
    let same : o ≡ n = are.0 in
    let step = take_next places n in
    go_alloc cpus cpu count lives (turns_of places cpus moves) (get_or (numbered 0 places) o None)
    (λ k here.
    let kept = numbered_at 0 places o k here in
    let number : k.number ≡ 0 + count_kept (take o places) + 1 = kept.number in
    let moved : count_kept (take o places) ≡ count_kept (take n places) = ap (λ i. count_kept (take i places)) same in
    let one : count_kept (get_or places n None ∷ []) ≡ 1 = ap (λ p. count_kept (p ∷ [])) (ap (λ i. get_or places i None) (sym same) ∙ kept.place) in (
      (omega (arith, number, moved, is)),
      moves_next places cpus moves (suc n) (count + 1) (λ m. nat_eq m o || alive m) (lives_after lives (Alloc (cpu % cpus) k.place k.number))
          (omega (arith, step, one, is)) are.1 (alloc_agrees places n o (cpu % cpus) alive lives k same here agrees),
    ))
    (λ here.
    let one : count_kept (get_or places n None ∷ []) ≡ 0 = ap (λ p. count_kept (p ∷ [])) (ap (λ i. get_or places i None) (sym same) ∙ none_kept 0 places o here) in
    moves_next places cpus moves (suc n) count (λ m. nat_eq m o || alive m) lives (omega (arith, step, one, is)) are.1 (skip_agrees places n o alive lives same here agrees))
moves_next places cpus (move.Free cpu o name ∷ moves) n count alive lives is are agrees =
    go_free cpus cpu count lives (turns_of places cpus moves) (get_or (numbered 0 places) o None)
    (λ k here. (
      agrees.lively o k are.0 here,
      moves_next places cpus moves n count (λ m. not (nat_eq m o) && alive m) (lives_after lives (Free (cpu % cpus) k.number)) is are.1 (free_agrees places n o (cpu % cpus) alive lives k here agrees),
    ))
    (λ here. moves_next places cpus moves n count (λ m. not (nat_eq m o) && alive m) lives is are.1 (gone_agrees places n o alive lives agrees))

-- ---- ranges

fit_alloc : (cpus cpu : ℕ) (rows : List Row) (rest : List Turn) (r : Option Kept) → ((k : Kept) → r ≡ Some k → (cpu % cpus < cpus) × (k.place < length rows) × (k.number ≤ 1048576))
    → AreTurns cpus rows rest → AreTurns cpus rows (cons_option (option_map (λ k. Alloc (cpu % cpus) k.place k.number) r) rest)
fit_alloc cpus cpu rows rest None some are = are
fit_alloc cpus cpu rows rest (Some k) some are = (some k refl, are)

fit_free : (cpus cpu : ℕ) (rows : List Row) (rest : List Turn) (r : Option Kept) → ((k : Kept) → r ≡ Some k → (cpu % cpus < cpus) × (k.number ≤ 1048576))
    → AreTurns cpus rows rest → AreTurns cpus rows (cons_option (option_map (λ k. Free (cpu % cpus) k.number) r) rest)
fit_free cpus cpu rows rest None some are = are
fit_free cpus cpu rows rest (Some k) some are = (some k refl, are)

pub moves_fit : (places : List (Option ℕ)) (cpus : ℕ) (rows : List Row) (moves : List Move) → 1 ≤ cpus → ((o p : ℕ) → get_or places o None ≡ Some p → p < length rows)
    → count_kept places ≤ 1048576 → AreTurns cpus rows (turns_of places cpus moves)
moves_fit places cpus rows [] some inside few = tt
moves_fit places cpus rows (move.Alloc cpu o ∷ moves) some inside few =
    fit_alloc cpus cpu rows (turns_of places cpus moves) (get_or (numbered 0 places) o None)
    (λ k here. let kept = numbered_at 0 places o k here in let most : k.number ≤ 0 + count_kept places = kept.few in ((omega arith), inside o k.place kept.place, (omega (arith, most))))
    (moves_fit places cpus rows moves some inside few)
moves_fit places cpus rows (move.Free cpu o name ∷ moves) some inside few =
    fit_free cpus cpu rows (turns_of places cpus moves) (get_or (numbered 0 places) o None)
    (λ k here. let kept = numbered_at 0 places o k here in let most : k.number ≤ 0 + count_kept places = kept.few in ((omega arith), (omega (arith, most))))
    (moves_fit places cpus rows moves some inside few)
