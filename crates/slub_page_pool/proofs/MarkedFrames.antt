-- The free frames that marks tell.
use Rattle.std.proofs.Common.{ℕ, zero, suc, ◌+◌, ◌-◌, ◌%◌, ◌^◌, ◌<◌, ◌≤◌, ◌≡◌, inl, inr, Bool, true, false, cond, ltb, leb, ◌||◌, ◌&&◌, List, [], ◌∷◌, ◌++◌, length, get_or, take, drop, set, replicate, refl, add-zero, zero-add, sym, ◌∙◌, ap, subst, arith, Contains, All, IsTrue, ◌↔◌}
use Rattle.std.specs.List.{range_with_len, filter, count_by}
use Rattle.std.specs.List.Sorted.{IsStrictlyIncreasing}
use Rattle.std.proofs.lemmas.Bool.{cases_lt, lt-ltb, le-ltb, le-leb, lt-leb, false≢true}
use Rattle.std.proofs.lemmas.List.{append-nil, take_more_set, drop-set-lt, get_or_past, get_or_append_left, get_or-append_right, get_or-set_same, length-set, get_or-take, get_or-drop, get_or-replicate, length-append, length-replicate, length-take, length-take-le, length-drop}
use Rattle.std.proofs.lemmas.List.Elements.{filter-append, All-get_or, All-from_get_or, Contains-get_or}
use Rattle.std.proofs.lemmas.List.Kept.{IsStrictlyIncreasing-filter}
use Rattle.std.proofs.lemmas.List.Sums.{sum_by-cons}
use Rattle.std.proofs.lemmas.Nat.{pow_pos}
use Rattle.std.proofs.Math.Numerals.{sub-one}
use Rattle.slub_page_pool.specs.FreeFrames.{FreeFrames, opening, IsPool}
use Rattle.slub_page_pool.specs.Marks.{free_of, AreMarks}
use Rattle.slub_page_pool.specs.Block.{IsFreeRun, IsBlock, IsTaken, less_run, with_run}
use Rattle.slub_page_pool.proofs.FreeRuns.{pow_le, IsTaken-free, IsStrictlyIncreasing-with_run, Contains-with_run_old, Contains-with_run_new, from_with_run}
use Rattle.slub_common.proofs.Lists.{Contains-filter, from_filter, Contains-range_with_len, from_range_with_len, IsStrictlyIncreasing-range_with_len, filter-filter, filter_all, same_members, range_with_len-append}

-- a mark that is set lies within the machine
pub mark_inside : (marks : List Bool) (g : ℕ) → get_or marks g false ≡ true → g < length marks
mark_inside marks g marked =
    elim (cases_lt g (length marks)) [
      | inl inside ↦ inside
      | inr past ↦ absurd (false≢true (sym (get_or_past marks g false past) ∙ marked))
    ]

-- a marked frame is free
pub Contains-free_of : (marks : List Bool) (g : ℕ) → get_or marks g false ≡ true → Contains (free_of marks) g
Contains-free_of marks g marked =
    let inside : g < length marks = mark_inside marks g marked in
    Contains-filter (λ f. get_or marks f false) (range_with_len 0 (length marks)) g (Contains-range_with_len 0 (length marks) g (omega arith) (omega arith)) marked

-- a free frame is marked
pub from_free_of : (marks : List Bool) (g : ℕ) → Contains (free_of marks) g → get_or marks g false ≡ true
from_free_of marks g found = (from_filter (λ f. get_or marks f false) (range_with_len 0 (length marks)) g found).1

-- the free frames rise
pub IsStrictlyIncreasing-free_of : (marks : List Bool) → IsStrictlyIncreasing (free_of marks)
IsStrictlyIncreasing-free_of marks =
    IsStrictlyIncreasing-filter (λ f. get_or marks f false) (range_with_len 0 (length marks)) (IsStrictlyIncreasing-range_with_len 0 (length marks))

-- marks with a run set to v
abbrev pub with_marks : List Bool → ℕ → ℕ → Bool → List Bool
with_marks marks f n v = take f marks ++ replicate n v ++ drop (f + n) marks

module _ (marks : List Bool) (f n : ℕ) (v : Bool) (inside : f + n ≤ length marks) where
  pub length-with_marks : length (with_marks marks f n v) ≡ length marks
  length-with_marks = simp (length-append, length-replicate, length-drop) (omega (arith, length-take-le f marks (omega arith)))

  -- a frame before the run keeps its mark
  pub get_or-with_marks_below : (g : ℕ) → g < f → get_or (with_marks marks f n v) g false ≡ get_or marks g false
  get_or-with_marks_below g below =
      let front : length (take f marks) ≡ f = length-take-le f marks (omega arith) in
      get_or_append_left (take f marks ++ replicate n v) (drop (f + n) marks) false g (omega (arith, length-append (take f marks) (replicate n v)))
      ∙ get_or_append_left (take f marks) (replicate n v) false g (omega arith) ∙ get_or-take f marks g false below

  -- a frame of the run has the new mark
  pub get_or-with_marks_within : (g : ℕ) → f ≤ g → g < f + n → get_or (with_marks marks f n v) g false ≡ v
  get_or-with_marks_within g low high =
      let front : length (take f marks) ≡ f = length-take-le f marks (omega arith) in
      get_or_append_left (take f marks ++ replicate n v) (drop (f + n) marks) false g (omega (arith, length-append (take f marks) (replicate n v), length-replicate n v))
      ∙ get_or-append_right (take f marks) (replicate n v) f g false front low ∙ get_or-replicate n (g - f) v false (omega arith)

  -- a frame after the run keeps its mark
  pub get_or-with_marks_above : (g : ℕ) → f + n ≤ g → get_or (with_marks marks f n v) g false ≡ get_or marks g false
  get_or-with_marks_above g above =
      let front : length (take f marks) ≡ f = length-take-le f marks (omega arith) in
      let middle : length (take f marks ++ replicate n v) ≡ f + n = omega (arith, length-append (take f marks) (replicate n v), length-replicate n v) in
      let place : f + n + (g - (f + n)) ≡ g = omega arith in
      get_or-append_right (take f marks ++ replicate n v) (drop (f + n) marks) (f + n) g false middle above
      ∙ get_or-drop (f + n) marks (g - (f + n)) false ∙ ap (λ k. get_or marks k false) place

-- what the marks of a run that is no longer free tell
mark-less_run : (marks : List Bool) (f n : ℕ) → f + n ≤ length marks → (g : ℕ) → get_or (with_marks marks f n false) g false ≡ (get_or marks g false && (ltb g f || leb (f + n) g))
mark-less_run marks f n inside g =
    elim (cases_lt g f) [
      | inl below ↦ rw (get_or-with_marks_below marks f n false inside g below, lt-ltb g f below) (and_true (get_or marks g false))
      | inr low ↦ elim (cases_lt g (f + n)) [
        | inl high ↦ rw (get_or-with_marks_within marks f n false inside g low high, le-ltb g f low, lt-leb (f + n) g high) (and_false (get_or marks g false))
        | inr above ↦ rw (get_or-with_marks_above marks f n false inside g above, le-ltb g f low, le-leb (f + n) g above) (and_true (get_or marks g false))
      ]
    ] where
      and_true : (b : Bool) → b ≡ (b && true)
      and_true true = refl
      and_true false = refl

      and_false : (b : Bool) → false ≡ (b && false)
      and_false true = refl
      and_false false = refl

-- a run is no longer free: the free frames without it
pub free_of-less_run : (marks : List Bool) (f order : ℕ) → f + 2 ^ order ≤ length marks → free_of (with_marks marks f (2 ^ order) false) ≡ less_run (free_of marks) f order
free_of-less_run marks f order inside =
    rw (length-with_marks marks f (2 ^ order) false inside)
    (sym (filter-filter (λ g. ltb g f || leb (f + 2 ^ order) g) (λ g. get_or marks g false) (λ g. get_or (with_marks marks f (2 ^ order) false) g false)
    (mark-less_run marks f (2 ^ order) inside) (range_with_len 0 (length marks))))

-- a free frame of a pool is from 1 to frames - 1
free_of-usable : (marks : List Bool) (dry : List ℕ) → AreMarks marks dry → (f : ℕ) → Contains (free_of marks) f → (1 ≤ f) × (f < length marks)
free_of-usable marks dry kept f found =
    let marked : get_or marks f false ≡ true = from_free_of marks f found in (
      elim (cases_lt 0 f) [
        | inl positive ↦ omega arith
        | inr zero_ ↦ let none : f ≡ 0 = omega arith in absurd (false≢true (sym kept.frame_zero ∙ sym (ap (λ g. get_or marks g false) none) ∙ marked))
      ],
      mark_inside marks f marked,
    )

-- marks of a pool show a pool
pub IsPool-marks : (marks : List Bool) (dry : List ℕ) → AreMarks marks dry → (let seen : FreeFrames = record { frames = length marks; free = free_of marks; dry = dry } in IsPool seen)
IsPool-marks marks dry kept = record {
  least = kept.least;
  most = kept.most;
  rising = IsStrictlyIncreasing-free_of marks;
  usable = λ k d short. free_of-usable marks dry kept (get_or (free_of marks) k d) (Contains-get_or (free_of marks) k d short);
  orders = kept.orders;
}

-- a slice of marks that are all set is free
pub IsFreeRun-marks : (marks : List Bool) (f order : ℕ) → f % 2 ^ order ≡ 0 → f + 2 ^ order ≤ length marks → All IsTrue (take (2 ^ order) (drop f marks)) → IsFreeRun (free_of marks) f order
IsFreeRun-marks marks f order aligned inside set_ = record {
  aligned = aligned;
  all_free = λ g low high.
      let short : g - f < length (take (2 ^ order) (drop f marks)) = omega (arith, length-take-le (2 ^ order) (drop f marks) (omega (arith, length-drop f marks)), length-drop f marks) in
      let place : f + (g - f) ≡ g = omega arith in
      let here : get_or (take (2 ^ order) (drop f marks)) (g - f) false ≡ get_or marks g false =
      get_or-take (2 ^ order) (drop f marks) (g - f) false (omega arith) ∙ get_or-drop f marks (g - f) false ∙ ap (λ k. get_or marks k false) place in
      Contains-free_of marks g (sym here ∙ All-get_or IsTrue (take (2 ^ order) (drop f marks)) (g - f) false short set_);
}

-- the marks of a free run are all set, and lie within the machine
pub marks_of-IsFreeRun : (marks : List Bool) (f order : ℕ) → IsFreeRun (free_of marks) f order → (f + 2 ^ order ≤ length marks) × All IsTrue (take (2 ^ order) (drop f marks))
marks_of-IsFreeRun marks f order run =
    let some : 0 < 2 ^ order = pow_pos order in
    let last : f + 2 ^ order - 1 < length marks = mark_inside marks (f + 2 ^ order - 1) (from_free_of marks (f + 2 ^ order - 1) (run.all_free (f + 2 ^ order - 1) (omega arith) (omega arith))) in (
      omega arith,
      All-from_get_or IsTrue (take (2 ^ order) (drop f marks)) false (λ i short.
          let below : i < 2 ^ order = omega (arith, length-take (2 ^ order) (drop f marks)) in
          get_or-take (2 ^ order) (drop f marks) i false below ∙ get_or-drop f marks i false ∙ from_free_of marks (f + i) (run.all_free (f + i) (omega arith) (omega arith))),
    )

-- what a test of the marks of an aligned run tells
pub IsFreeRun-tested : (marks : List Bool) (f order len : ℕ) (run : List Bool) (b : Bool) → len ≡ 2 ^ order → f % len ≡ 0 → f + len ≤ length marks → run ≡ take len (drop f marks)
    → (IsTrue b ↔ All IsTrue run) → IsTrue b ↔ IsFreeRun (free_of marks) f order
IsFreeRun-tested marks f order len run b long aligned inside is test =
    let same : run ≡ take (2 ^ order) (drop f marks) = is ∙ ap (λ n. take n (drop f marks)) long in
    let start : f % 2 ^ order ≡ 0 = subst (λ n. f % n ≡ 0) long aligned in (
      λ yes. IsFreeRun-marks marks f order start (omega arith) (subst (λ s. All IsTrue s) same (test.0 yes)),
      λ free. test.1 (subst (λ s. All IsTrue s) (sym same) (marks_of-IsFreeRun marks f order free).1),
    )

-- a block lies within the machine
pub IsBlock-inside : (marks : List Bool) (f order : ℕ) → IsBlock (free_of marks) f order → f + 2 ^ order ≤ length marks
IsBlock-inside marks f order block = (marks_of-IsFreeRun marks f order block.run).0

-- so does the run that a take chooses
pub IsTaken-inside : (marks : List Bool) (f order : ℕ) → IsTaken (free_of marks) order f → f + 2 ^ order ≤ length marks
IsTaken-inside marks f order taken = omega (arith, IsBlock-inside marks f taken.found taken.block, pow_le order taken.found taken.enough)

-- and it is not at frame 0
pub IsTaken-positive : (marks : List Bool) (dry : List ℕ) → AreMarks marks dry → (f order : ℕ) → IsTaken (free_of marks) order f → 1 ≤ f
IsTaken-positive marks dry kept f order taken =
    (free_of-usable marks dry kept f (IsTaken-free taken f (omega arith) (omega (arith, pow_pos order)))).0

-- marks of a pool without a run are marks of a pool
pub AreMarks-less_run : (marks : List Bool) (dry : List ℕ) → AreMarks marks dry → (f n : ℕ) → f + n ≤ length marks → AreMarks (with_marks marks f n false) dry
AreMarks-less_run marks dry kept f n inside = record {
  least = omega (arith, length-with_marks marks f n false inside, kept.least);
  most = omega (arith, length-with_marks marks f n false inside, kept.most);
  frame_zero = rw (mark-less_run marks f n inside 0, kept.frame_zero) refl;
  orders = kept.orders;
}

-- what marks and counts show
abbrev pub shown : List Bool → List ℕ → FreeFrames
shown marks dry = record { frames = length marks; free = free_of marks; dry = dry }

-- pools with the same frames, free frames and counts are the same
pub same_pool : {a b : FreeFrames} → a.frames ≡ b.frames → a.free ≡ b.free → a.dry ≡ b.dry → a ≡ b
same_pool {a} {b} frames free dry = λ i. record { frames = frames i; free = free i; dry = dry i }

-- a taken run is no longer free, and nothing else changes
pub shown-less_run : (marks : List Bool) (dry : List ℕ) (f order : ℕ) → f + 2 ^ order ≤ length marks
    → shown (with_marks marks f (2 ^ order) false) dry ≡ (let old = shown marks dry in record old { free = less_run old.free f order })
shown-less_run marks dry f order inside = same_pool (length-with_marks marks f (2 ^ order) false inside) (free_of-less_run marks f order inside) refl

-- the free frames where all frames but frame 0 are marked
free_of-opening : (n : ℕ) → free_of (set (replicate (suc n) true) 0 false) ≡ range_with_len 1 n
free_of-opening n =
    rw (length-replicate n true) (filter_all (λ f. get_or (false ∷ replicate n true) f false) (range_with_len 1 n) (λ f found.
    let bounds : (1 ≤ f) × (f < 1 + n) = from_range_with_len 1 n f found in
    get_or-append_right (false ∷ []) (replicate n true) 1 f false refl bounds.0 ∙ get_or-replicate n (f - 1) true false (omega arith)))

-- what a new pool shows
pub shown-opening : (frames : ℕ) → 1 ≤ frames → shown (set (replicate frames true) 0 false) (replicate 11 0) ≡ opening frames
shown-opening zero some = absurd (omega arith)
shown-opening (suc n) some = same_pool (length-set (replicate (suc n) true) 0 false ∙ length-replicate (suc n) true) (rw sub-one (free_of-opening n)) refl

-- a new pool's marks
pub AreMarks-opening : (frames : ℕ) → 2 ≤ frames → frames ≤ 4096 → AreMarks (set (replicate frames true) 0 false) (replicate 11 0)
AreMarks-opening frames least most = record {
  least = omega (arith, length-set (replicate frames true) 0 false, length-replicate frames true);
  most = omega (arith, length-set (replicate frames true) 0 false, length-replicate frames true);
  frame_zero = get_or-set_same (replicate frames true) 0 false false (omega (arith, length-replicate frames true));
  orders = refl;
}

-- what a mark tells of its frame
pub Contains-tested : (marks : List Bool) (f : ℕ) (b : Bool) → b ≡ get_or marks f false → IsTrue b ↔ Contains (free_of marks) f
Contains-tested marks f b is = (λ yes. Contains-free_of marks f (sym is ∙ yes), λ found. is ∙ from_free_of marks f found)

-- one more place is counted by its mark
count_one : (m : Bool) (k : ℕ) (found : List ℕ) (n : ℕ) → length found ≡ n → length (cond m (k ∷ found) found) ≡ cond m 1 0 + n
count_one true k found n is = omega (arith, is)
count_one false k found n is = omega (arith, is)

-- as many places pass as marks are set, where the test tells the marks from a place on
count_from : (p : ℕ → Bool) (marks : List Bool) (k : ℕ) → ((i : ℕ) → p (k + i) ≡ get_or marks i false) → length (filter p (range_with_len k (length marks))) ≡ count_by (λ mark. mark) marks
count_from p [] k tells = refl
count_from p (m ∷ ms) k tells =
    let first : p k ≡ m = sym (ap p (add-zero k)) ∙ tells 0 in
    let rest = count_from p ms (k + 1) (λ i. let place : k + 1 + i ≡ k + suc i = omega arith in ap p place ∙ tells (suc i)) in
    rw first (count_one m k (filter p (range_with_len (k + 1) (length ms))) (count_by (λ mark. mark) ms) rest ∙ sym (sum_by-cons (λ mark. cond mark 1 0) m ms))

-- there are as many free frames as marks that are set
pub length-free_of : (marks : List Bool) → length (free_of marks) ≡ count_by (λ mark. mark) marks
length-free_of marks = count_from (λ f. get_or marks f false) marks 0 (λ i. ap (λ k. get_or marks k false) (zero-add i))

-- marks of a pool with a run that comes back are marks of a pool
pub AreMarks-with_run : (marks : List Bool) (dry : List ℕ) → AreMarks marks dry → (f n : ℕ) → f + n ≤ length marks → 1 ≤ f → AreMarks (with_marks marks f n true) dry
AreMarks-with_run marks dry kept f n inside positive = record {
  least = omega (arith, length-with_marks marks f n true inside, kept.least);
  most = omega (arith, length-with_marks marks f n true inside, kept.most);
  frame_zero = rw (get_or-with_marks_below marks f n true inside 0 positive) kept.frame_zero;
  orders = kept.orders;
}

-- a run comes back: the free frames and the run
pub free_of-with_run : (marks : List Bool) (f order : ℕ) → f + 2 ^ order ≤ length marks → free_of (with_marks marks f (2 ^ order) true) ≡ with_run (free_of marks) f order
free_of-with_run marks f order inside =
    let new = with_marks marks f (2 ^ order) true in
    same_members (free_of new) (with_run (free_of marks) f order) (IsStrictlyIncreasing-free_of new) (IsStrictlyIncreasing-with_run (free_of marks) f order (IsStrictlyIncreasing-free_of marks))
    (λ g found. elim (cases_lt g f) [
      | inl before ↦ Contains-with_run_old (free_of marks) f order g (Contains-free_of marks g (sym (get_or-with_marks_below marks f (2 ^ order) true inside g before) ∙ from_free_of new g found))
      | inr low ↦ elim (cases_lt g (f + 2 ^ order)) [
        | inl high ↦ Contains-with_run_new (free_of marks) f order g low high
        | inr after ↦ Contains-with_run_old (free_of marks) f order g (Contains-free_of marks g (sym (get_or-with_marks_above marks f (2 ^ order) true inside g after) ∙ from_free_of new g found))
      ]
    ])
    (λ g found. Contains-free_of new g (elim (cases_lt g f) [
      | inl before ↦ elim (from_with_run (free_of marks) f order g found) [
        | inl old ↦ get_or-with_marks_below marks f (2 ^ order) true inside g before ∙ from_free_of marks g old
        | inr within ↦ absurd (omega (arith, within.0))
      ]
      | inr low ↦ elim (cases_lt g (f + 2 ^ order)) [
        | inl high ↦ get_or-with_marks_within marks f (2 ^ order) true inside g low high
        | inr after ↦ elim (from_with_run (free_of marks) f order g found) [
          | inl old ↦ get_or-with_marks_above marks f (2 ^ order) true inside g after ∙ from_free_of marks g old
          | inr within ↦ absurd (omega (arith, within.1))
        ]
      ]
    ]))

-- a run is free again, and nothing else changes
pub shown-with_run : (marks : List Bool) (dry : List ℕ) (f order : ℕ) → f + 2 ^ order ≤ length marks
    → shown (with_marks marks f (2 ^ order) true) dry ≡ (let old = shown marks dry in record old { free = with_run old.free f order })
shown-with_run marks dry f order inside = same_pool (length-with_marks marks f (2 ^ order) true inside) (free_of-with_run marks f order inside) refl

-- the free frames below a frame
abbrev pub free_below : List Bool → ℕ → List ℕ
free_below marks i = filter (λ f. get_or marks f false) (range_with_len 0 i)

-- the next frame, where it is marked
free_below-step : (marks : List Bool) (i : ℕ) → free_below marks (i + 1) ≡ free_below marks i ++ cond (get_or marks i false) (i ∷ []) []
free_below-step marks i =
    let p = λ (f : ℕ). get_or marks f false in
    ap (filter p) (range_with_len-append 0 i 1) ∙ filter-append p (range_with_len 0 i) (range_with_len (0 + i) 1) ∙ rw zero-add refl

-- a frame that isn't marked adds nothing to them
pub free_below-skip : (marks : List Bool) (i : ℕ) → get_or marks i false ≡ false → free_below marks (i + 1) ≡ free_below marks i
free_below-skip marks i skipped = free_below-step marks i ∙ rw skipped (append-nil (free_below marks i))

-- and a marked one adds itself
pub free_below-more : (marks : List Bool) (i : ℕ) → get_or marks i false ≡ true → free_below marks (i + 1) ≡ free_below marks i ++ i ∷ []
free_below-more marks i marked = free_below-step marks i ∙ rw marked refl

-- there are no more of them than free frames
pub length-free_below : (marks : List Bool) (i : ℕ) → i ≤ length marks → length (free_below marks i) ≤ length (free_of marks)
length-free_below marks i inside =
    let whole : i + (length marks - i) ≡ length marks = omega arith in
    let parts : range_with_len 0 (length marks) ≡ range_with_len 0 i ++ range_with_len (0 + i) (length marks - i) = sym (ap (λ n. range_with_len 0 n) whole) ∙ range_with_len-append 0 i (length marks - i) in
    let p = λ (f : ℕ). get_or marks f false in
    omega (arith, ap length (ap (filter p) parts ∙ filter-append p (range_with_len 0 i) (range_with_len (0 + i) (length marks - i))), length-append (filter p (range_with_len 0 i)) (filter p (range_with_len (0 + i) (length marks - i))))

-- the marked frames below i stand at the front, and what lies beyond the room for all is as it was
pub record Written (marks : List Bool) (old new : List ℕ) (i written : ℕ) : Type 0 where
  pub count : written ≡ length (free_below marks i)
  pub front : take written new ≡ free_below marks i
  pub rest : drop (length (free_of marks)) new ≡ drop (length (free_of marks)) old
  pub long : length new ≡ length old

-- nothing is written at first
pub Written-none : (marks : List Bool) (out : List ℕ) → Written marks out out 0 0
Written-none marks out = record { count = refl; front = refl; rest = refl; long = refl }

-- there is room for a marked frame
pub Written-room : {marks : List Bool} {old new : List ℕ} {i written : ℕ} → Written marks old new i written → length (free_of marks) ≤ length old → get_or marks i false ≡ true → written < length (free_of marks)
Written-room {marks} {old} {new} {i} {written} before room marked =
    let below = length-free_below marks (i + 1) (omega (arith, mark_inside marks i marked)) in
    omega (arith, before.count, below, ap length (free_below-more marks i marked), length-append (free_below marks i) (i ∷ []))

-- a marked frame is written
pub Written-more : {marks : List Bool} {old new : List ℕ} {i written : ℕ} → Written marks old new i written → length (free_of marks) ≤ length old → get_or marks i false ≡ true → Written marks old (set new written i) (i + 1) (written + 1)
Written-more {marks} {old} {new} {i} {written} before room marked =
    let fits : written < length (free_of marks) = Written-room before room marked in
    let short : written < length new = omega (arith, before.long) in
    record {
      count = rw (free_below-more marks i marked) (omega (arith, before.count, length-append (free_below marks i) (i ∷ [])));
      front = take_more_set new written i short ∙ ap (λ s. s ++ i ∷ []) before.front ∙ sym (free_below-more marks i marked);
      rest = drop-set-lt (length (free_of marks)) new written i fits ∙ before.rest;
      long = length-set new written i ∙ before.long;
    }

-- another frame isn't
pub Written-skip : {marks : List Bool} {old new : List ℕ} {i written : ℕ} → Written marks old new i written → get_or marks i false ≡ false → Written marks old new (i + 1) written
Written-skip {marks} {old} {new} {i} {written} before skipped = record {
  count = rw (free_below-skip marks i skipped) before.count;
  front = rw (free_below-skip marks i skipped) before.front;
  rest = before.rest;
  long = before.long;
}
