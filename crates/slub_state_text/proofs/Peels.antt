-- The free frames are those that no slab has.
use Rattle.std.proofs.Common.{◌≡◌, ℕ, suc, ◌+◌, ◌<◌, ◌≤◌, Bool, true, false, nat_lt, if◌then◌else◌, List, [], ◌∷◌, length, get_or, drop, max, Option, Some, None, refl, ap, ◌∙◌, arith, inl, inr, drop-cons}
use Rattle.std.specs.List.{filter, range_with_len}
use Rattle.std.proofs.lemmas.Bool.{cases_lt}
use Rattle.std.proofs.lemmas.Bool.Decides.{nat_tests}
use Rattle.std.proofs.lemmas.List.Elements.{All-contains}
use Rattle.std.proofs.lemmas.List.Kept.{IsStrictlyIncreasing-filter}
use Rattle.slub_common.specs.Times.{times}
use Rattle.slub_common.proofs.Lists.{Contains-filter, from_filter, same_members, IsStrictlyIncreasing-range_with_len, Contains-range_with_len}
use Rattle.slub_common.proofs.Times.{Contains-times, times-contained}
use Rattle.slub_lists.specs.declared.lists.Slab.{Slab}
use Rattle.slub_lists.specs.State.{State}
use Rattle.slub_lists.specs.Coherent.{IsFramed, IsShaped, covers, covered_from}
use Rattle.slub_state_text.specs.Frames.{end_of, past}

-- 1 where a number is below another
abbrev pub below : ℕ → ℕ → ℕ
below f n = if nat_lt f n then 1 else 0

-- a frame is among the free ones
abbrev pub is_free : State → ℕ → Bool
is_free s frame = nat_lt 0 (times frame s.pool.free)

-- a frame from this one on is free, below `next`, which slabs before reach, or in a slab that begins here or later
pub record IsPeeled (s : State) (frame next : ℕ) : Type 0 where
  pub some : 1 ≤ next
  pub rest : (f : ℕ) → frame ≤ f → 0 < f → times f s.pool.free + below f next + covered_from f frame (drop frame s.slabs) ≡ below f s.frames

-- slabs that begin later haven't the frame
pub uncovered : (f first : ℕ) (slabs : List (Option Slab)) → f < first → covered_from f first slabs ≡ 0
uncovered f first [] later = refl
uncovered f first (None ∷ slabs) later = omega (arith, uncovered f (first + 1) slabs (omega arith))
uncovered f first (Some slab ∷ slabs) later =
    let none : covers f first (Some slab) ≡ 0 = grind (arith, nat_tests, later) in
    omega (arith, none, uncovered f (first + 1) slabs (omega arith))

-- the slab that begins here has a later frame where that is before its end
covers_here : (f frame : ℕ) (slab : Option Slab) → frame ≤ f → covers f frame slab ≡ below f (end_of frame slab)
covers_here f frame None from = grind (arith, nat_tests)
covers_here f frame (Some slab) from = grind (arith, nat_tests, from)

peeled_one : (f frame : ℕ) (slabs : List (Option Slab)) → frame ≤ f → frame < length slabs
    → covered_from f frame (drop frame slabs) ≡ below f (end_of frame (get_or slabs frame None)) + covered_from f (frame + 1) (drop (frame + 1) slabs)
peeled_one f frame slabs from within =
    let turned : suc frame ≡ frame + 1 = omega arith in
    let front : drop frame slabs ≡ get_or slabs frame None ∷ drop (frame + 1) slabs = drop-cons slabs frame None within ∙ ap (λ n. get_or slabs frame None ∷ drop n slabs) turned in
    ap (covered_from f frame) front ∙ ap (λ n. n + covered_from f (frame + 1) (drop (frame + 1) slabs)) (covers_here f frame (get_or slabs frame None) from)

joined_ends : (f a b : ℕ) → below f a + below f b ≤ 1 → below f (max a b) ≡ below f a + below f b
joined_ends f a b one = grind (arith, nat_tests, one)

below_one : (f n : ℕ) → below f n ≤ 1
below_one f n = grind (arith, nat_tests)

pub peel_first : (s : State) → IsFramed s → IsPeeled s 0 1
peel_first s framed = record {
  some = omega arith;
  rest = λ f from later. grind (arith, nat_tests, framed f, later);
}

pub peel_next : (s : State) (frame next : ℕ) → IsPeeled s frame next → frame < length s.slabs → IsPeeled s (frame + 1) (past next frame (get_or s.slabs frame None))
peel_next s frame next peeled within =
    let slab = get_or s.slabs frame None in
    record {
      some = omega (arith, peeled.some);
      rest = λ f from later.
          let it = peeled.rest f (omega arith) later in
          let one = peeled_one f frame s.slabs (omega arith) within in
          let least = below_one f s.frames in
          omega (arith, it, one, least, joined_ends f next (end_of frame slab) (omega (arith, it, one, least)));
    }

here : (s : State) (frame next : ℕ) → IsPeeled s frame next → frame < length s.slabs → 0 < frame
    → times frame s.pool.free + below frame (past next frame (get_or s.slabs frame None)) ≡ below frame s.frames
here s frame next peeled within later =
    let slab = get_or s.slabs frame None in
    let it = peeled.rest frame (omega arith) later in
    let one = peeled_one frame frame s.slabs (omega arith) within in
    let none = uncovered frame (frame + 1) (drop (frame + 1) s.slabs) (omega arith) in
    let least = below_one frame s.frames in
    omega (arith, it, one, none, least, joined_ends frame next (end_of frame slab) (omega (arith, it, one, least)))

pub here_free : (s : State) (frame next : ℕ) → IsPeeled s frame next → frame < length s.slabs → length s.slabs ≡ s.frames → past next frame (get_or s.slabs frame None) ≤ frame
    → is_free s frame ≡ true
here_free s frame next peeled within frames before =
    let later : 0 < frame = omega (arith, peeled.some, before) in
    let sum = here s frame next peeled within later in
    grind (arith, nat_tests, sum, before, within, frames)

pub here_taken : (s : State) (frame next : ℕ) → IsFramed s → IsPeeled s frame next → frame < length s.slabs → length s.slabs ≡ s.frames → frame < past next frame (get_or s.slabs frame None)
    → is_free s frame ≡ false
here_taken s frame next framed peeled within frames reached =
    elim (cases_lt 0 frame) [
      | inl later ↦
          let sum = here s frame next peeled within later in
          grind (arith, nat_tests, sum, reached, within, frames)
      | inr first ↦ grind (arith, nat_tests, framed frame, first)
    ]

pub all_free : (s : State) → IsShaped s → filter (is_free s) (range_with_len 0 s.frames) ≡ s.pool.free
all_free s shaped =
    same_members (filter (is_free s) (range_with_len 0 s.frames)) s.pool.free
    (IsStrictlyIncreasing-filter (is_free s) (range_with_len 0 s.frames) (IsStrictlyIncreasing-range_with_len 0 s.frames))
    shaped.pool.rising
    (λ frame found.
    let passes : nat_lt 0 (times frame s.pool.free) ≡ true = (from_filter (is_free s) (range_with_len 0 s.frames) frame found).1 in
    Contains-times frame s.pool.free (grind (arith, nat_tests, passes)))
    (λ frame found.
    let some = times-contained frame s.pool.free found in
    let usable : (1 ≤ frame) × (frame < s.pool.frames) = All-contains (λ f. (1 ≤ f) × (f < s.pool.frames)) s.pool.free frame shaped.pool.usable found in
    Contains-filter (is_free s) (range_with_len 0 s.frames) frame
    (Contains-range_with_len 0 s.frames frame (omega arith) (omega (arith, usable.1, shaped.pool_frames)))
    (grind (arith, nat_tests, some)))
