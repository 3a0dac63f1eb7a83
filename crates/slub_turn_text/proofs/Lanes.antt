-- Lists of a number and those before it, and lists that are turned round.
use Rattle.std.proofs.Common.{◌≡◌, ℕ, zero, suc, ◌+◌, List, [], ◌∷◌, ◌++◌, map, zero-add, refl, ap, ◌∙◌, arith, append-nil}
use Rattle.std.specs.Prelude.{flat_map}
use Rattle.std.specs.List.{range_with_len}
use Rattle.std.proofs.lemmas.List.FromFn.{map-range_with_len_more}
use Rattle.std.proofs.lemmas.Grind.{flat_map-append}
use Rattle.std.proofs.lemmas.List.Concat.{flat_map-cons}
use Rattle.std.proofs.lemmas.List.{reverse-reverse, length-reverse}
use Rattle.slub_trace.specs.declared.event.Event.{Event}
use Rattle.slub_core.specs.Local.{Local}
use Rattle.slub_turn_text.specs.Columns.{lane_digit, lane_mark}
use Rattle.slub_turn_text.specs.Labels.{RoundLabels, share_of}
use Rattle.slub_turn_text.specs.Answers.{quiet_at}

-- one number more
range-more : (a n : ℕ) → range_with_len a (n + 1) ≡ range_with_len a n ++ (a + n) ∷ []
range-more a zero = grind arith
range-more a (suc n) =
    let h = range-more (a + 1) n in
    let e : a + 1 + n ≡ a + suc n = omega arith in
    let f : suc n + 1 ≡ suc (n + 1) = omega arith in
    rw (f, h, e) refl

-- one place more in a lane
pub mark-more : (worker n : ℕ) → map (lane_mark worker) (range_with_len 0 (n + 1)) ≡ map (lane_mark worker) (range_with_len 0 n) ++ lane_mark worker n ∷ []
mark-more worker n = map-range_with_len_more (lane_mark worker) 0 n n (omega arith)

pub digit-more : (n : ℕ) → map lane_digit (range_with_len 0 (n + 1)) ≡ map lane_digit (range_with_len 0 n) ++ lane_digit n ∷ []
digit-more n = map-range_with_len_more lane_digit 0 n n (omega arith)

-- the share of one worker more
pub share-more : (events : List Event) (n : ℕ) → map (share_of events) (range_with_len 0 (n + 1)) ≡ map (share_of events) (range_with_len 0 n) ++ share_of events n ∷ []
share-more events n = map-range_with_len_more (share_of events) 0 n n (omega arith)

-- texts of one number more
flat-more : (f : ℕ → List ℕ) (n : ℕ) → flat_map f (range_with_len 0 (n + 1)) ≡ flat_map f (range_with_len 0 n) ++ f n
flat-more f n =
    let one : flat_map f ((0 + n) ∷ []) ≡ f n = flat_map-cons f (0 + n) [] ∙ append-nil (f (0 + n)) ∙ ap f (zero-add n) in
    ap (flat_map f) (range-more 0 n) ∙ flat_map-append f (range_with_len 0 n) ((0 + n) ∷ []) ∙ ap (λ xs. flat_map f (range_with_len 0 n) ++ xs) one

pub quiet-more : (labels : RoundLabels) (l : Local) (from n : ℕ) → flat_map (quiet_at labels l from) (range_with_len 0 (n + 1)) ≡ flat_map (quiet_at labels l from) (range_with_len 0 n) ++ quiet_at labels l from n
quiet-more labels l from n = flat-more (quiet_at labels l from) n

-- answers are kept the last one first
pub ruleset turned = (reverse-reverse, length-reverse)

pub ruleset lanes = (share-more)
