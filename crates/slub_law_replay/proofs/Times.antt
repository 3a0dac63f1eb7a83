-- What the rounds of a run give was to be allocated.
use Rattle.std.proofs.Common.{◌≡◌, ℕ, ◌+◌, ◌≤◌, Bool, List, [], ◌∷◌, ◌++◌, count_by, flat_map, take, length, refl, ◌∙◌, ap, arith, inl, inr, ◌⊎◌}
use Rattle.std.specs.List.{zip}
use Rattle.std.proofs.lemmas.List.Concat.{flat_map-append}
use Rattle.slub_common.specs.Times.{times}
use Rattle.slub_slabinfo_text.specs.declared.client.ClientRound.{ClientRound}
use Rattle.slub_law_rounds.specs.Answered.{Answered, gave}
use Rattle.slub_law_rounds.proofs.Times.{counted_append, events_given, times_append}
use Rattle.slub_law_replay.specs.Freed.{answered_by}
use Rattle.slub_law_replay.proofs.Made.{objects_asked}

-- the events of rounds, and of more rounds
pub answered_more : (p : Answered → Bool) (rounds others : List ClientRound) → count_by p (flat_map answered_by (rounds ++ others)) ≡ count_by p (flat_map answered_by rounds) + count_by p (flat_map answered_by others)
answered_more p rounds others = ap (count_by p) (flat_map-append answered_by rounds others) ∙ counted_append p (flat_map answered_by rounds) (flat_map answered_by others)

-- a number is given as often as rounds may allocate it at most
pub rounds_given : (object : ℕ) (rounds : List ClientRound) → count_by (gave object) (flat_map answered_by rounds) ≤ times object (flat_map objects_asked rounds)
rounds_given object [] = omega arith
rounds_given object (round ∷ rounds) =
    omega (arith, counted_append (gave object) (answered_by round) (flat_map answered_by rounds), times_append object (objects_asked round) (flat_map objects_asked rounds), events_given object round.asked.events round.result.replies, rounds_given object rounds)

-- where they allocate these numbers or none, it is one of the numbers
pub made_given : (object : ℕ) (rounds : List ClientRound) (numbers : List ℕ) → (flat_map objects_asked rounds ≡ numbers) ⊎ (flat_map objects_asked rounds ≡ []) → count_by (gave object) (flat_map answered_by rounds) ≤ times object numbers
made_given object rounds numbers (inl all) = omega (arith, rounds_given object rounds, ap (times object) all)
made_given object rounds numbers (inr none) = omega (arith, rounds_given object rounds, ap (times object) none)

-- ---- the items that were done

-- items without an answer count for nothing
pub zip_taken : {A B : Type 0} (xs : List A) (ys : List B) → zip (take (length ys) xs) ys ≡ zip xs ys
zip_taken [] [] = refl
zip_taken [] (y ∷ ys) = refl
zip_taken (x ∷ xs) [] = refl
zip_taken {A} {B} (x ∷ xs) (y ∷ ys) = ap (λ (pairs : List (A × B)). (x, y) ∷ pairs) (zip_taken xs ys)
