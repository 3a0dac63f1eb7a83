-- The numbers that a line frees again, which are those with a reply of a kind, and those of a bulk free, in its order.
use Rattle.std.proofs.Common.{◌≡◌, ℕ, ◌≤◌, Bool, true, false, eqb, List, [], ◌∷◌, length, filter, flat_map, refl, All, arith}
use Rattle.std.proofs.lemmas.List.Elements.{All-append, All-cons, All-filter, All-head, All-map, All-nil, All-tail}
use Rattle.slub_trace.specs.declared.reply.Reply.{Reply}
use Rattle.slub_lists.specs.State.{State}
use Rattle.slub_slabinfo_text.specs.Bulk.{free_order, objects_of_slab, slabs_among}
use Rattle.slub_rounds.specs.BulkLines.{frame_under, places_under, replied}

-- ---- with a reply of a kind

pub replied_all : (P : ℕ → Type 0) (is : Reply → Bool) (numbers : List ℕ) (replies : List Reply) → All P numbers → All P (replied is numbers replies)
replied_all P is [] replies all = All-nil P
replied_all P is (number ∷ numbers) [] all = All-nil P
replied_all P is (number ∷ numbers) (reply ∷ replies) all = by (is reply) (replied_all P is numbers replies (All-tail P number numbers all)) refl
  where
    by : (b : Bool) → All P (replied is numbers replies) → is reply ≡ b → All P (replied is (number ∷ numbers) (reply ∷ replies))
    by true rest e = rw e (All-cons P number (replied is numbers replies) (All-head P number numbers all) rest)
    by false rest e = rw e rest

pub replied_long : (is : Reply → Bool) (numbers : List ℕ) (replies : List Reply) → length (replied is numbers replies) ≤ length numbers
replied_long is [] replies = omega arith
replied_long is (number ∷ numbers) [] = omega arith
replied_long is (number ∷ numbers) (reply ∷ replies) = by (is reply) (replied_long is numbers replies) refl
  where
    by : (b : Bool) → length (replied is numbers replies) ≤ length numbers → is reply ≡ b → length (replied is (number ∷ numbers) (reply ∷ replies)) ≤ length (number ∷ numbers)
    by true rest e = rw e (omega (arith, rest))
    by false rest e = rw e (omega (arith, rest))

-- ---- in the order of a bulk free

slab_all : (P : ℕ → Type 0) (places : List (ℕ × ℕ)) (frame : ℕ) → All (λ place. P place.0) places → All P (objects_of_slab places frame)
slab_all P places frame all = All-map P (λ (place : ℕ × ℕ). place.0) (filter (λ place. eqb place.1 frame) places) (All-filter (λ place. eqb place.1 frame) (λ place. P place.0) places all)

slabs_all : (P : ℕ → Type 0) (places : List (ℕ × ℕ)) (frames : List ℕ) → All (λ place. P place.0) places → All P (flat_map (objects_of_slab places) frames)
slabs_all P places [] all = All-nil P
slabs_all P places (frame ∷ frames) all = All-append P (objects_of_slab places frame) (flat_map (objects_of_slab places) frames) (slab_all P places frame all) (slabs_all P places frames all)

pub order_all : (P : ℕ → Type 0) (s : State) (numbers : List ℕ) → All P numbers → All P (free_order (places_under s numbers))
order_all P s numbers all =
    slabs_all P (places_under s numbers) (slabs_among (places_under s numbers)) (All-map (λ (place : ℕ × ℕ). P place.0) (λ number. (number, frame_under s number)) numbers all)
