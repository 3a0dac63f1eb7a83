-- The slot that a name has is that of the first object whose free says it.
use Rattle.std.proofs.Common.{◌≡◌, ℕ, ◌<◌, Bool, true, false, List, [], ◌∷◌, length, get_or, replicate, refl, ap, subst, ◌∙◌, Option, None, Some, nat_eq, arith}
use Rattle.std.specs.Prelude.{fold, if◌then◌else◌, option_map, slice_get, slice_index_or, unwrap_or}
use Rattle.std.specs.Option.{option_or}
use Rattle.std.proofs.lemmas.List.{get_or-set_same, get_or-set_other, length-set}
use Rattle.std.proofs.lemmas.Bool.{eqb-true, eqb-false}
use Rattle.std.proofs.lemmas.Grind.{common_steps}
use Rattle.slub_recorded.specs.declared.pairing.Born.{Born}
use Rattle.slub_recorded.specs.declared.pairing.Move.{Move}
use Rattle.slub_recorded.specs.declared.pairing.Move.TheVariants as move
use Rattle.slub_recorded.specs.Naming.{first_slot, name_slots, slots_after, told_slot, with_slot}

or_none : (o : Option ℕ) → o ≡ option_or o None
or_none None = refl
or_none (Some x) = refl

or_unwrap : (o : Option ℕ) (x : ℕ) → Some (unwrap_or o x) ≡ option_or o (Some x)
or_unwrap None x = refl
or_unwrap (Some y) x = refl

or_or : (o p q : Option ℕ) → option_or (option_or o p) q ≡ option_or o (option_or p q)
or_or None p q = refl
or_or (Some x) p q = refl

slot_at : (slots : List (Option ℕ)) (name n : ℕ) (born : Option Born) (b : Bool) → nat_eq n name ≡ b → n < length slots
    → get_or (with_slot slots name born) n None ≡ option_or (get_or slots n None) (if b then option_map (λ (x : Born). x.slot) born else None)
slot_at slots name n None true is low = or_none (get_or slots n None)
slot_at slots name n None false is low = or_none (get_or slots n None)
slot_at slots name n (Some born) true is low =
    let P : ℕ → Type 0 = λ m. get_or (with_slot slots m (Some born)) n None ≡ option_or (get_or slots n None) (Some born.slot) in
    subst P (eqb-true n name is) (get_or-set_same slots n (Some (unwrap_or (get_or slots n None) born.slot)) None low ∙ or_unwrap (get_or slots n None) born.slot)
slot_at slots name n (Some born) false is low =
    get_or-set_other slots name n (Some (unwrap_or (get_or slots name None) born.slot)) None (eqb-false n name is) ∙ or_none (get_or slots n None)

step_at : (objects : List Born) (slots : List (Option ℕ)) (m : Move) (n : ℕ) → n < length slots → get_or (slots_after objects slots m) n None ≡ option_or (get_or slots n None) (told_slot objects n m)
step_at objects slots (move.Alloc cpu object) n low = or_none (get_or slots n None)
step_at objects slots (move.Free cpu object None) n low = or_none (get_or slots n None)
step_at objects slots (move.Free cpu object (Some name)) n low = slot_at slots name n (slice_get objects object) (nat_eq n name) refl low

with_length : (slots : List (Option ℕ)) (name : ℕ) (born : Option Born) → length (with_slot slots name born) ≡ length slots
with_length slots name None = refl
with_length slots name (Some born) = length-set slots name (Some (unwrap_or (get_or slots name None) born.slot))

step_length : (objects : List Born) (slots : List (Option ℕ)) (m : Move) → length (slots_after objects slots m) ≡ length slots
step_length objects slots (move.Alloc cpu object) = refl
step_length objects slots (move.Free cpu object None) = refl
step_length objects slots (move.Free cpu object (Some name)) = with_length slots name (slice_get objects object)

all_at : (objects : List Born) (moves : List Move) (slots : List (Option ℕ)) (n : ℕ) → n < length slots
    → get_or (fold (slots_after objects) slots moves) n None ≡ option_or (get_or slots n None) (first_slot objects n moves)
all_at objects [] slots n low = or_none (get_or slots n None)
all_at objects (m ∷ moves) slots n low =
    let size = step_length objects slots m in
    all_at objects moves (slots_after objects slots m) n (omega (arith, size, low))
    ∙ ap (λ o. option_or o (first_slot objects n moves)) (step_at objects slots m n low)
    ∙ or_or (get_or slots n None) (told_slot objects n m) (first_slot objects n moves)

none_at : (names n : ℕ) (d : Option ℕ) → n < names → (n < length (replicate names d)) × (get_or (replicate names d) n d ≡ d)
none_at names n d low = (grind (arith, common_steps), grind (arith, common_steps))

pub slots_are : (names : ℕ) (objects : List Born) (moves : List Move) (n : ℕ) → n < names → slice_index_or (name_slots names objects moves) n None ≡ first_slot objects n moves
slots_are names objects moves n low =
    let none = none_at names n None low in
    all_at objects moves (replicate names None) n none.0 ∙ ap (λ o. option_or o (first_slot objects n moves)) none.1
