-- The bytes of a checked slab keep their number, whatever is written of one slot.
use Rattle.std.proofs.Common.{◌≡◌, ℕ, zero, suc, ◌+◌, ◌-◌, ◌*◌, ◌≤◌, ◌++◌, Bool, true, false, List, [], ◌∷◌, length, take, drop, replicate, ◌∙◌, arith, length-append}
use Rattle.std.proofs.lemmas.List.{length-take, length-drop, length-replicate}
use Rattle.std.specs.Prelude.{if◌then◌else◌}
use Rattle.std.specs.List.{fold, concat}
use Rattle.slub_object_layout.specs.declared.layout.Flags.{Flags}
use Rattle.slub_object_layout.specs.declared.layout.Layout.{Layout}
use Rattle.slub_object_layout.specs.Layout.{IsWithinBounds}
use Rattle.slub_red_zone.specs.declared.zones.Part.{Part}
use Rattle.slub_red_zone.specs.Zones.{set_up, with_part, left_zone, right_zone, poison_but_end, poison_last, new_slot, fill_byte, red_inactive}
use Rattle.slub_red_zone.specs.State.{slot_of, with_slot}

length-part : (slot : List ℕ) (part : Part) → part.from ≤ part.to → part.to ≤ length slot → length (with_part slot part) ≡ length slot
length-part slot part rises inside =
    let a = length-take part.from slot in
    let b = length-drop part.to slot in
    let c = length-replicate (part.to - part.from) part.wanted in
    let d = length-append (take part.from slot ++ replicate (part.to - part.from) part.wanted) (drop part.to slot) in
    let e = length-append (take part.from slot) (replicate (part.to - part.from) part.wanted) in
    omega arith

-- the parts that are written lie in the slot
length-set_up : (layout : Layout) (flags : Flags) (byte : ℕ) (slot : List ℕ) → IsWithinBounds layout → length slot ≡ layout.size → length (set_up layout flags byte slot) ≡ layout.size
unfolding set_up
length-set_up layout flags byte slot b long = go flags.zones flags.poison
  where
    left : (slot : List ℕ) → length slot ≡ layout.size → length (with_part slot (left_zone layout byte)) ≡ layout.size
    left slot long = length-part slot (left_zone layout byte) (omega arith) (let a = b.left_pad in omega arith) ∙ long

    right : (slot : List ℕ) → length slot ≡ layout.size → length (with_part slot (right_zone layout byte)) ≡ layout.size
    right slot long = length-part slot (right_zone layout byte) (let a = b.inuse in omega arith) (let a = b.left_pad in let c = b.inuse in omega arith) ∙ long

    but_end : (slot : List ℕ) → length slot ≡ layout.size → length (with_part slot (poison_but_end layout)) ≡ layout.size
    but_end slot long = length-part slot (poison_but_end layout) (let a = b.object_size in omega arith) (let a = b.left_pad in let c = b.inuse in omega arith) ∙ long

    last : (slot : List ℕ) → length slot ≡ layout.size → length (with_part slot (poison_last layout)) ≡ layout.size
    last slot long = length-part slot (poison_last layout) (let a = b.object_size in omega arith) (let a = b.left_pad in let c = b.inuse in omega arith) ∙ long

    go : (zones poisons : Bool) → length (fold with_part slot ((if zones then (left_zone layout byte ∷ right_zone layout byte ∷ []) else []) ++ (if poisons then (poison_but_end layout ∷ poison_last layout ∷ []) else []))) ≡ layout.size
    go true true = last _ (but_end _ (right _ (left slot long)))
    go true false = right _ (left slot long)
    go false true = last _ (but_end slot long)
    go false false = long

-- a slot in the place of another
length-with_slot : (layout : Layout) (bytes : List ℕ) (index : ℕ) (slot : List ℕ) → index * layout.size + layout.size ≤ length bytes → length slot ≡ layout.size → length (with_slot layout bytes index slot) ≡ length bytes
length-with_slot layout bytes index slot inside long =
    let a = length-take (index * layout.size) bytes in
    let b = length-drop (index * layout.size + layout.size) bytes in
    let d = length-append (take (index * layout.size) bytes ++ slot) (drop (index * layout.size + layout.size) bytes) in
    let e = length-append (take (index * layout.size) bytes) slot in
    omega arith

length-slot_of : (layout : Layout) (bytes : List ℕ) (index : ℕ) → index * layout.size + layout.size ≤ length bytes → length (slot_of layout bytes index) ≡ layout.size
length-slot_of layout bytes index inside =
    let a = length-drop (index * layout.size) bytes in
    let b = length-take (index * layout.size + layout.size - index * layout.size) (drop (index * layout.size) bytes) in
    omega arith

-- an object that is set up
pub length-set_slot : (layout : Layout) (flags : Flags) (byte : ℕ) (bytes : List ℕ) (index : ℕ) → IsWithinBounds layout → index * layout.size + layout.size ≤ length bytes
    → length (with_slot layout bytes index (set_up layout flags byte (slot_of layout bytes index))) ≡ length bytes
length-set_slot layout flags byte bytes index b inside = length-with_slot layout bytes index _ inside (length-set_up layout flags byte _ b (length-slot_of layout bytes index inside))

-- a new slab
pub length-new_bytes : (layout : Layout) (flags : Flags) (objects : ℕ) → IsWithinBounds layout → length (concat (replicate objects (new_slot layout flags))) ≡ objects * layout.size
length-new_bytes layout flags objects b = each objects
  where
    long : length (new_slot layout flags) ≡ layout.size
    long = length-set_up layout flags red_inactive _ b (length-replicate layout.size (fill_byte flags))

    each : (n : ℕ) → length (concat (replicate n (new_slot layout flags))) ≡ n * layout.size
    each zero = omega arith
    each (suc n) = let r = each n in let a = length-append (new_slot layout flags) (concat (replicate n (new_slot layout flags))) in omega (arith, a, r, long)

-- a word
pub length-with_word : (bytes eight : List ℕ) (at_byte : ℕ) → length eight ≡ 8 → at_byte + 8 ≤ length bytes → length (take at_byte bytes ++ eight ++ drop (at_byte + 8) bytes) ≡ length bytes
length-with_word bytes eight n long inside =
    let a = length-take n bytes in
    let b = length-drop (n + 8) bytes in
    let d = length-append (take n bytes ++ eight) (drop (n + 8) bytes) in
    let e = length-append (take n bytes) eight in
    omega arith
