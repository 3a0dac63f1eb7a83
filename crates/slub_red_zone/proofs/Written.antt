-- The bytes of a slot among those of its slab.
use Rattle.std.proofs.Common.{◌≡◌, ◌≢◌, ◌⊎◌, ℕ, suc, ◌+◌, ◌*◌, ◌-◌, ◌<◌, ◌≤◌, List, length, get_or, drop, ap, arith, sym, ◌∙◌, length-take, length-drop, inl, inr}
use Rattle.std.proofs.lemmas.Bool.{cases_lt}
use Rattle.std.proofs.lemmas.List.{ext_get_or, get_or-take, get_or-drop}
use Rattle.std.proofs.Math.Nat.{mul-le-mul_right}
use Rattle.slub_object_layout.specs.declared.layout.Layout.{Layout}
use Rattle.slub_red_zone.specs.State.{slot_of, with_slot}
use Rattle.slub_red_zone.proofs.Splices.{spliced-long, spliced-in, spliced-before, spliced-behind}

module _ (layout : Layout) (bytes : List ℕ) (index : ℕ) (inside : index * layout.size + layout.size ≤ length bytes) where
  -- a slot is as long as the layout says
  pub slot-long : length (slot_of layout bytes index) ≡ layout.size
  slot-long = omega (arith, length-take (index * layout.size + layout.size - index * layout.size) (drop (index * layout.size) bytes), length-drop (index * layout.size) bytes, inside)

  -- a byte of it
  pub slot-read : (place : ℕ) → place < layout.size → get_or (slot_of layout bytes index) place 0 ≡ get_or bytes (index * layout.size + place) 0
  slot-read place less =
      get_or-take (index * layout.size + layout.size - index * layout.size) (drop (index * layout.size) bytes) place 0 (omega (arith, less)) ∙ get_or-drop (index * layout.size) bytes place 0

-- the slots of two objects have no byte in common
pub slots-apart : (size i j place : ℕ) → place < size → i ≢ j → (j * size + place < i * size) ⊎ (i * size + size ≤ j * size + place)
slots-apart size i j place less ne =
    elim (cases_lt j i) [
      | inl before ↦ let more : suc j * size ≤ i * size = mul-le-mul_right size before in inl (omega (arith, more, less))
      | inr past ↦ let after : suc i ≤ j = omega (arith, past, ne) in let more : suc i * size ≤ j * size = mul-le-mul_right size after in inr (omega (arith, more))
    ]

module _ (layout : Layout) (bytes slot : List ℕ) (index : ℕ) (inside : index * layout.size + layout.size ≤ length bytes) (long : length slot ≡ layout.size) where
  as-long : length slot ≡ index * layout.size + layout.size - index * layout.size
  as-long = omega (arith, long)

  -- the bytes of a slab are as many as before
  pub with_slot-long : length (with_slot layout bytes index slot) ≡ length bytes
  with_slot-long = spliced-long bytes slot (index * layout.size) (index * layout.size + layout.size) (omega arith) inside as-long

  -- the slot that is written
  pub with_slot-this : slot_of layout (with_slot layout bytes index slot) index ≡ slot
  with_slot-this =
      let new = with_slot layout bytes index slot in
      let room : index * layout.size + layout.size ≤ length new = omega (arith, with_slot-long, inside) in
      ext_get_or 0 (slot_of layout new index) slot (slot-long layout new index room ∙ sym long)
      (λ place less.
      let few : place < layout.size = omega (arith, less, slot-long layout new index room) in
      let back : index * layout.size + place - index * layout.size ≡ place = omega arith in
      slot-read layout new index room place few
      ∙ spliced-in bytes slot (index * layout.size) (index * layout.size + layout.size) (omega arith) inside as-long (index * layout.size + place) (omega arith) (omega (arith, few))
      ∙ ap (λ (p : ℕ). get_or slot p 0) back)

  -- each other
  pub with_slot-other : (other : ℕ) → other ≢ index → other * layout.size + layout.size ≤ length bytes → slot_of layout (with_slot layout bytes index slot) other ≡ slot_of layout bytes other
  with_slot-other other ne within =
      let new = with_slot layout bytes index slot in
      let room : other * layout.size + layout.size ≤ length new = omega (arith, with_slot-long, within) in
      ext_get_or 0 (slot_of layout new other) (slot_of layout bytes other) (slot-long layout new other room ∙ sym (slot-long layout bytes other within))
      (λ place less.
      let few : place < layout.size = omega (arith, less, slot-long layout new other room) in
      let at : get_or new (other * layout.size + place) 0 ≡ get_or bytes (other * layout.size + place) 0 =
      elim (slots-apart layout.size index other place few (λ same. ne (sym same))) [
        | inl before ↦ spliced-before bytes slot (index * layout.size) (index * layout.size + layout.size) (omega arith) inside as-long (other * layout.size + place) before
        | inr past ↦ spliced-behind bytes slot (index * layout.size) (index * layout.size + layout.size) (omega arith) inside as-long (other * layout.size + place) past
      ] in
      slot-read layout new other room place few ∙ at ∙ sym (slot-read layout bytes other within place few))
