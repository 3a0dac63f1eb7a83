-- Which bytes each call changes.
use Rattle.std.proofs.Common.{◌≡◌, ◌≢◌, ℕ, ◌+◌, ◌*◌, ◌<◌, ◌≤◌, List, length, set, Some, Result, Ok, Err, refl, ap, arith, subst, sym, ◌∙◌, inl, inr}
use Rattle.std.proofs.lemmas.Bool.{cases_eq}
use Rattle.slub_trace.specs.declared.damage.Damage.{Damage}
use Rattle.slub_red_zone.specs.declared.checked.CheckedGive.{CheckedGive}
use Rattle.slub_red_zone.specs.declared.checked.CheckedGive.TheVariants.{Given, Empty}
use Rattle.slub_red_zone.specs.declared.checked.Slot.{Slot}
use Rattle.slub_red_zone.specs.State.{SlabState, CheckedState, IsUsed, slab_at, slab_of, slot_of, with_slot, objects_in, bytes_of}
use Rattle.slub_red_zone.specs.Zones.{red_active, red_inactive, written, set_up}
use Rattle.slub_red_zone.specs.Steps.{Gives, nothing_listed, next_is_whole, next_is_damaged, TakesBack, slab_with_given, slab_with_taken, with_damaged}
use Rattle.slub_red_zone.specs.Sound.{IsSound}
use Rattle.slub_red_zone.specs.Bytes.{IsWritten}
use Rattle.slub_red_zone.specs.Changes.{IsObject, KeepsBytes, KeepsOtherBytes, SetsUp, GivesBytes, TakesBytes}
use Rattle.slub_red_zone.proofs.OneSlab.{slot-inside}
use Rattle.slub_red_zone.proofs.Sums.{slab_at-set}
use Rattle.slub_red_zone.proofs.Whole.{slab-sound}
use Rattle.slub_red_zone.proofs.Given.{next-object, damaged-sound}
use Rattle.slub_red_zone.proofs.Taken.{used-object, frame-within}
use Rattle.slub_red_zone.proofs.Parts.{set_up-writes}
use Rattle.slub_red_zone.proofs.Written.{slot-long, with_slot-this, with_slot-other}
use Rattle.slub_red_zone.proofs.Telling.{slab_at-other, damaged-bytes, damaged-objects}

-- objects of one slab that aren't the same have other indexes
index-differs : (one other : Slot) → one ≢ other → one.frame ≡ other.frame → one.index ≢ other.index
index-differs one other ne same index = ne (λ i. record { frame = same i; index = index i })

module _ (s : CheckedState) (slot : Slot) (sound : IsSound s) (object : IsObject s slot) where
  some : 0 < objects_in (slab_of s slot.frame)
  some = omega (arith, object)

  within : slot.frame < length s.slabs
  within = frame-within s slot.frame sound some

  inside : slot.index * s.layout.size + s.layout.size ≤ length (slab_of s slot.frame).bytes
  inside = slot-inside s.layout (slab_of s slot.frame) (slab-sound s slot.frame sound some) slot.index object

  -- the bytes of the object's slab are others: what another object's slot has then
  module _ (slab : SlabState) (listed : List ℕ) (others_stay : (index : ℕ) → index ≢ slot.index → index < objects_in (slab_of s slot.frame) → slot_of s.layout slab.bytes index ≡ slot_of s.layout (slab_of s slot.frame).bytes index) where
    pub other-bytes : KeepsOtherBytes s slot (record s { slabs = set s.slabs slot.frame (Some slab); listed = listed })
    other-bytes other ne is =
        elim (cases_eq other.frame slot.frame) [
          | inl same ↦
              let now = λ (f : ℕ). slot_of s.layout (slab_at (set s.slabs slot.frame (Some slab)) f).bytes other.index in
              let old = λ (f : ℕ). slot_of s.layout (slab_of s f).bytes other.index in
              let N : ℕ → Type 0 = λ f. other.index < objects_in (slab_of s f) in
              ap now same ∙ ap (λ (slab : SlabState). slot_of s.layout slab.bytes other.index) (slab_at-set s.slabs slot.frame slab within)
              ∙ others_stay other.index (index-differs other slot ne same) (subst N same is) ∙ sym (ap old same)
          | inr apart ↦ ap (λ (slab : SlabState). slot_of s.layout slab.bytes other.index) (slab_at-other s.slabs slot.frame other.frame (Some slab) apart)
        ]

  pub this-bytes : (slab : SlabState) → slot_of s.layout (slab_at (set s.slabs slot.frame (Some slab)) slot.frame).bytes slot.index ≡ slot_of s.layout slab.bytes slot.index
  this-bytes slab = ap (λ (slab : SlabState). slot_of s.layout slab.bytes slot.index) (slab_at-set s.slabs slot.frame slab within)

  -- the object is set up
  pub sets-up : (byte : ℕ) (slab : SlabState) (listed : List ℕ) → slab.bytes ≡ with_slot s.layout (slab_of s slot.frame).bytes slot.index (set_up s.layout s.flags byte (bytes_of s slot))
      → SetsUp s slot byte (record s { slabs = set s.slabs slot.frame (Some slab); listed = listed })
  sets-up byte slab listed is =
      let was = (slab_of s slot.frame).bytes in
      let writes = set_up-writes s.layout sound.layout.bounds s.flags (bytes_of s slot) (slot-long s.layout was slot.index inside) byte in
      let new = set_up s.layout s.flags byte (bytes_of s slot) in
      let long : length new ≡ s.layout.size = writes.as_long ∙ slot-long s.layout was slot.index inside in
      let W : List ℕ → Type 0 = λ bytes. IsWritten (bytes_of s slot) (written s.layout s.flags byte) bytes in
      let this = this-bytes slab ∙ ap (λ (bytes : List ℕ). slot_of s.layout bytes slot.index) is ∙ with_slot-this s.layout was new slot.index inside long in
      record {
        this = subst W (sym this) writes;
        others = other-bytes slab listed (λ index ne less.
            ap (λ (bytes : List ℕ). slot_of s.layout bytes index) is
            ∙ with_slot-other s.layout was new slot.index inside long index ne (slot-inside s.layout (slab_of s slot.frame) (slab-sound s slot.frame sound some) index less));
      }

-- what any give changes
pub gives-bytes : (s : CheckedState) (answer : CheckedGive) (after : CheckedState) → IsSound s → Gives s answer after → GivesBytes s answer after
gives-bytes _ _ _ sound (nothing_listed s none) = λ slot is. refl
gives-bytes _ _ _ sound (next_is_whole s slot next whole) = sets-up s slot sound (next-object s slot sound next) red_active (slab_with_given s.layout s.flags (slab_of s slot.frame) slot.index) _ refl
gives-bytes _ _ _ sound (next_is_damaged s slot damage answer after next damaged gives) =
    after-damaged answer (gives-bytes (with_damaged s slot damage) answer after (damaged-sound s slot sound next damage) gives)
  where
    after-damaged : (answer : CheckedGive) → GivesBytes (with_damaged s slot damage) answer after → GivesBytes s answer after
    after-damaged (Given given) bytes =
        let W : List ℕ → Type 0 = λ old. IsWritten old (written s.layout s.flags red_active) (bytes_of after given) in
        record {
          this = subst W (damaged-bytes s slot sound next damage damaged given) bytes.this;
          others = λ other ne is. bytes.others other ne (subst (λ (n : ℕ). other.index < n) (sym (damaged-objects s slot sound next damage damaged other.frame)) is) ∙ damaged-bytes s slot sound next damage damaged other;
        }
    after-damaged Empty bytes =
        λ other is. bytes other (subst (λ (n : ℕ). other.index < n) (sym (damaged-objects s slot sound next damage damaged other.frame)) is) ∙ damaged-bytes s slot sound next damage damaged other

-- what taking back changes
pub takes-bytes : (s : CheckedState) (slot : Slot) (answer : Result (Unit {0}) Damage) (after : CheckedState) → IsSound s → IsUsed s slot → TakesBack s slot answer after → TakesBytes s slot answer after
takes-bytes s slot (Ok _) after sound used takes =
    let P : CheckedState → Type 0 = SetsUp s slot red_inactive in
    subst P (sym takes.1) (sets-up s slot sound (used-object s slot sound used) red_inactive (slab_with_taken s.layout s.flags (slab_of s slot.frame) slot.index) _ refl)
takes-bytes s slot (Err damage) after sound used takes = let P : CheckedState → Type 0 = KeepsBytes s in subst P (sym takes.1) (λ slot is. refl)
