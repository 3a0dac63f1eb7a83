-- The objects of a new slab are whole.
use Rattle.std.proofs.Common.{◌≡◌, ℕ, zero, suc, ◌+◌, ◌*◌, ◌-◌, ◌<◌, ◌≤◌, List, length, take, drop, replicate, None, Ok, refl, ap, arith, subst, sym, ◌∙◌, length-append, inl, inr}
use Rattle.std.specs.List.{concat}
use Rattle.std.proofs.Math.Seq.{take-append_seam, drop-append-add}
use Rattle.slub_object_layout.specs.declared.layout.Layout.{Layout}
use Rattle.slub_red_zone.specs.declared.checked.CheckedGive.TheVariants.{Given}
use Rattle.slub_red_zone.specs.declared.checked.Run.{Run}
use Rattle.slub_red_zone.specs.declared.checked.Slot.{Slot}
use Rattle.slub_red_zone.specs.Zones.{new_slot, damage_when_given}
use Rattle.slub_red_zone.specs.State.{SlabState, CheckedState, Has, slot_of, bytes_of}
use Rattle.slub_red_zone.specs.Steps.{Gives, next_is_whole, GivesNew, new_slab, with_new_slab, with_given, first_of, damage_of_free}
use Rattle.slub_red_zone.specs.Sound.{IsSound}
use Rattle.slub_object_layout.specs.Layout.{IsSized}
use Rattle.slub_red_zone.proofs.Sums.{slab_at-set}
use Rattle.slub_red_zone.proofs.Parts.{new-long, new-given}
use Rattle.slub_red_zone.proofs.Comings.{new-sound}
use Rattle.slub_red_zone.proofs.Objects.{first-is-next}

-- one of some copies, which stand one after the other
copy-at : (xs : List ℕ) (i n : ℕ) → i < n → take (length xs) (drop (i * length xs) (concat (replicate n xs))) ≡ xs
copy-at xs i zero inside = absurd (omega (arith, inside))
copy-at xs zero (suc n) inside =
    let none : 0 * length xs ≡ 0 = omega arith in
    rw none (take-append_seam xs (concat (replicate n xs)))
copy-at xs (suc i) (suc n) inside =
    let more : suc i * length xs ≡ length xs + i * length xs = omega arith in
    rw (more, drop-append-add xs (concat (replicate n xs)) (i * length xs)) (copy-at xs i n (omega (arith, inside)))

-- the slot of one of the objects of a new slab
copy-slot : (layout : Layout) (xs : List ℕ) (i n : ℕ) → length xs ≡ layout.size → i < n → slot_of layout (concat (replicate n xs)) i ≡ xs
copy-slot layout xs i n long inside =
    let wide : i * layout.size + layout.size - i * layout.size ≡ length xs = omega (arith, long) in
    let at : i * layout.size ≡ i * length xs = ap (λ (size : ℕ). i * size) (sym long) in
    rw (wide, at) (copy-at xs i n inside)

-- so many copies are so many times as long
copies-long : (n : ℕ) (xs : List ℕ) → length (concat (replicate n xs)) ≡ n * length xs
copies-long zero xs = omega arith
copies-long (suc n) xs = omega (arith, length-append xs (concat (replicate n xs)), copies-long n xs)

-- the slabs with a new one hold together
pub with-new-sound : (s : CheckedState) (run : Run) (objects : ℕ) → IsSound s → ¬ Has s run.frame → 1 ≤ run.frame → run.frame < 4096 → IsSized s.layout run.order objects → IsSound (with_new_slab s run objects)
with-new-sound s run objects sound new first last sized =
    new-sound s run objects sound new first last sized
    (copies-long objects (new_slot s.layout s.flags) ∙ ap (λ (n : ℕ). objects * n) (new-long s.layout s.flags sound.layout))

module _ (s : CheckedState) (run : Run) (objects : ℕ) (sound : IsSound s) (last : run.frame < 4096) where
  place : run.frame < length s.slabs
  place = omega (arith, last, sound.frames)

  pub new-bytes : (index : ℕ) → index < objects → bytes_of (with_new_slab s run objects) (record { frame = run.frame; index = index }) ≡ new_slot s.layout s.flags
  new-bytes index inside =
      ap (λ (slab : SlabState). slot_of s.layout slab.bytes index) (slab_at-set s.slabs run.frame (new_slab s.layout s.flags run.order objects) place)
      ∙ copy-slot s.layout (new_slot s.layout s.flags) index objects (new-long s.layout s.flags sound.layout) inside

  -- nothing keeps one of them from being given
  pub new-undamaged : (index : ℕ) → index < objects → damage_of_free (with_new_slab s run objects) (record { frame = run.frame; index = index }) ≡ None
  new-undamaged index inside = ap (damage_when_given s.layout s.flags) (new-bytes index inside) ∙ new-given s.layout s.flags sound.layout

  -- so to give the first without a look at it is to give
  pub giving-new : (slot : Slot) (after : CheckedState) → IsSized s.layout run.order objects → GivesNew s run objects (Ok slot) after → Gives (with_new_slab s run objects) (Given slot) after
  giving-new slot after sized gives =
      let some : 1 ≤ objects =
      let b = sound.layout.bounds in elim sized [ inl usual ↦ omega (arith, usual.1, b.objects) | inr least ↦ omega (arith, least.1, b.min_objects_slab) ] in
      let first = next_is_whole (with_new_slab s run objects) (first_of run) (first-is-next s run objects (first_of run) refl place some) (new-undamaged 0 (omega (arith, some))) in
      let Q : Slot → Type 0 = λ slot. Gives (with_new_slab s run objects) (Given slot) (with_given (with_new_slab s run objects) slot) in
      let R : CheckedState → Type 0 = λ after. Gives (with_new_slab s run objects) (Given slot) after in
      subst R (sym gives.1) (subst Q (sym gives.0) first)
