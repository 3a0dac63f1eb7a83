-- An object that a listed slab of a checked cache gives.
use Rattle.std.proofs.Common.{◌≡◌, ℕ, ◌<◌, ◌≤◌, length, get_or, get_or-set_same, sum_by, Option, Some, None, MatchOption, option_map, inl, inr, refl, ap, sym, ◌∙◌, subst, arith}
use Rattle.std.specs.Prelude.{unwrap_or}
use Rattle.std.proofs.lemmas.Bool.Decides.{nat_tests}
use Rattle.std.proofs.lemmas.List.Sums.{sum_by-set}
use Rattle.slub_cache_create.specs.declared.caches.Cache.{Cache}
use Rattle.slub_cache_create.specs.Sound.{IsLiveCache}
use Rattle.slub_object_layout.specs.declared.layout.Layout.{Layout}
use Rattle.slub_red_zone.specs.declared.checked.CheckedGive.TheVariants.{Given}
use Rattle.slub_red_zone.specs.declared.checked.Slot.{Slot}
use Rattle.slub_red_zone.specs.Objects.{GivesObject, here, shape_at, shape_of}
use Rattle.slub_red_zone.specs.Sound.{IsSound}
use Rattle.slub_red_zone.specs.State.{CheckedState, SlabState, no_slab, objects_in, slab_of as checked_slab}
use Rattle.slub_lists.specs.declared.lists.Slab.{Slab}
use Rattle.slub_lists.specs.declared.lists.Held.{Held}
use Rattle.slub_lists.specs.State.{State}
use Rattle.slub_lists.specs.Alloc.{cache_of, checked_of, held_here, slab_of, with_held, HasLayout, IsLive}
use Rattle.slub_lists.specs.Checked.{with_checked}
use Rattle.slub_lists.specs.Coherent.{Agrees, IsConsistent, IsShaped, IsSlabOf, has_object, idle_in}
use Rattle.slub_common.proofs.Sums.{element-counted}
use Rattle.slub_lists.proofs.CheckedSlabs.{at_some, held-standing, idle-with, keeps-standing, standing, was-checked, whole}
use Rattle.slub_common.proofs.Writes.{inside-of}

-- the value that is there
pub the-value : {X : Type 0} (x : Option X) (P : X → Type 0) → MatchOption x ⊥ P → (y : X) × (x ≡ Some y) × P y
the-value None P h = absurd h
the-value (Some y) P h = (y, refl, h)

-- the layout of a live cache
pub layout-live : (s : State) (cache : ℕ) (layout : Layout) → HasLayout s cache layout → IsShaped s → IsLive layout
layout-live s cache layout has shaped =
    let live = the-value (cache_of s cache) (λ live. live.layout ≡ layout) has in
    let good = at_some (cache_of s cache) live.0 (IsLiveCache s.table cache) live.1 (shaped.table.live cache) in
    subst IsLive live.2 (live.0.flags, good.layout)

-- a slab of a cache is one of its layout
pub slab-sized : (s : State) (cache frame : ℕ) (layout : Layout) (slab : Slab) → HasLayout s cache layout → slab_of s frame ≡ Some slab → slab.cache ≡ cache → IsShaped s → IsSlabOf layout slab
slab-sized s cache frame layout slab has is own shaped =
    let live = the-value (cache_of s cache) (λ live. live.layout ≡ layout) has in
    let here = at_some (slab_of s frame) slab (λ slab. MatchOption (cache_of s slab.cache) ⊥ (λ live. IsSlabOf live.layout slab)) is (shaped.slab frame) in
    let at = subst (λ (x : Option Cache). MatchOption x ⊥ (λ live. IsSlabOf live.layout slab)) (ap (cache_of s) own ∙ live.1) here in
    subst (λ l. IsSlabOf l slab) live.2 at

-- it has at most so many objects
pub slab-objects : (layout : Layout) (slab : Slab) → IsLive layout → IsSlabOf layout slab → slab.objects ≤ layout.objects
slab-objects layout slab live of =
    elim of [
      | inl wide ↦ omega (arith, wide.1)
      | inr least ↦ omega (arith, least.1, live.1.made.min_objects_slab.1)
    ]

-- a slab that has an object is there
slab-there : (x : Option SlabState) (i : ℕ) → i < objects_in (unwrap_or x no_slab) → option_map shape_of x ≡ Some (shape_of (unwrap_or x no_slab))
slab-there None i inside = absurd (omega arith)
slab-there (Some slab) i inside = refl

pub shape-there : (slabs : CheckedState) (frame i : ℕ) → i < objects_in (checked_slab slabs frame) → shape_at slabs frame ≡ Some (shape_of (checked_slab slabs frame))
shape-there slabs frame i inside = slab-there (get_or slabs.slabs frame None) i inside

agreed : (cache : ℕ) (x : Option Slab) (shape : ℕ × ℕ) → Agrees cache x (Some shape) → MatchOption x ⊥ (λ slab. (slab.cache ≡ cache) × (slab.order ≡ shape.0) × (slab.objects ≡ shape.1))
agreed cache None shape h = h
agreed cache (Some slab) shape h = h

-- so the machine has a slab of the cache there, of as many objects
pub slab-agreed : (s : State) (cache frame i : ℕ) (slabs : CheckedState) → checked_of s cache ≡ Some slabs → IsShaped s → i < objects_in (checked_slab slabs frame)
    → (slab : Slab) × (slab_of s frame ≡ Some slab) × (slab.cache ≡ cache) × (slab.objects ≡ objects_in (checked_slab slabs frame))
slab-agreed s cache frame i slabs was shaped inside =
    let is = was-checked s cache slabs slabs was shaped.checked in
    let there = subst (Agrees cache (slab_of s frame)) (shape-there slabs frame i inside) (is.agrees frame) in
    let slab = the-value (slab_of s frame) (λ slab. (slab.cache ≡ cache) × (slab.order ≡ (shape_of (checked_slab slabs frame)).0) × (slab.objects ≡ (shape_of (checked_slab slabs frame)).1)) (agreed cache (slab_of s frame) (shape_of (checked_slab slabs frame)) there) in
    (slab.0, slab.1, slab.2.0, slab.2.2)

pub live-of : (x : Option Slab) (slab : Slab) (cache : ℕ) → x ≡ Some slab → slab.cache ≡ cache → MatchOption x ⊥ (λ slab. slab.cache ≡ cache)
live-of x slab cache is own = subst (λ (x : Option Slab). MatchOption x ⊥ (λ slab. slab.cache ≡ cache)) (sym is) own

pub one-object : (index : ℕ) (x : Option Slab) → has_object index x ≤ 1
one-object index None = omega arith
one-object index (Some slab) = grind (arith, nat_tests)

module _ (s : State) (cache : ℕ) (slot : Slot) (old new : CheckedState) (was : checked_of s cache ≡ Some old) (gives : GivesObject old (Given slot) new) (sound : IsSound new) (consistent : IsConsistent s) where
  self-here : here slot slot.frame slot.index ≡ 1
  self-here = grind (arith, nat_tests)

  -- it was idle, so nobody had it
  pub given-unheld : sum_by (held_here slot.frame slot.index) s.board ≡ 0
  given-unheld =
      omega (arith, consistent.placed slot.frame slot.index, gives.objects.one slot.frame slot.index, self-here, element-counted (idle_in slot.frame slot.index) s.checked cache None refl, ap (idle_in slot.frame slot.index) was, one-object slot.index (slab_of s slot.frame))

  -- it is one of a slab of the cache
  pub given-slab : (slab : Slab) × (slab_of s slot.frame ≡ Some slab) × (slab.cache ≡ cache) × (slot.index < slab.objects)
  given-slab =
      let stands = keeps-standing s cache old new was gives.slabs sound (standing s consistent) in
      let there = slab-agreed (with_checked s cache new) cache slot.frame slot.index new (get_or-set_same s.checked cache (Some new) None (inside-of s.checked cache old was)) stands.shaped gives.objects.inside in
      (there.0, there.1, there.2, omega (arith, there.3, gives.objects.inside))

  pub given-frame : slot.frame < 4096
  given-frame = omega (arith, inside-of s.slabs slot.frame given-slab.0 given-slab.1, consistent.shaped.slabs, consistent.shaped.frames.1)

  pub given-index : (layout : Layout) → HasLayout s cache layout → slot.index < layout.objects
  given-index layout has =
      let slab = given-slab in
      omega (arith, slab.3, slab-objects layout slab.0 (layout-live s cache layout has consistent.shaped) (slab-sized s cache slot.frame layout slab.0 has slab.1 slab.2 consistent.shaped))

  -- it goes from the slab to the worker
  pub given-consistent : (object worker : ℕ) → (1 ≤ object) × (object < length s.board) → get_or s.board object None ≡ None → cache < length s.live
      → IsConsistent (with_held (with_checked s cache new) object (record { frame = slot.frame; index = slot.index; cache = cache; worker = Some worker }))
  given-consistent object worker inside unused within =
      let t : State = with_checked s cache new in
      let held : Held = record { frame = slot.frame; index = slot.index; cache = cache; worker = Some worker } in
      let slab = given-slab in
      whole (with_held t object held)
      (held-standing t object held inside unused within (live-of (slab_of s slot.frame) slab.0 cache slab.1 slab.2) (keeps-standing s cache old new was gives.slabs sound (standing s consistent)))
      (λ f i.
      let same : held_here f i (Some held) ≡ here slot f i = refl in
      omega (arith, consistent.placed f i, idle-with s cache old new was f i, gives.objects.one f i, sum_by-set (held_here f i) s.board object (Some held) None inside.1, ap (held_here f i) unused, same))
