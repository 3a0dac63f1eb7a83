-- What the calls leave of the objects and slabs of a checked cache.
use Rattle.std.specs.Prelude.{◌≡◌, ◌≢◌, ℕ, ◌+◌, ◌<◌, ◌≤◌, ◌++◌, ◌==◌, ◌&&◌, nat_lt, if◌then◌else◌, Bool, true, false, List, length, slice_index_or, Option, None, Some, option_map, Result, Ok, Err}
use Rattle.slub_trace.specs.declared.damage.Damage.{Damage}
use Rattle.slub_trace.specs.declared.damage.Report.{Report}
use Rattle.slub_red_zone.specs.declared.slab.ObjectState.{ObjectState}
use Rattle.slub_red_zone.specs.declared.slab.ObjectState.TheVariants.{Free, Used, Aside}
use Rattle.slub_red_zone.specs.declared.checked.CheckedGive.{CheckedGive}
use Rattle.slub_red_zone.specs.declared.checked.CheckedGive.TheVariants.{Given, Empty}
use Rattle.slub_red_zone.specs.declared.checked.Run.{Run}
use Rattle.slub_red_zone.specs.declared.checked.Slot.{Slot}
use Rattle.slub_red_zone.specs.State.{SlabState, CheckedState, IsUsed, slab_of, state_of, objects_in}

-- ---- objects and slabs

-- nobody has the object: it is free or set aside
abbrev pub is_idle : Option ObjectState → Bool
is_idle None = false
is_idle (Some Free) = true
is_idle (Some Used) = false
is_idle (Some Aside) = true

-- 1 where the object is idle
abbrev pub idle : CheckedState → ℕ → ℕ → ℕ
idle s frame index = if is_idle (state_of s (record { frame = frame; index = index })) then 1 else 0

-- 1 where this is the object
abbrev pub here : Slot → ℕ → ℕ → ℕ
here slot frame index = if (slot.frame == frame) && (slot.index == index) then 1 else 0

-- 1 for each object of a slab of so many
abbrev pub one_of : ℕ → ℕ → ℕ
one_of objects index = if nat_lt index objects then 1 else 0

-- the order of a slab and how many objects it has
abbrev pub shape_of : SlabState → ℕ × ℕ
shape_of slab = (slab.order, objects_in slab)

-- those of the slab at a frame, None where there is none
abbrev pub shape_at : CheckedState → ℕ → Option (ℕ × ℕ)
shape_at s frame = option_map shape_of (slice_index_or s.slabs frame None)

-- how many reports there are and slabs listed: giving makes a report of each listed slab that it
-- finds damaged
abbrev pub findable : CheckedState → ℕ
findable s = length s.reports + length s.listed

-- ---- what stays

-- the cache's numbers, and its slabs with their orders and numbers of objects, are as before
pub record KeepsSlabs (old new : CheckedState) : Type 0 where
  pub layout : new.layout ≡ old.layout
  pub flags : new.flags ≡ old.flags
  pub cache : new.cache ≡ old.cache
  pub shape : (frame : ℕ) → shape_at new frame ≡ shape_at old frame

-- the cache's numbers, and every slab but the one at a frame, are as before
pub record KeepsOthers (old : CheckedState) (frame : ℕ) (new : CheckedState) : Type 0 where
  pub layout : new.layout ≡ old.layout
  pub flags : new.flags ≡ old.flags
  pub cache : new.cache ≡ old.cache
  pub shape : (other : ℕ) → other ≢ frame → shape_at new other ≡ shape_at old other
  pub objects : (other index : ℕ) → other ≢ frame → idle new other index ≡ idle old other index

-- the same objects are idle
abbrev pub KeepsIdle : CheckedState → CheckedState → Type 0
KeepsIdle old new = (frame index : ℕ) → idle new frame index ≡ idle old frame index

-- the reports before stand in front of those after
abbrev pub AddsReports : CheckedState → CheckedState → Type 0
AddsReports old new = (found : List Report) × (new.reports ≡ old.reports ++ found)

-- nothing but bytes and the order of the listed slabs may be another
pub record KeepsObjects (old new : CheckedState) : Type 0 where
  pub slabs : KeepsSlabs old new
  pub objects : KeepsIdle old new
  pub reports : new.reports ≡ old.reports
  pub listed : length new.listed ≡ length old.listed

-- ---- giving

-- the object was idle and is used now, each other is as before
pub record IsGivenNow (old : CheckedState) (slot : Slot) (new : CheckedState) : Type 0 where
  pub one : (frame index : ℕ) → idle old frame index ≡ idle new frame index + here slot frame index
  pub inside : slot.index < objects_in (slab_of new slot.frame)
  pub used : IsUsed new slot

-- one idle object is used now, or the same objects are idle
abbrev pub GivesOne : CheckedState → CheckedGive → CheckedState → Type 0
GivesOne old (Given slot) new = IsGivenNow old slot new
GivesOne old Empty new = KeepsIdle old new

-- what a give leaves
pub record GivesObject (old : CheckedState) (answer : CheckedGive) (new : CheckedState)
    : Type 0 where
  pub slabs : KeepsSlabs old new
  pub objects : GivesOne old answer new
  pub reports : AddsReports old new
  pub bounded : findable new ≤ findable old

-- ---- taking back

-- one more object is idle, or the same are
abbrev pub TakesOne : CheckedState → Slot → Result (Unit {0}) Damage → CheckedState → Type 0
TakesOne old slot (Ok _) new =
    (frame index : ℕ) → idle new frame index ≡ idle old frame index + here slot frame index
TakesOne old slot (Err _) new = KeepsIdle old new

-- what taking an object back leaves
pub record TakesObject (old : CheckedState) (slot : Slot) (answer : Result (Unit {0}) Damage)
    (new : CheckedState) : Type 0 where
  pub slabs : KeepsSlabs old new
  pub objects : TakesOne old slot answer new
  pub reports : new.reports ≡ old.reports
  pub bounded : findable new ≤ findable old + 1

-- ---- slabs that come and go

-- a slab is there that wasn't, all its objects are idle
pub record AddsSlab (old : CheckedState) (run : Run) (count : ℕ) (new : CheckedState) : Type 0 where
  pub others : KeepsOthers old run.frame new
  pub shape : shape_at new run.frame ≡ Some (run.order, count)
  pub objects : (index : ℕ) → idle new run.frame index ≡ one_of count index
  pub reports : new.reports ≡ old.reports
  pub bounded : findable new ≤ findable old + 1

-- a slab is there that wasn't, all its objects but a used one are idle
pub record AddsGivenSlab (old : CheckedState) (run : Run) (count : ℕ) (slot : Slot)
    (new : CheckedState) : Type 0 where
  pub others : KeepsOthers old run.frame new
  pub shape : shape_at new run.frame ≡ Some (run.order, count)
  pub objects : (index : ℕ)
      → idle new run.frame index + here slot run.frame index ≡ one_of count index
  pub used : IsUsed new slot
  pub reports : new.reports ≡ old.reports
  pub bounded : findable new ≤ findable old + 1

-- a slab whose objects were all idle is there no more
pub record TakesSlab (old : CheckedState) (frame : ℕ) (new : CheckedState) : Type 0 where
  pub others : KeepsOthers old frame new
  pub shape : shape_at new frame ≡ None
  pub before : (index : ℕ) → idle old frame index ≡ one_of (objects_in (slab_of old frame)) index
  pub objects : (index : ℕ) → idle new frame index ≡ 0
  pub reports : new.reports ≡ old.reports
  pub bounded : findable new ≤ findable old
