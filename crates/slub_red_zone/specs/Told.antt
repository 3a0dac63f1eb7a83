-- What giving tells of the objects that it examined.
use Rattle.std.specs.Prelude.{◌≡◌, ℕ, ◌<◌, ◌≤◌, ◌++◌, List, Some, All, Any}
use Rattle.slub_object_layout.specs.Layout.{address_of}
use Rattle.slub_trace.specs.declared.damage.Report.{Report}
use Rattle.slub_red_zone.specs.declared.slab.ObjectState.TheVariants.{Free}
use Rattle.slub_red_zone.specs.declared.checked.Slot.{Slot}
use Rattle.slub_red_zone.specs.State.{CheckedState, slab_of, state_of, aside_in, bytes_of}
use Rattle.slub_red_zone.specs.Zones.{examined_free}
use Rattle.slub_red_zone.specs.Bytes.{Tells}

-- the report names this object, which was free, and tells a byte of its slot as it stood there
pub record IsReportOf (s : CheckedState) (report : Report) (slot : Slot) : Type 0 where
  pub free : state_of s slot ≡ Some Free
  pub cache : report.cache ≡ s.cache
  pub address : report.address ≡ address_of slot.frame slot.index s.layout
  pub tells : Tells s.layout (bytes_of s slot) (examined_free s.layout s.flags) report.damage

-- it is of some object
abbrev pub IsReport : CheckedState → Report → Type 0
IsReport s report = (slot : Slot) × IsReportOf s report slot

-- it is of some object of the slab at this frame
abbrev pub IsOfSlab : CheckedState → ℕ → Report → Type 0
IsOfSlab s frame report = (slot : Slot) × (slot.frame ≡ frame) × IsReportOf s report slot

-- each new report is of an object; objects of a slab are set aside only where one is of that slab
pub record TellsOfSlabs (old new : CheckedState) : Type 0 where
  pub found : List Report
  pub added : new.reports ≡ old.reports ++ found
  pub told : All (IsReport old) found
  pub aside : (frame : ℕ) → aside_in (slab_of old frame) < aside_in (slab_of new frame)
      → Any (IsOfSlab old frame) found

-- no object more is set aside in any slab
abbrev pub SetsNoneAside : CheckedState → CheckedState → Type 0
SetsNoneAside old new = (frame : ℕ) → aside_in (slab_of new frame) ≤ aside_in (slab_of old frame)
