-- `free_debug_processing`: the slabs of a checked cache behind their lock, and what goes of them.
use Rattle.std.specs.Prelude.{ℕ, ◌==◌, ◌&&◌, Bool, true, false, nat_le, if◌then◌else◌, length, Option, Some, None}
use Rattle.slub_red_zone.specs.State.{CheckedState, slab_of, objects_in}
use Rattle.slub_red_zone.specs.Steps.{without_slab}
use Rattle.slub_trace.specs.declared.reply.Reply.{Reply}
use Rattle.slub_trace.specs.declared.reply.Reply.TheVariants.{NoMemory}
use Rattle.slub_core.specs.declared.local.FrameRun.{FrameRun}
use Rattle.slub_core.specs.World.{LockValue, Nothing, Node, Checked, Pool}
use Rattle.slub_core.specs.Checked.{slabs_in, run_at}
use Rattle.slub_object_layout.specs.Layout.{no_layout}

-- it is the slabs of a checked cache
abbrev pub IsCheckedValue : LockValue → Type 0
IsCheckedValue Nothing = ⊥
IsCheckedValue (Node frames) = ⊥
IsCheckedValue (Checked slabs) = Unit {0}
IsCheckedValue (Pool pool) = ⊥

-- those slabs
abbrev pub slabs_at : LockValue → CheckedState
slabs_at v = slabs_in no_layout v

-- all objects of the slab are free, and so many slabs are listed
abbrev pub is_spare_by : ℕ → CheckedState → ℕ → Bool
is_spare_by limit s frame =
    (length (slab_of s frame).free == objects_in (slab_of s frame))
    && nat_le limit (length s.listed)

-- the run of a spare slab, and the slabs without it
abbrev pub spare_run : ℕ → CheckedState → ℕ → Option FrameRun
spare_run limit s frame = if is_spare_by limit s frame then Some (run_at s frame) else None

abbrev pub less_spare : ℕ → CheckedState → ℕ → CheckedState
less_spare limit s frame = if is_spare_by limit s frame then without_slab s frame else s

-- the reply is that memory was refused for the bytes of a new slab
abbrev pub is_refused : Option Reply → Bool
is_refused (Some NoMemory) = true
is_refused _ = false
