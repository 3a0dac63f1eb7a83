-- `alloc_single_from_partial`, `free_debug_processing`: where a worker goes once the slabs of a
-- checked cache have answered.
use Rattle.std.specs.Prelude.{Option, Some, None}
use Rattle.slub_object_layout.specs.Layout.{address_of}
use Rattle.slub_red_zone.specs.declared.checked.CheckedGive.{CheckedGive}
use Rattle.slub_red_zone.specs.declared.checked.CheckedGive.TheVariants as give
use Rattle.slub_trace.specs.declared.reply.Reply.TheVariants.{Given, Freed}
use Rattle.slub_core.specs.declared.call.CallKind.TheVariants.{Alloc, Free}
use Rattle.slub_core.specs.declared.local.FrameRun.{FrameRun}
use Rattle.slub_core.specs.declared.spot.Spot.{Spot}
use Rattle.slub_core.specs.declared.spot.Spot.TheVariants.{InChecked}
use Rattle.slub_core.specs.declared.spot.CheckedSpot.TheVariants.{LockRun, GiveChecked}
use Rattle.slub_core.specs.Local.{Local, Turn, here, at, gets, loses, goes, tells}
use Rattle.slub_core.specs.Facts.{Facts, cache_of}

-- it has the object that was given, or goes to look for a run
abbrev pub given_turn : Facts → Local → CheckedGive → Turn
given_turn facts l (give.Given slot) =
    tells (at (gets l l.cache slot.frame slot.index) (InChecked GiveChecked Alloc))
    (Given (address_of slot.frame slot.index (cache_of facts l.cache).layout))
given_turn facts l give.Empty = goes (at l (InChecked LockRun Alloc))

-- a run in hand is to be put back
abbrev pub way_of_spare : Option FrameRun → Spot
way_of_spare None = InChecked GiveChecked Free
way_of_spare (Some run) = InChecked LockRun Free

-- it holds the object no more, and has the run of its slab in hand where that was spare
abbrev pub freed_turn : Facts → Local → Option FrameRun → Turn
freed_turn facts l run =
    tells (record (loses l) { run = run; spot = way_of_spare run })
    (Freed (address_of (here l).frame (here l).index (cache_of facts (here l).cache).layout))
