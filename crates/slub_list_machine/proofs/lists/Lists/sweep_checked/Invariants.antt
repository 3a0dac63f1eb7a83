use Rattle.std.proofs.Common.{◌≡◌, ◌≤◌, ◌-◌, IsSome, drop, fold, length, take}
use Rattle.slub_lists.specs.Alloc.{checked_of}
use Rattle.slub_lists.specs.Coherent.{IsCoherent}
use Rattle.slub_lists.specs.Leaving.{KeepsHeld, LeavesSlabs}
use Rattle.slub_lists.specs.Shrink.{busy_of, swept_checked_slab}
use Rattle.slub_lists.specs.Shrinking.{listed_of}
use Rattle.slub_lists.proofs.SweepingChecked.{AreInUse}
use Rattle.slub_list_machine.proofs.lists.Lists.sweep_checked.Given as goal

-- sweeping what stands from the place on gives what sweeping all gives, and something of what stands before it is in use
abbrev pub invariant-loop-frame : goal.invariant-loop-frame
invariant-loop-frame l = record {
  swept : fold (swept_checked_slab l.cache) l.self (drop l.place (listed_of l.self l.cache)) ≡ fold (swept_checked_slab l.cache) l.initial.self (listed_of l.initial.self l.cache);
  used : AreInUse l.self l.cache (take l.place (listed_of l.self l.cache));
  checked : IsSome (checked_of l.self l.cache);
  busy : busy_of l.self l.cache ≤ busy_of l.initial.self l.cache;
  slabs : LeavesSlabs l.initial.self l.cache l.self;
  kept : KeepsHeld l.initial.self l.self;
  coherent : IsCoherent l.self;
}

abbrev pub decreases-loop-frame : goal.decreases-loop-frame
decreases-loop-frame l = length (listed_of l.self l.cache) - l.place
