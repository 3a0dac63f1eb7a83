use Rattle.std.proofs.Common.{◌≡◌, ◌-◌, drop, fold, length, take}
use Rattle.slub_lists.specs.Alloc.{node_of}
use Rattle.slub_lists.specs.Coherent.{IsCoherent}
use Rattle.slub_lists.specs.Leaving.{LeavesSlabs}
use Rattle.slub_lists.specs.Shrink.{swept, swept_slab}
use Rattle.slub_lists.specs.Shrinking.{KeepsChecked}
use Rattle.slub_lists.proofs.Sweeping.{AreUsed}
use Rattle.slub_list_machine.proofs.lists.Lists.sweep.Given as goal

-- sweeping what stands from the place on gives what sweeping all gives, and what stands before it is in use
abbrev pub invariant-loop-frame : goal.invariant-loop-frame
invariant-loop-frame l = record {
  swept : fold (swept_slab l.cache) l.self (drop l.place (node_of l.self l.cache)) ≡ swept l.initial.self l.cache;
  used : AreUsed l.self (take l.place (node_of l.self l.cache));
  lists : l.self.cpu_lists ≡ l.initial.self.cpu_lists;
  slabs : LeavesSlabs l.initial.self l.cache l.self;
  rest : KeepsChecked l.initial.self l.self;
  coherent : IsCoherent l.self;
}

abbrev pub decreases-loop-frame : goal.decreases-loop-frame
decreases-loop-frame l = length (node_of l.self l.cache) - l.place
