use Rattle.std.proofs.Common.{◌≡◌, ◌<◌, length}
use Rattle.slub_lists.specs.Alloc.{lists_of}
use Rattle.slub_lists.specs.Coherent.{IsConsistent}
use Rattle.slub_lists.specs.Leaving.{LeavesSlabs}
use Rattle.slub_lists.proofs.Moving.{set_moved}
use Rattle.slub_list_machine.proofs.lists.Lists.move_all.Given as goal

-- moving what is left gives what moving the whole gives
abbrev pub invariant-loop : goal.invariant-loop
invariant-loop l = record {
  consistent : IsConsistent l.self;
  cpu : l.cpu < l.self.cpus;
  slabs : LeavesSlabs l.initial.self l.cache l.self;
  moved : set_moved l.self l.min_partial l.cache l.cpu ≡ set_moved l.initial.self l.min_partial l.cache l.cpu;
}

abbrev pub decreases-loop : goal.decreases-loop
decreases-loop l = length (lists_of l.self l.cache l.cpu).partial
