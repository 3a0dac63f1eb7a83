use Rattle.std.proofs.Common.{◌≡◌, ◌-◌, ◌<◌, ℕ, fold}
use Rattle.std.specs.List.{range_with_len}
use Rattle.slub_lists.specs.Alloc.{lists_of, no_lists}
use Rattle.slub_lists.specs.Coherent.{IsCoherent}
use Rattle.slub_lists.specs.Leaving.{LeavesSlabs}
use Rattle.slub_lists.specs.Shrink.{flushed, flushed_below}
use Rattle.slub_lists.specs.Shrinking.{KeepsChecked}
use Rattle.slub_list_machine.proofs.lists.Lists.flush_cpus.Given as goal

-- flushing the CPUs that are left gives what flushing all gives, and the first ones have nothing
abbrev pub invariant-loop-cpu : goal.invariant-loop-cpu
invariant-loop-cpu l = record {
  flushed : fold (flushed l.min_partial l.cache) l.self (range_with_len l.cpu (l.initial.self.cpus - l.cpu)) ≡ flushed_below l.initial.self l.min_partial l.cache l.initial.self.cpus;
  bare : (cpu : ℕ) → cpu < l.cpu → lists_of l.self l.cache cpu ≡ no_lists;
  slabs : LeavesSlabs l.initial.self l.cache l.self;
  rest : KeepsChecked l.initial.self l.self;
  coherent : IsCoherent l.self;
}
