use Rattle.std.proofs.Common.{◌≡◌, drop, fold}
use Rattle.slub_lists.specs.Coherent.{IsCoherent}
use Rattle.slub_lists.specs.Flush.{flushed_cpu, flushed_of}
use Rattle.slub_lists.specs.Shrinking.{KeepsChecked}
use Rattle.slub_list_machine.proofs.lists.Lists.flush_caches.Given as goal

-- flushing the CPU of the caches that are left gives what flushing it of all gives
abbrev pub invariant-loop-place : goal.invariant-loop-place
invariant-loop-place l = record {
  flushed : fold (flushed_of l.cpu) l.self (drop l.place l.initial.self.table.ages) ≡ flushed_cpu l.initial.self l.cpu;
  rest : KeepsChecked l.initial.self l.self;
  coherent : IsCoherent l.self;
}
