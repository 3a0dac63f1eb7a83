use Rattle.slub_steps.specs.Inner.{wanted_by}
use Rattle.slub_steps.proofs.Doing.{HasCome}
use Rattle.slub_steps.proofs.Putting.{Stands}
use Rattle.slub_steps.proofs.replay.Progress.do_items.Given as goal

abbrev pub invariant-loop-number : goal.invariant-loop-number
invariant-loop-number g l = record {
  stands : Stands l.trace l.number l.machine l.progress.journal.items;
  come : HasCome (wanted_by l.plan) l.trace l.number l.machine l.progress.journal.items l.progress.live l.progress.rounds (record { taken = g.K.Sink.taken l.fn.self.sink; faults = g.K.Sink.faults l.fn.self.sink }) (record { taken = g.K.Sink.taken l.progress.sink; faults = g.K.Sink.faults l.progress.sink });
}
