use Rattle.std.proofs.Common.{ℕ, Err, sym, subst, ◌∙◌}
use Rattle.slub_round_log.specs.Log.{SinkState}
use Rattle.slub_steps.specs.declared.choices.RoundCounts.{RoundCounts}
use Rattle.slub_steps.specs.declared.replay.Progress.{Progress}
use Rattle.slub_steps.specs.Inner.{FinishesLog, LacksEnd, wanted_by}
use Rattle.slub_steps.proofs.Ends.{finish_bad, finish_total, none_by, tail_none, tail_total}
use Rattle.slub_steps.proofs.replay.Progress.finish.Goals as goal
use Rattle.slub_steps.proofs.replay.Progress.finish.Goals.{then-is_none+in_ok-write_total, else-is_none}

pub returns-in-Some-clause-finished : goal.returns-in-Some-clause-finished
returns-in-Some-clause-finished g c =
    let old : SinkState = (record { taken = g.K.Sink.taken c.args.self.now.sink; faults = g.K.Sink.faults c.args.self.now.sink }) in
    elim c.if-is_none.branch [
      | then-is_none+in_ok-write_total w ↦ (let new : SinkState = (record { taken = g.K.Sink.taken w.write_total.new.self.sink; faults = g.K.Sink.faults w.write_total.new.self.sink }) in
          subst (λ (p : Progress g.row.K.Denot). FinishesLog {A = ℕ} (wanted_by c.args.plan) c.args.self.now.journal.items c.args.machine.now.lists c.args.self.now.rounds old (record { taken = g.K.Sink.taken p.sink; faults = g.K.Sink.faults p.sink }) (Err c.of_picks.result)) (sym w.self-is)
          (finish_bad ℕ (wanted_by c.args.plan) c.args.self.now.journal.items c.args.machine.now.lists c.args.self.now.rounds old new c.in-Some.bad c.of_picks.result
          (tail_total (wanted_by c.args.plan) c.args.self.now.journal.items c.args.machine.now.lists old new (sym (none_by c.args.plan.round c.is_none.result c.is_none.ensures) ∙ w.if-is_none.true) w.in_ok-write_total.ensures.written)
          (subst (λ (n : RoundCounts). LacksEnd (wanted_by c.args.plan) n c.in-Some.bad) w.in_ok-write_total.ensures.rounds (subst (λ (p : Progress g.row.K.Denot). LacksEnd (wanted_by c.args.plan) p.rounds c.in-Some.bad) w.self-is c.in-Some.ensures)) c.of_picks.ensures))
      | else-is_none w ↦ subst (λ (p : Progress g.row.K.Denot). FinishesLog {A = ℕ} (wanted_by c.args.plan) c.args.self.now.journal.items c.args.machine.now.lists c.args.self.now.rounds old (record { taken = g.K.Sink.taken p.sink; faults = g.K.Sink.faults p.sink }) (Err c.of_picks.result)) (sym w.self-is)
          (finish_bad ℕ (wanted_by c.args.plan) c.args.self.now.journal.items c.args.machine.now.lists c.args.self.now.rounds old old c.in-Some.bad c.of_picks.result
          (tail_none (wanted_by c.args.plan) c.args.self.now.journal.items c.args.machine.now.lists old (sym (none_by c.args.plan.round c.is_none.result c.is_none.ensures) ∙ w.if-is_none.false)) (subst (λ (p : Progress g.row.K.Denot). LacksEnd (wanted_by c.args.plan) p.rounds c.in-Some.bad) w.self-is c.in-Some.ensures) c.of_picks.ensures)
    ]

pub returns-in_err-write_total-clause-finished : goal.returns-in_err-write_total-clause-finished
returns-in_err-write_total-clause-finished g c =
    let old : SinkState = (record { taken = g.K.Sink.taken c.args.self.now.sink; faults = g.K.Sink.faults c.args.self.now.sink }) in
    let new : SinkState = (record { taken = g.K.Sink.taken c.write_total.new.self.sink; faults = g.K.Sink.faults c.write_total.new.self.sink }) in
    finish_total ℕ (Unit {0}) (wanted_by c.args.plan) c.args.self.now.journal.items c.args.machine.now.lists c.args.self.now.rounds old new c.in_err-write_total.field-0.0 c.from_residual.result
    (sym (none_by c.args.plan.round c.is_none.result c.is_none.ensures) ∙ c.if-is_none.true) c.in_err-write_total.ensures.written c.from_residual.ensures.1
