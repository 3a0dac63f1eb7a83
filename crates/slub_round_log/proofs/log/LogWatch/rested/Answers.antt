use Rattle.std.proofs.Common.{◌≡◌, Bool, None, rules, ap, subst, ◌∙◌}
use Rattle.slub_core.specs.Values.{values_of}
use Rattle.slub_schedule.specs.Schedule.{is_between}
use Rattle.slub_round_log.specs.Choices.{Goes}
use Rattle.slub_round_log.proofs.Ending.{turn_ends}
use Rattle.slub_round_log.proofs.log.LogWatch.rested.Goals as goal

pub returns : goal.returns
returns g c =
    let fine : c.rested.new.self.fault ≡ None = search rules in
    let is : c.is_between.result ≡ is_between c.args.local.now.spot = c.is_between.ensures ∙ ap is_between c.spot.ensures in
    let P : Bool → Type 0 = λ b. Goes c.write.new.self.kept.choice (record { is_event_over = b; is_lost_at_lock = c.rested.new.self.waits }) c.told.new.self in
    turn_ends c.args.setup.now c.args.self.now.kept c.rested.new.self c.write.new.self.kept (values_of c.args.values.now) c.args.before c.args.local.now c.told.new.self
    (record { taken = g.K.Sink.taken c.args.self.now.sink; faults = g.K.Sink.faults c.args.self.now.sink })
    (record { taken = g.K.Sink.taken c.write.new.self.sink; faults = g.K.Sink.faults c.write.new.self.sink })
    c.rested.ensures fine c.write.ensures.written c.write.ensures.choice (subst P is c.told.ensures)
