use Rattle.std.proofs.Common.{◌≡◌, None, rules}
use Rattle.slub_round_log.proofs.Ending.{round_begins}
use Rattle.slub_round_log.proofs.log.LogWatch.begins_round.Goals as goal

pub returns : goal.returns
returns g c =
    let was : c.args.self.now.kept.fault ≡ None = search rules in
    let fine : c.put_first.new.self.fault ≡ None = search rules in
    round_begins c.args.self.now.kept c.put_first.new.self c.write.new.self.kept c.args.locals.now
    (record { taken = g.K.Sink.taken c.args.self.now.sink; faults = g.K.Sink.faults c.args.self.now.sink })
    (record { taken = g.K.Sink.taken c.write.new.self.sink; faults = g.K.Sink.faults c.write.new.self.sink })
    c.put_first.ensures was fine c.write.ensures.written c.write.ensures.choice
