use Rattle.std.proofs.Common.{Some, false, refl}
use Rattle.slub_law_replay.specs.declared.way.Way.TheVariants.{Schedule}
use Rattle.slub_cli.specs.declared.status.Status.{Status}
use Rattle.slub_cli.proofs.Parts.{made_load, trace_stop}
use Rattle.slub_cli.proofs.Texts.{took_as}
use Rattle.slub_slabinfo_text.proofs.Given.{given-none}
use Rattle.slub_cli.proofs.run.load.Goals as goal

pub returns-in-Ok-clause-loaded : goal.returns-in-Ok-clause-loaded
returns-in-Ok-clause-loaded g c =
    let made = c.in_ok-made in
    let done = c.in-Ok.ensures in
    record {
      end = ((refl, done.all), c.done_status.ensures);
      lawful = made_load c.args.seed c.args.events c.args.workers made.made c.do_trace-end.new.journal made.ensures.made made.ensures.sound done.lawful;
      told = done.told;
    }

pub returns-in-Err-clause-loaded : goal.returns-in-Err-clause-loaded
returns-in-Err-clause-loaded g c =
    let made = c.in_ok-made in
    let done = c.in-Err.ensures in
    record {
      end = trace_stop (g.K.Sink.faults c.args.sink.now, g.K.Sink.faults c.do_trace-end.new.sink) (Schedule c.args.seed) made.made c.do_trace-end.new.journal c.in-Err.stop done.stops done.spent;
      lawful = made_load c.args.seed c.args.events c.args.workers made.made c.do_trace-end.new.journal made.ensures.made made.ensures.sound done.lawful;
      told = took_as (Unit {0}) Status false (g.K.Sink.taken c.args.sink.now) (g.K.Sink.taken c.do_trace-end.new.sink) (Some made.made) c.do_trace-end.new.journal c.in-Err.stop done.told;
    }

pub returns-in_err-made-clause-lines : goal.returns-in_err-made-clause-lines
returns-in_err-made-clause-lines g c = given-none (g.K.Sink.pieces c.args.sink.now)
