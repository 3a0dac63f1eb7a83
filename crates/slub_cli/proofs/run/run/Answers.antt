use Rattle.std.proofs.Common.{map, refl}
use Rattle.std.specs.Prelude.{string_bytes}
use Rattle.slub_cli.proofs.Ends.{promise, run_ends}
use Rattle.slub_slabinfo_text.proofs.Given.{given-more}
use Rattle.slub_cli.proofs.Given.{worked-line}
use Rattle.slub_cli.proofs.run.run.Goals as goal

pub returns-clause-run : goal.returns-clause-run
returns-clause-run g c =
    let worked = c.work-end.ensures.worked in
    promise _ _
    (run_ends (map string_bytes c.args.words.now) (g.S.Source.rest c.args.source.now) (g.S.Source.rest c.work-end.new.source)
    (g.K.Sink.taken c.args.sink.now) (g.K.Sink.taken c.work-end.new.sink) (g.K.Sink.taken c.finish-status.new.sink) _ _
    (g.K.Sink.faults c.work-end.new.sink, g.K.Sink.faults c.finish-status.new.sink) c.work-end.new.trace c.work-end.new.journal
    c.work-end.result c.finish-status.result c.work-end.ensures.counts refl c.finish-status.ensures.counts
    c.work-end.ensures.read_faults c.work-end.ensures.write_faults worked c.finish-status.ensures.finishes)

pub finish-status-requires : goal.finish-status-requires
finish-status-requires g c = record { line = worked-line _ c.work-end.new.trace c.work-end.new.journal c.work-end.result c.work-end.ensures.worked }

pub returns-clause-lines : goal.returns-clause-lines
returns-clause-lines g c = given-more (g.K.Sink.pieces c.args.sink.now) (g.K.Sink.pieces c.work-end.new.sink) (g.K.Sink.pieces c.finish-status.new.sink) c.work-end.ensures.lines c.finish-status.ensures.lines
