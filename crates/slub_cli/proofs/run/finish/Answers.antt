use Rattle.std.proofs.Common.{IfErr, subst, sym}
use Rattle.std.specs.Prelude.{Result}
use Rattle.slub_slabinfo_text.proofs.Given.{AreLines, text-given}
use Rattle.slub_cli.specs.declared.status.Status.{Status}
use Rattle.slub_cli.specs.declared.stop.Stop.{Stop}
use Rattle.slub_cli.specs.Inner.{HasLine}
use Rattle.slub_cli.proofs.Given.{stop-lines}
use Rattle.slub_cli.proofs.run.finish.Goals as goal

pub returns-in-Ok-write_lines-clause-lines : goal.returns-in-Ok-write_lines-clause-lines
returns-in-Ok-write_lines-clause-lines g c =
    let has : HasLine c.in-Err.stop = subst (λ (end : Result Status Stop). IfErr end HasLine) c.in-Err.is c.requires.line in
    let are : AreLines c.line_of.result.now = subst AreLines (sym c.line_of.ensures) (stop-lines c.in-Err.stop has) in
    text-given (g.K.Sink.pieces c.args.sink.now) (g.K.Sink.pieces c.write_lines.new.sink) c.write_lines.result c.line_of.result.now are c.write_lines.ensures.lines c.write_lines.ensures.begun

pub returns-clause-lines : goal.returns-clause-lines
returns-clause-lines g c =
    let has : HasLine c.in-Err.stop = subst (λ (end : Result Status Stop). IfErr end HasLine) c.in-Err.is c.requires.line in
    let are : AreLines c.line_of.result.now = subst AreLines (sym c.line_of.ensures) (stop-lines c.in-Err.stop has) in
    text-given (g.K.Sink.pieces c.args.sink.now) (g.K.Sink.pieces c.write_lines.new.sink) c.write_lines.result c.line_of.result.now are c.write_lines.ensures.lines c.write_lines.ensures.begun
