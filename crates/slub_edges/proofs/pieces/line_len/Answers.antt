use Rattle.slub_edges.proofs.Lines.{line-length, text-length}
use Rattle.slub_edges.proofs.pieces.line_len.Goals as goal

pub returns-in-Some-clause-line : goal.returns-in-Some-clause-line
returns-in-Some-clause-line c = line-length c.args.text.now c.in-Some.at c.in-Some.ensures

pub returns-in-None-clause-line : goal.returns-in-None-clause-line
returns-in-None-clause-line c = text-length c.args.text.now c.in-None.ensures
