use Rattle.slub_trace_reader.proofs.Fields.{fields}
use Rattle.slub_trace_reader.proofs.words.field_of.Goals as goal

pub returns : goal.returns
returns c = fields c.args.bytes.now c.cut.result c.cut.ensures.found c.cut.ensures.none
