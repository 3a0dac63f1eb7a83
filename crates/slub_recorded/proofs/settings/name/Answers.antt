use Rattle.slub_trace_reader.proofs.Fields.{names}
use Rattle.slub_recorded.proofs.settings.name.Goals as goal

pub returns : goal.returns
returns c = names c.args.word.now c.read_bytes.result c.read_bytes.ensures
