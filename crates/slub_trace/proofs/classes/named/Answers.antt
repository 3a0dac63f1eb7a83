use Rattle.slub_trace.proofs.Names.{names_some}
use Rattle.slub_trace.proofs.classes.named.Goals as goal

pub unwrap-requires : goal.unwrap-requires
unwrap-requires c = names_some c.args.text.now c.read_bytes.result c.requires c.read_bytes.ensures
