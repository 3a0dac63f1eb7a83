use Rattle.slub_cpu_partial.proofs.Frames.{joined}
use Rattle.slub_cpu_partial.proofs.laws.joined_strings.Goals as goal

pub returns : goal.returns
returns c = joined _ c.args.front c.args.more c.args.list.front c.args.list.count c.requires
