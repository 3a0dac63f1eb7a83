use Rattle.slub_cpu_partial.proofs.Frames.{stays}
use Rattle.slub_cpu_partial.proofs.laws.strings_stay.Goals as goal

pub returns : goal.returns
returns c = λ frame next apart. stays c.args.links.now c.args.front c.args.count frame next apart
