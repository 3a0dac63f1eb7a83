use Rattle.slub_cpu_partial.proofs.Frames.{length-string_of}
use Rattle.slub_cpu_partial.proofs.laws.strings_have_their_count.Goals as goal

pub returns : goal.returns
returns c = length-string_of _ c.args.front c.args.count
