use Rattle.slub_recording.proofs.Splits.{splits}
use Rattle.slub_recording.proofs.words.cut.Goals as goal

pub returns : goal.returns
returns c = splits c.args.mark c.args.bytes.now c.split.result c.split.ensures.found c.split.ensures.none
