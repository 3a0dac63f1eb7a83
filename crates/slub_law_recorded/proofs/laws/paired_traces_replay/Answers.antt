use Rattle.slub_law_recorded.proofs.Replayed.{paired-replay}
use Rattle.slub_law_recorded.proofs.laws.paired_traces_replay.Goals as goal

pub returns : goal.returns
returns c = paired-replay
