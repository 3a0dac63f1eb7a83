use Rattle.slub_law_replay.proofs.WordReads.{reads-follow-writes}
use Rattle.slub_law_replay.proofs.laws.reads_follow_writes.Goals as goal

pub returns : goal.returns
returns c = reads-follow-writes
