use Rattle.slub_law_replay.proofs.Shrunk.{shrinks-leaves}
use Rattle.slub_law_replay.proofs.journal_laws.shrinking_leaves_the_used_slabs.Goals as goal

pub returns : goal.returns
returns c = shrinks-leaves
