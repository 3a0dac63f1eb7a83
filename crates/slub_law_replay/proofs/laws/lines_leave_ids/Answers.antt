use Rattle.slub_law_replay.proofs.WithoutIds.{line-leaves}
use Rattle.slub_law_replay.proofs.laws.lines_leave_ids.Goals as goal

pub returns : goal.returns
returns c = line-leaves
