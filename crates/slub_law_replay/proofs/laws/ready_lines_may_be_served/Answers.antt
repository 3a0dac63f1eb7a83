use Rattle.slub_law_replay.proofs.Ready.{may-be-served}
use Rattle.slub_law_replay.proofs.laws.ready_lines_may_be_served.Goals as goal

pub returns : goal.returns
returns c = may-be-served
