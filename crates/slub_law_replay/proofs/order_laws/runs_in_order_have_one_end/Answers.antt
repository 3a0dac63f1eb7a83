use Rattle.slub_law_replay.proofs.SameEnd.{same_end}
use Rattle.slub_law_replay.proofs.order_laws.runs_in_order_have_one_end.Goals as goal

pub returns : goal.returns
returns c = same_end
