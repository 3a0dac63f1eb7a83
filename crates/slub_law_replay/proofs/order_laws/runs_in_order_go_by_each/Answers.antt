use Rattle.slub_law_replay.proofs.SameEnd.{goes_by}
use Rattle.slub_law_replay.proofs.order_laws.runs_in_order_go_by_each.Goals as goal

pub returns : goal.returns
returns c = goes_by
