use Rattle.slub_law_replay.proofs.OneTextRounds.{orders-one}
use Rattle.slub_law_replay.proofs.one_text_laws.rounds_in_order_have_one_outcome.Goals as goal

pub returns : goal.returns
returns c = orders-one
