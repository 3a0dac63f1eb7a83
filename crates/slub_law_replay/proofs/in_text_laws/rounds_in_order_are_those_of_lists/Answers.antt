use Rattle.slub_law_replay.proofs.InTextRounds.{in_order}
use Rattle.slub_law_replay.proofs.in_text_laws.rounds_in_order_are_those_of_lists.Goals as goal

pub returns : goal.returns
returns c = in_order
