use Rattle.slub_law_replay.proofs.OneTextRounds.{ways-one}
use Rattle.slub_law_replay.proofs.one_text_laws.rounds_of_a_way_have_one_outcome.Goals as goal

pub returns : goal.returns
returns c = ways-one
