use Rattle.slub_law_replay.proofs.OneTextRounds.{texts-one}
use Rattle.slub_law_replay.proofs.one_text_laws.rounds_by_text_have_one_outcome.Goals as goal

pub returns : goal.returns
returns c = texts-one
