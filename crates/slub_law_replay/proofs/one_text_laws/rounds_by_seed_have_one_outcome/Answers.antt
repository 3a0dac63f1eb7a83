use Rattle.slub_law_replay.proofs.OneTextRounds.{seeds-one}
use Rattle.slub_law_replay.proofs.one_text_laws.rounds_by_seed_have_one_outcome.Goals as goal

pub returns : goal.returns
returns c = seeds-one
