use Rattle.slub_law_alone.proofs.Words.{reads_one}
use Rattle.slub_law_alone.proofs.outcome_laws.reads_have_one_reply.Goals as goal

pub returns : goal.returns
returns c = reads_one
