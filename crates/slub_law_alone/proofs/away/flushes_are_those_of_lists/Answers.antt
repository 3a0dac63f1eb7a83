use Rattle.slub_law_alone.proofs.FlushAlone.{flush_alone}
use Rattle.slub_law_alone.proofs.away.flushes_are_those_of_lists.Goals as goal

pub returns : goal.returns
returns c = flush_alone
