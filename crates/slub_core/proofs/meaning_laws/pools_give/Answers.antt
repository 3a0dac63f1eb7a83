use Rattle.slub_core.proofs.Takes.{pools-give}
use Rattle.slub_core.proofs.meaning_laws.pools_give.Goals as goal

pub returns : goal.returns
returns c = pools-give
