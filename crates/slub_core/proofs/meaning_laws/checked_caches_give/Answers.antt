use Rattle.slub_core.proofs.Gifts.{checked_caches-give}
use Rattle.slub_core.proofs.meaning_laws.checked_caches_give.Goals as goal

pub returns : goal.returns
returns c = checked_caches-give
