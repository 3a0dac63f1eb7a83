use Rattle.slub_node_partial.proofs.Promotions.{unique}
use Rattle.slub_node_partial.proofs.laws.promotion_is_unique.Goals as goal

pub returns : goal.returns
returns c = unique _ _ _ _ c.requires.one c.requires.other
