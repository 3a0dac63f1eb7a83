use Rattle.slub_node_partial.proofs.Promotions.{keeps}
use Rattle.slub_node_partial.proofs.laws.promotion_keeps_slabs.Goals as goal

pub returns : goal.returns
returns c = keeps _ _ _ c.requires.as_many c.requires.promoted
