use Rattle.slub_node_partial.proofs.Removals.{one_taken}
use Rattle.slub_node_partial.proofs.laws.removal_takes_one_slab.Goals as goal

pub returns : goal.returns
returns c = one_taken _ _ _ c.requires
