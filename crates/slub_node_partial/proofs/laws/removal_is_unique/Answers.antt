use Rattle.slub_node_partial.proofs.Removals.{unique_rest}
use Rattle.slub_node_partial.proofs.laws.removal_is_unique.Goals as goal

pub returns : goal.returns
returns c = unique_rest _ _ _ _ c.requires.one c.requires.other
