use Rattle.slub_law_alone.proofs.FromNode.{node_taken}
use Rattle.slub_law_alone.proofs.node.node_slabs_are_taken.Goals as goal

pub returns : goal.returns
returns c = node_taken
