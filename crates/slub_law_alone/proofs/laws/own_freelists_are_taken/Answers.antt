use Rattle.slub_law_alone.proofs.OwnTaken.{own_taken}
use Rattle.slub_law_alone.proofs.laws.own_freelists_are_taken.Goals as goal

pub returns : goal.returns
returns c = own_taken
