use Rattle.slub_law_alone.proofs.TrimAlone.{trim_alone}
use Rattle.slub_law_alone.proofs.away.trims_are_those_of_lists.Goals as goal

pub returns : goal.returns
returns c = trim_alone
