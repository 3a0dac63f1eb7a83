use Rattle.slub_law_alone.proofs.Between.{settings_one}
use Rattle.slub_law_alone.proofs.outcome_laws.settings_have_one_outcome.Goals as goal

pub returns : goal.returns
returns c = settings_one
