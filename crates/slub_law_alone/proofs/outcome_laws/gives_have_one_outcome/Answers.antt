use Rattle.slub_law_alone.proofs.CheckedSlabs.{gives_one}
use Rattle.slub_law_alone.proofs.outcome_laws.gives_have_one_outcome.Goals as goal

pub returns : goal.returns
returns c = gives_one
