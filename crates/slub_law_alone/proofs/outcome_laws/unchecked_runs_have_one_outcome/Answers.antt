use Rattle.slub_law_alone.proofs.Quiet.{unchecked_runs_one}
use Rattle.slub_law_alone.proofs.outcome_laws.unchecked_runs_have_one_outcome.Goals as goal

pub returns : goal.returns
returns c = unchecked_runs_one
