use Rattle.slub_law_alone.proofs.Events.{runs_with_memory_one}
use Rattle.slub_law_alone.proofs.outcome_laws.runs_with_memory_have_one_outcome.Goals as goal

pub returns : goal.returns
returns c = runs_with_memory_one
