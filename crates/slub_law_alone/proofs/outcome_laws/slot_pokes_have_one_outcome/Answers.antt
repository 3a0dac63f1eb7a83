use Rattle.slub_law_alone.proofs.CheckedSlabs.{slot_pokes_one}
use Rattle.slub_law_alone.proofs.outcome_laws.slot_pokes_have_one_outcome.Goals as goal

pub returns : goal.returns
returns c = slot_pokes_one
