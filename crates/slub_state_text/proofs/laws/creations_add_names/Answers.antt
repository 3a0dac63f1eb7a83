use Rattle.slub_state_text.proofs.Naming.{creations_add}
use Rattle.slub_state_text.proofs.laws.creations_add_names.Goals as goal

pub returns : goal.returns
returns c = creations_add
