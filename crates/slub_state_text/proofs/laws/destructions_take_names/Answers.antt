use Rattle.slub_state_text.proofs.Naming.{destructions_take}
use Rattle.slub_state_text.proofs.laws.destructions_take_names.Goals as goal

pub returns : goal.returns
returns c = destructions_take
