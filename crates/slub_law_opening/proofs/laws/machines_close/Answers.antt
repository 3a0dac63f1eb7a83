use Rattle.slub_law_opening.proofs.Closes.{machines-close}
use Rattle.slub_law_opening.proofs.laws.machines_close.Goals as goal

pub returns : goal.returns
returns c = machines-close
