use Rattle.slub_rounds.proofs.Allowed.{frees-may}
use Rattle.slub_rounds.proofs.client_laws.frees_may_be_done.Goals as goal

pub returns : goal.returns
returns c = frees-may
