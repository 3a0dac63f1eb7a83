use Rattle.slub_rounds.proofs.Allowed.{allocations-may}
use Rattle.slub_rounds.proofs.client_laws.allocations_may_be_done.Goals as goal

pub returns : goal.returns
returns c = allocations-may
