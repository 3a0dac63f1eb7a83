use Rattle.slub_rounds.proofs.Following.{leads-on}
use Rattle.slub_rounds.proofs.laws.rounds_lead_on.Goals as goal

pub returns : goal.returns
returns c = leads-on
