use Rattle.slub_turns.proofs.Turns.{turns}
use Rattle.slub_turns.proofs.fit_laws.turns_fit.Goals as goal

pub returns : goal.returns
returns c = turns
