use Rattle.slub_turns.proofs.Ready.{picks_are_fit}
use Rattle.slub_turns.proofs.laws.picks_fit.Goals as goal

pub returns : goal.returns
returns c = picks_are_fit c.bounded_counts_fit.ensures
