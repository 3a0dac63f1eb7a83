use Rattle.slub_round_log.proofs.OneTurn.{one_turn}
use Rattle.slub_round_log.proofs.laws.happenings_are_one_turn.Goals as goal

pub returns : goal.returns
returns c = one_turn
