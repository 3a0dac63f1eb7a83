use Rattle.slub_round_log.proofs.Written.{turns_written}
use Rattle.slub_round_log.proofs.laws.turns_are_written.Goals as goal

pub returns : goal.returns
returns c = turns_written
