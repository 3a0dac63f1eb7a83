use Rattle.slub_round_log.proofs.Written.{rounds_written}
use Rattle.slub_round_log.proofs.laws.rounds_are_written.Goals as goal

pub returns : goal.returns
returns c = rounds_written
