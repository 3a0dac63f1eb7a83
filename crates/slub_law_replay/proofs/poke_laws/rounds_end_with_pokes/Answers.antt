use Rattle.slub_law_replay.proofs.Turns.{rounds_poked}
use Rattle.slub_law_replay.proofs.poke_laws.rounds_end_with_pokes.Goals as goal

pub returns : goal.returns
returns c = rounds_poked
