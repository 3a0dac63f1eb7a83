use Rattle.slub_turns.proofs.Ready.{seeds_close}
use Rattle.slub_turns.proofs.laws.rounds_by_seed_close.Goals as goal

pub returns : goal.returns
returns c = seeds_close c.rounds_close_into_lists.ensures
