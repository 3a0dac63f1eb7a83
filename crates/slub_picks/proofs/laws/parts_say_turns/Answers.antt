use Rattle.slub_picks.proofs.Retelling.{parts_retell}
use Rattle.slub_picks.proofs.laws.parts_say_turns.Goals as goal

pub returns : goal.returns
returns c = parts_retell
