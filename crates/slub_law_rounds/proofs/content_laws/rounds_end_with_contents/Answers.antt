use Rattle.slub_law_rounds.proofs.Turns.{rounds_end}
use Rattle.slub_law_rounds.proofs.content_laws.rounds_end_with_contents.Goals as goal

pub returns : goal.returns
returns c = rounds_end
