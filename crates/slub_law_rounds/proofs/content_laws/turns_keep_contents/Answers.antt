use Rattle.slub_law_rounds.proofs.Turns.{turn_keeps}
use Rattle.slub_law_rounds.proofs.content_laws.turns_keep_contents.Goals as goal

pub returns : goal.returns
returns c = turn_keeps
