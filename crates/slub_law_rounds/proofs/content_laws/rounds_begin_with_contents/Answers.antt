use Rattle.slub_law_rounds.proofs.Turns.{rounds_begin}
use Rattle.slub_law_rounds.proofs.content_laws.rounds_begin_with_contents.Goals as goal

pub returns : goal.returns
returns c = rounds_begin
