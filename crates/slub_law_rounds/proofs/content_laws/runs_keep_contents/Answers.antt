use Rattle.slub_law_rounds.proofs.Turns.{run_keeps}
use Rattle.slub_law_rounds.proofs.content_laws.runs_keep_contents.Goals as goal

pub returns : goal.returns
returns c = run_keeps
