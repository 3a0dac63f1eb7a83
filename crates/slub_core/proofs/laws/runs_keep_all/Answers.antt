use Rattle.slub_core.proofs.Turns.{run_keeps}
use Rattle.slub_core.proofs.laws.runs_keep_all.Goals as goal

pub returns : goal.returns
returns c = run_keeps
