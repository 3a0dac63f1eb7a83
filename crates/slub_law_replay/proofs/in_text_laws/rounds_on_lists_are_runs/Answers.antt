use Rattle.slub_law_replay.proofs.OnLists.{lists-run}
use Rattle.slub_law_replay.proofs.in_text_laws.rounds_on_lists_are_runs.Goals as goal

pub returns : goal.returns
returns c = lists-run
