use Rattle.slub_law_words.proofs.Steps.{workers_go_on}
use Rattle.slub_law_words.proofs.laws.workers_go_on.Goals as goal

pub returns : goal.returns
returns c = workers_go_on
