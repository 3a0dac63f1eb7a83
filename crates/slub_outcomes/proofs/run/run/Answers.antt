use Rattle.slub_outcomes.proofs.Endings.{written}
use Rattle.slub_outcomes.proofs.run.run.Goals as goal

pub returns-clause-run : goal.returns-clause-run
returns-clause-run g c = written _ _ _ _ _ _ c.finish.result c.work-end.ensures.ends c.finish.ensures
