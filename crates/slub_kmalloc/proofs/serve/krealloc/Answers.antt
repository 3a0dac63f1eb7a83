use Rattle.slub_rounds.proofs.Staying.{stays-same}
use Rattle.slub_kmalloc.proofs.serve.krealloc.Goals as goal

pub returns-in-None-clause-stays : goal.returns-in-None-clause-stays
returns-in-None-clause-stays c = stays-same c.args.heap c.args.trace.now 1
