use Rattle.slub_trace_reader.proofs.LoadFronts.{load_own}
use Rattle.slub_trace_reader.proofs.load_laws.each_worker_frees_what_it_allocated.Goals as goal

pub returns : goal.returns
returns c = λ worker low. load_own c.args.seed c.args.events c.args.workers worker low
