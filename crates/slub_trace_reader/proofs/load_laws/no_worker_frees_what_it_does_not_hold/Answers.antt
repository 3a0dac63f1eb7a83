use Rattle.slub_trace_reader.proofs.LoadFronts.{front_own}
use Rattle.slub_trace_reader.proofs.load_laws.no_worker_frees_what_it_does_not_hold.Goals as goal

pub returns : goal.returns
returns c = λ worker done. front_own c.args.seed c.args.events c.args.workers worker done
