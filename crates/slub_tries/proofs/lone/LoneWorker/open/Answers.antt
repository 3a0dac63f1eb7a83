use Rattle.std.proofs.Common.{sym, subst}
use Rattle.slub_workers.specs.Begun.{Begun}
use Rattle.slub_tries.specs.Begun.{OpensInto}
use Rattle.slub_tries.proofs.lone.LoneWorker.open.Goals as goal

pub returns-clause-opens : goal.returns-clause-opens
returns-clause-opens c = subst (λ (key : Begun). OpensInto c.args.lists c.args.ids.now c.args.round.now key) (sym c.in_ok-shared.ensures.key) c.in_ok-machine.ensures.opens
