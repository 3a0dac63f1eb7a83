use Rattle.std.proofs.Common.{sym, subst}
use Rattle.slub_lists.specs.State.{State}
use Rattle.slub_lists.specs.Shrinking.{KeepsChecked}
use Rattle.slub_lists.proofs.Flushing.{rest-flushed}
use Rattle.slub_list_machine.proofs.lists.Lists.flush_of.Goals as goal

pub returns-clause-rest : goal.returns-clause-rest
returns-clause-rest c =
    subst (λ (t : State). KeepsChecked c.args.self.now t) (sym c.flush_cache.ensures.flushed) (rest-flushed c.layout.result.now.min_partial c.args.cache c.args.self.now c.args.cpu)
