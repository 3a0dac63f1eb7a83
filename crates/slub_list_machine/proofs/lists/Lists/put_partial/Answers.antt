use Rattle.std.proofs.Common.{◌∙◌, ap, arith}
use Rattle.slub_lists.specs.State.{State}
use Rattle.slub_lists.specs.Free.{drained}
use Rattle.slub_lists.proofs.Moving.{drained-cpus, listable-at, listable-drained}
use Rattle.slub_list_machine.proofs.lists.Lists.put_partial.Goals as goal

pub push_partial-requires-clause-cpu : goal.push_partial-requires-clause-cpu
push_partial-requires-clause-cpu c =
    omega (arith, c.requires.cpu, ap (λ (t : State). t.cpus) c.drain.ensures.drained ∙ drained-cpus c.args.self.now c.args.layout.now c.args.cache c.args.cpu)

-- the slab stays as it is while the set is moved
pub push_partial-requires-clause-listable : goal.push_partial-requires-clause-listable
push_partial-requires-clause-listable c =
    listable-at (drained c.args.self.now c.args.layout.now c.args.cache c.args.cpu) c.drain.new.self c.args.cache c.args.frame c.drain.ensures.drained
    (listable-drained c.args.self.now c.args.layout.now c.args.cache c.args.cpu c.args.frame c.requires.consistent c.requires.cache c.requires.cpu c.requires.listable)
