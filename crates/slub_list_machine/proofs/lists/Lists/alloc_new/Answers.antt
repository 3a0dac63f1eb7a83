use Rattle.std.proofs.Common.{Some, subst}
use Rattle.slub_lists.specs.State.{State}
use Rattle.slub_trace.specs.declared.reply.Reply.TheVariants.{Given}
use Rattle.slub_lists.specs.Alloc.{Gives}
use Rattle.slub_list_machine.proofs.lists.Lists.alloc_new.Goals as goal

-- the run that was found gives the object
pub returns-then-new_slab-clause-allocates : goal.returns-then-new_slab-clause-allocates
returns-then-new_slab-clause-allocates c =
    let made = c.if-new_slab.ensures.made in (
      Some made.0,
      made.1,
      made.2,
      subst (λ (t : State). Gives t c.args.layout.now c.args.cache c.args.cpu c.args.worker c.args.object (Given c.give.result) c.give.new.self) made.3 c.give.ensures.gives,
    )
