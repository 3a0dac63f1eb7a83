use Rattle.slub_lists.specs.State.{State}
use Rattle.slub_lists.specs.Alloc.{AllocatesNew, Gives, stocked}
use Rattle.slub_lists.proofs.Giving.{MatchResult-bare}
use Rattle.slub_list_machine.proofs.lists.Lists.alloc.Goals as goal

-- where no slab has a free object, a new one is asked for
pub returns-else-stock-clause-allocates : goal.returns-else-stock-clause-allocates
returns-else-stock-clause-allocates c =
    let s = c.args.self.now in
    let layout = c.args.layout.now in
    MatchResult-bare (stocked s layout c.args.cache c.args.cpu) c.stock.new.self
    (λ (t : State). Gives t layout c.args.cache c.args.cpu c.args.worker c.args.object c.alloc_new.result c.alloc_new.new.self)
    (λ (t : State). AllocatesNew t layout c.args.cache c.args.cpu c.args.worker c.args.object c.alloc_new.result c.alloc_new.new.self)
    c.if-stock.ensures.cases c.alloc_new.ensures.allocates
