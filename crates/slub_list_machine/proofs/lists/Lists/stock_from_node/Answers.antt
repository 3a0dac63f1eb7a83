use Rattle.slub_lists.proofs.Coherence.{stocked-node}
use Rattle.slub_list_machine.proofs.lists.Lists.stock_from_node.Goals as goal

pub returns-clause-cases : goal.returns-clause-cases
returns-clause-cases c =
    stocked-node c.args.self.now c.args.cache c.args.cpu c.requires.consistent c.requires.cache c.requires.cpu c.args.batch c.in-Some.frame c.pop_node.new.self c.take_up.new.self c.in-Some.ensures.popped c.take_up.ensures.taken
