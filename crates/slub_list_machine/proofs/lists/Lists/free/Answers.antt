use Rattle.slub_lists.proofs.Kept.{coherent-of}
use Rattle.slub_lists.proofs.KeepsFreed.{frees_keeps}
use Rattle.slub_lists.proofs.KeptFreed.{frees-kept}
use Rattle.slub_list_machine.proofs.lists.Lists.free.Goals as goal

pub returns-clause-others : goal.returns-clause-others
returns-clause-others c = frees_keeps c.args.self.now _ c.args.cpu c.args.worker c.args.object c.free_number.result c.free_number.ensures.frees c.free_number.ensures.found

pub returns-clause-coherent : goal.returns-clause-coherent
returns-clause-coherent c =
    coherent-of _ c.free_number.ensures.consistent
    (frees-kept c.args.self.now _ c.args.cpu c.args.worker c.args.object c.free_number.result c.requires.coherent c.requires.cpu c.free_number.ensures.frees)
