use Rattle.slub_lists.proofs.Keeps.{named_keeps}
use Rattle.slub_lists.proofs.Kept.{coherent-of, consistent-of, kept-allocated}
use Rattle.slub_list_machine.proofs.lists.Lists.alloc_named.Goals as goal

pub alloc_by_name-requires-clause-consistent : goal.alloc_by_name-requires-clause-consistent
alloc_by_name-requires-clause-consistent c = consistent-of c.args.self.now c.requires.coherent

pub returns-clause-others : goal.returns-clause-others
returns-clause-others c =
    named_keeps c.args.self.now c.args.place c.args.cpu c.args.worker c.args.object c.alloc_by_name.result _ c.alloc_by_name.ensures.allocates c.alloc_by_name.ensures.found

pub returns-clause-coherent : goal.returns-clause-coherent
returns-clause-coherent c =
    coherent-of _ c.alloc_by_name.ensures.consistent
    (kept-allocated c.args.self.now c.args.place c.args.cpu c.args.worker c.args.object c.alloc_by_name.result _ c.requires.coherent.shaped c.requires.cpu c.requires.coherent.kept c.alloc_by_name.ensures.allocates)
