use Rattle.std.proofs.Common.{◌≡◌, ap, sym, subst, arith}
use Rattle.std.proofs.lemmas.Grind.{common_steps}
use Rattle.slub_common.specs.Times.{times}
use Rattle.slub_lists.specs.Coherent.{IsConsistent}
use Rattle.slub_lists.specs.Alloc.{node_of}
use Rattle.slub_lists.proofs.Listed.{node-counted}
use Rattle.slub_lists.proofs.Moving.{removed-consistent}
use Rattle.slub_list_machine.proofs.lists.Lists.remove_from_node.Goals as goal

-- each slab is on one list at most
pub remove-requires : goal.remove-requires
remove-requires c =
    let now : c.index_mut.result.now ≡ node_of c.args.self.now c.args.cache = grind (arith, common_steps) in
    omega (arith, ap (times c.args.frame) now, node-counted c.args.self.now c.args.frame c.args.cache, c.requires.consistent.listed.once c.args.frame)

pub returns-clause-removed : goal.returns-clause-removed
returns-clause-removed c = grind (arith, common_steps)

pub returns-clause-consistent : goal.returns-clause-consistent
returns-clause-consistent c =
    subst IsConsistent (sym (returns-clause-removed c)) (removed-consistent c.args.self.now c.args.cache c.requires.consistent c.requires.cache c.args.frame)
