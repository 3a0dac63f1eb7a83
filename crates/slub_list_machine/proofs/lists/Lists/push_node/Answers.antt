use Rattle.std.proofs.Common.{◌≡◌, length, ap, sym, subst, arith}
use Rattle.std.proofs.lemmas.Grind.{common_steps}
use Rattle.slub_lists.specs.Alloc.{node_of}
use Rattle.slub_lists.specs.Coherent.{IsConsistent}
use Rattle.slub_lists.proofs.Moving.{node-room, pushed-node}
use Rattle.slub_list_machine.proofs.lists.Lists.push_node.Goals as goal

-- the slab isn't on the list, so there is room for it
pub push_tail-requires : goal.push_tail-requires
push_tail-requires c =
    let now : c.index_mut.result.now ≡ node_of c.args.self.now c.args.cache = grind (arith, common_steps) in
    let room = node-room c.args.self.now c.args.cache 0 c.requires.consistent c.requires.cache (omega (arith, c.requires.consistent.shaped.cpus.0)) c.args.frame c.requires.listable in
    omega (arith, ap length now, room)

pub returns-clause-pushed : goal.returns-clause-pushed
returns-clause-pushed c = grind (arith, common_steps)

pub returns-clause-consistent : goal.returns-clause-consistent
returns-clause-consistent c =
    subst IsConsistent (sym (returns-clause-pushed c))
    (pushed-node c.args.self.now c.args.cache 0 c.requires.consistent c.requires.cache (omega (arith, c.requires.consistent.shaped.cpus.0)) c.args.frame c.requires.listable)
