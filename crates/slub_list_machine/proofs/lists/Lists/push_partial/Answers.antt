use Rattle.std.proofs.Common.{◌≡◌, length, ap, sym, subst, arith, lit<}
use Rattle.std.proofs.lemmas.Grind.{common_steps}
use Rattle.slub_lists.specs.declared.lists.CpuLists.{CpuLists}
use Rattle.slub_lists.specs.Alloc.{lists_of}
use Rattle.slub_lists.specs.Coherent.{IsConsistent}
use Rattle.slub_lists.proofs.Moving.{partial-room, pushed-partial}
use Rattle.slub_list_machine.proofs.lists.Lists.push_partial.Goals as goal

-- the slab isn't on the list, so there is room for it
pub push-requires : goal.push-requires
push-requires c =
    let now : c.index_mut.result.now ≡ lists_of c.args.self.now c.args.cache c.args.cpu = grind (arith, common_steps) in
    let room = partial-room c.args.self.now c.args.cache c.args.cpu c.requires.consistent c.requires.cache c.requires.cpu c.args.frame c.requires.listable in
    (lit< tt, omega (arith, ap (λ (l : CpuLists). length l.partial) now, room))

pub returns-clause-pushed : goal.returns-clause-pushed
returns-clause-pushed c = grind (arith, common_steps)

pub returns-clause-consistent : goal.returns-clause-consistent
returns-clause-consistent c =
    subst IsConsistent (sym (returns-clause-pushed c))
    (pushed-partial c.args.self.now c.args.cache c.args.cpu c.requires.consistent c.requires.cache c.requires.cpu c.args.frame c.requires.listable)
