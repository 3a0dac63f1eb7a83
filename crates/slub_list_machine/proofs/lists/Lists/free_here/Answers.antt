use Rattle.std.proofs.Common.{◌≡◌, length, ap, sym, subst, arith, lit<}
use Rattle.std.proofs.lemmas.Grind.{common_steps}
use Rattle.slub_lists.specs.declared.lists.CpuLists.{CpuLists}
use Rattle.slub_lists.specs.Alloc.{lists_of}
use Rattle.slub_lists.specs.Coherent.{IsConsistent}
use Rattle.slub_lists.proofs.Freeing.{cpu-room, here-consistent}
use Rattle.slub_list_machine.proofs.lists.Lists.free_here.Goals as goal

-- the CPU freelist lacks the object, so there is room for it
pub push-requires : goal.push-requires
push-requires c =
    let now : c.index_mut.result.now ≡ lists_of c.args.self.now c.args.held.now.cache c.args.cpu = grind (arith, common_steps) in
    let room = cpu-room c.args.self.now c.args.object c.args.held.now c.requires.consistent c.requires.held c.args.cpu c.requires.cpu c.requires.current in
    (lit< tt, omega (arith, ap (λ (l : CpuLists). length l.free) now, room))

pub returns-clause-freed : goal.returns-clause-freed
returns-clause-freed c = grind (arith, common_steps)

pub returns-clause-consistent : goal.returns-clause-consistent
returns-clause-consistent c =
    subst IsConsistent (sym (returns-clause-freed c))
    (here-consistent c.args.self.now c.args.object c.args.held.now c.requires.consistent c.requires.held c.args.cpu c.requires.cpu c.requires.current)
