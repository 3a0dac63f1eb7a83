use Rattle.std.proofs.lemmas.Grind.{common_steps}
use Rattle.std.proofs.Common.{◌≡◌, [], length, get_or, ap, sym, subst, arith}
use Rattle.slub_lists.specs.declared.lists.CpuLists.{CpuLists}
use Rattle.slub_lists.specs.Alloc.{lists_of, own_free}
use Rattle.slub_lists.specs.Coherent.{IsConsistent}
use Rattle.slub_lists.proofs.Flushing.{down-consistent, joined-room, slot}
use Rattle.slub_list_machine.proofs.lists.Lists.take_down.Goals as goal

pub set_frozen-requires : goal.set_frozen-requires
set_frozen-requires c = slot c.args.self.now c.args.cache c.args.cpu c.requires.consistent c.requires.cache c.requires.cpu c.args.frame c.requires.current

pub take_before-requires-clause-room : goal.take_before-requires-clause-room
take_before-requires-clause-room c =
    let free : c.index_mut-lists.result.now ≡ lists_of c.args.self.now c.args.cache c.args.cpu = grind (arith, common_steps) in
    let own : get_or c.self.inside.frees c.args.frame [] ≡ own_free c.args.self.now c.args.frame = grind (arith, common_steps) in
    let room = joined-room c.args.self.now c.args.cache c.args.cpu c.requires.consistent c.requires.cache c.requires.cpu c.args.frame c.requires.current in
    omega (arith, ap (λ (l : CpuLists). length l.free) free, ap length own, room)

pub returns-clause-taken : goal.returns-clause-taken
returns-clause-taken c = grind (arith, common_steps)

pub returns-clause-consistent : goal.returns-clause-consistent
returns-clause-consistent c =
    subst IsConsistent (sym (returns-clause-taken c)) (down-consistent c.args.self.now c.args.cache c.args.cpu c.requires.consistent c.requires.cache c.requires.cpu c.args.frame c.requires.current c.requires.unchecked)
