use Rattle.std.proofs.Common.{◌≡◌, [], length, get_or, ap, sym, subst, arith}
use Rattle.std.proofs.lemmas.Grind.{common_steps}
use Rattle.slub_lists.specs.Alloc.{own_free}
use Rattle.slub_lists.specs.Coherent.{IsConsistent}
use Rattle.slub_lists.proofs.Freeing.{own-room, own-consistent}
use Rattle.slub_lists.proofs.Taking.{cache-within}
use Rattle.slub_list_machine.proofs.lists.Lists.free_own.Goals as goal

pub take_off-requires-clause-cache : goal.take_off-requires-clause-cache
take_off-requires-clause-cache c =
    omega (arith, cache-within c.args.self.now c.args.object c.args.held.now c.requires.consistent c.requires.held, c.requires.consistent.shaped.live)

-- the slab's own freelist lacks the object, so there is room for it
pub push-requires-clause-room : goal.push-requires-clause-room
push-requires-clause-room c =
    let now : get_or c.self.inside.frees c.args.held.now.frame [] ≡ own_free c.args.self.now c.args.held.now.frame = grind (arith, common_steps) in
    let room = own-room c.args.self.now c.args.object c.args.held.now c.requires.consistent c.requires.held in
    omega (arith, ap length now, room)

pub returns-clause-freed : goal.returns-clause-freed
returns-clause-freed c = grind (arith, common_steps)

pub returns-clause-consistent : goal.returns-clause-consistent
returns-clause-consistent c =
    subst IsConsistent (sym (returns-clause-freed c))
    (own-consistent c.args.self.now c.args.object c.args.held.now c.requires.consistent c.requires.held c.requires.unchecked)
