use Rattle.std.proofs.Common.{length, None, ap, arith, length-set}
use Rattle.slub_lists.specs.State.{State}
use Rattle.slub_lists.specs.Alloc.{own_free}
use Rattle.slub_lists.specs.Free.{with_freed, with_taken}
use Rattle.slub_lists.proofs.Taking.{on-board}
use Rattle.slub_lists.proofs.KeepsFreed.{same_settled}
use Rattle.slub_lists.proofs.Freeing.{index-most}
use Rattle.slub_list_machine.proofs.lists.Lists.free_unchecked.Goals as goal
use Rattle.slub_list_machine.proofs.lists.Lists.free_unchecked.Goals.{then-is_current, else-is_current}

-- the object is one of a slab of its cache
pub address-requires-clause-index : goal.address-requires-clause-index
address-requires-clause-index c =
    omega (arith, c.from-2.ensures, index-most c.args.self.now c.args.object c.args.held.now c.requires.consistent c.requires.held c.args.layout.now c.requires.live)

-- the board is as long as before
pub note_gone-requires-clause-object : goal.note_gone-requires-clause-object
note_gone-requires-clause-object c =
    let s = c.args.self.now in
    let held = c.args.held.now in
    let slot = on-board s c.args.object held c.requires.consistent c.requires.held in
    let taken : State = with_taken s c.args.object held.cache in
    let same = length-set s.board c.args.object None in
    elim c.if-is_current.branch [
      | then-is_current w ↦ omega (arith, slot, same, ap (λ (m : State). length m.board) w.self-is, ap (λ (m : State). length m.board) w.free_here.ensures.freed)
      | else-is_current w ↦
          let settled = same_settled (with_freed taken held.frame held.index) c.args.layout.now held.cache c.args.cpu held.frame (own_free taken held.frame) in
          omega (arith, slot, same, ap (λ (m : State). length m.board) w.self-is, ap (λ (m : State). length m.board) w.free_there.ensures.freed, ap length settled.4)
    ]
