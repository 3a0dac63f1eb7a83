use Rattle.std.proofs.Common.{◌≡◌, ◌∙◌, Some, ap, arith, nat_lt}
use Rattle.std.specs.Prelude.{is_some}
use Rattle.std.proofs.lemmas.Grind.{common_steps}
use Rattle.slub_red_zone.specs.declared.checked.Slot.{Slot}
use Rattle.slub_red_zone.specs.State.{objects_in, state_of, slab_of as checked_slab}
use Rattle.slub_lists.specs.Alloc.{checked_of}
use Rattle.slub_lists.specs.Checked.{slot_of_held}
use Rattle.slub_lists.proofs.CheckedReplies.{of-slabs}
use Rattle.slub_lists.proofs.ObjectWords.{object-there}
use Rattle.slub_list_machine.proofs.lists.Lists.has_object.Goals as goal

-- an object is there where its index is below the slab's number of objects
pub returns : goal.returns
returns c =
    let was : checked_of c.args.self.now c.args.held.now.cache ≡ Some c.in-Some.slabs = grind (arith, common_steps) in
    let answer : c.is_some.result ≡ is_some c.state.result = c.is_some.ensures in
    let state : c.state.result ≡ state_of c.in-Some.slabs (slot_of_held c.args.held.now) = c.state.ensures.state ∙ ap (λ (slot : Slot). state_of c.in-Some.slabs slot) c.slot_of.ensures in
    of-slabs (checked_of c.args.self.now c.args.held.now.cache) c.in-Some.slabs (λ slabs. c.is_some.result ≡ nat_lt c.args.held.now.index (objects_in (checked_slab slabs c.args.held.now.frame))) was
    (answer ∙ ap is_some state ∙ object-there (checked_slab c.in-Some.slabs c.args.held.now.frame).states c.args.held.now.index)
