use Rattle.std.proofs.Common.{◌∙◌, ◌<◌, length, set, Some, sym, subst, ap, arith}
use Rattle.slub_red_zone.specs.State.{SlabState, CheckedState, Has}
use Rattle.slub_object_layout.specs.Layout.{IsSized}
use Rattle.slub_red_zone.specs.Steps.{with_new_slab}
use Rattle.slub_red_zone.proofs.Comings.{objects-few, room-on-list, new-kept}
use Rattle.slub_red_zone.proofs.Sums.{kept-small, same-state, kept-same}
use Rattle.slub_red_zone.specs.Objects.{AddsSlab}
use Rattle.slub_red_zone.proofs.Objects.{at_equal, adds-slab}
use Rattle.slub_red_zone.proofs.checked.CheckedSlabs.add_slab.Goals as goal

pub overflow_add-room : goal.overflow_add-room
overflow_add-room c = omega (arith, kept-small c.self.invariant)

pub overflow_add-room-2 : goal.overflow_add-room-2
overflow_add-room-2 c = omega (arith, kept-small c.self.invariant)

pub overflow_add-room-3 : goal.overflow_add-room-3
overflow_add-room-3 c =
    let N : CheckedState → Type 0 = λ s. ¬ Has s c.args.run.frame in
    let S : CheckedState → Type 0 = λ s. IsSized s.layout c.args.run.order c.args.objects in
    let few = objects-few _ c.args.run c.args.objects c.self.invariant.sound (subst N (sym c.self.view_is) c.requires.new) c.requires.frame.0 c.requires.frame.1 (subst S (sym c.self.view_is) c.requires.sized) in
    omega (arith, kept-small c.self.invariant, few)

pub reserve-requires : goal.reserve-requires
reserve-requires c =
    let N : CheckedState → Type 0 = λ s. ¬ Has s c.args.run.frame in
    let S : CheckedState → Type 0 = λ s. IsSized s.layout c.args.run.order c.args.objects in
    let few = objects-few _ c.args.run c.args.objects c.self.invariant.sound (subst N (sym c.self.view_is) c.requires.new) c.requires.frame.0 c.requires.frame.1 (subst S (sym c.self.view_is) c.requires.sized) in
    omega (arith, kept-small c.self.invariant, few)

pub push_head-requires : goal.push_head-requires
push_head-requires c =
    let N : CheckedState → Type 0 = λ s. ¬ Has s c.args.run.frame in
    let S : CheckedState → Type 0 = λ s. IsSized s.layout c.args.run.order c.args.objects in
    let room = room-on-list _ c.args.run c.args.objects c.self.invariant.sound (subst N (sym c.self.view_is) c.requires.new) c.requires.frame.0 c.requires.frame.1 (subst S (sym c.self.view_is) c.requires.sized) in
    omega (arith, room, c.self.invariant.list_room)

pub overflow_add-self : goal.overflow_add-self
overflow_add-self c =
    let N : CheckedState → Type 0 = λ s. ¬ Has s c.args.run.frame in
    let S : CheckedState → Type 0 = λ s. IsSized s.layout c.args.run.order c.args.objects in
    let few = objects-few _ c.args.run c.args.objects c.self.invariant.sound (subst N (sym c.self.view_is) c.requires.new) c.requires.frame.0 c.requires.frame.1 (subst S (sym c.self.view_is) c.requires.sized) in
    omega (arith, kept-small c.self.invariant, few)

pub invariant_of-self-2 : goal.invariant_of-self-2
invariant_of-self-2 c =
    let N : CheckedState → Type 0 = λ s. ¬ Has s c.args.run.frame in
    let S : CheckedState → Type 0 = λ s. IsSized s.layout c.args.run.order c.args.objects in
    let new = c.in_ok-slab.ensures.slab in
    let slabs = ap (λ (slab : SlabState). set c.self.inside.slabs.items c.args.run.frame (Some slab)) new in
    let whole = sym (ap (λ (slab : SlabState). length slab.bytes) new) ∙ c.in_ok-slab.ensures.bytes in
    kept-same (same-state slabs c.push_head.ensures.frames c.reserve.ensures.items) c.push_head.ensures.room (omega arith) (omega arith)
    (new-kept _ c.args.run c.args.objects c.self.invariant.sound (subst N (sym c.self.view_is) c.requires.new) c.requires.frame.0 c.requires.frame.1 (subst S (sym c.self.view_is) c.requires.sized) whole c.self.invariant c.in_ok-reserve.ensures.room)

pub returns-clause-sound : goal.returns-clause-sound
returns-clause-sound c = (invariant_of-self-2 c).sound

pub returns-clause-added : goal.returns-clause-added
returns-clause-added c =
    let slabs = ap (λ (slab : SlabState). set c.self.inside.slabs.items c.args.run.frame (Some slab)) c.in_ok-slab.ensures.slab in
    same-state slabs c.push_head.ensures.frames c.reserve.ensures.items ∙ ap (λ s. with_new_slab s c.args.run c.args.objects) c.self.view_is

pub returns-clause-slab : goal.returns-clause-slab
returns-clause-slab c =
    let P : CheckedState → CheckedState → Type 0 = λ s after. AddsSlab s c.args.run c.args.objects after in
    let slabs = ap (λ (slab : SlabState). set c.self.inside.slabs.items c.args.run.frame (Some slab)) c.in_ok-slab.ensures.slab in
    let inside : c.args.run.frame < length c.self.inside.slabs.items = omega (arith, c.requires.frame.1, c.self.invariant.sound.frames) in
    at_equal P c.self.view_is (same-state slabs c.push_head.ensures.frames c.reserve.ensures.items) (adds-slab _ c.args.run c.args.objects inside)
