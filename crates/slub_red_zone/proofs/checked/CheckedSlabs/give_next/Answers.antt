use Rattle.std.proofs.Common.{◌∙◌, ◌==◌, if◌then◌else◌, drop, length, sym, subst, ap, arith, refl}
use Rattle.slub_red_zone.specs.State.{CheckedState, slab_at}
use Rattle.slub_red_zone.specs.Steps.{IsNext, with_given}
use Rattle.slub_red_zone.proofs.Given.{next-object, next-inside, next-frame, next-some, given-kept}
use Rattle.slub_red_zone.proofs.Sums.{kept-small, same-state, slab_at-set, kept-same}
use Rattle.slub_red_zone.proofs.checked.CheckedSlabs.give_next.Goals as goal

pub give-requires-clause-object : goal.give-requires-clause-object
give-requires-clause-object c =
    let P : CheckedState → Type 0 = λ s. IsNext s c.args.slot in
    let next = subst P (sym c.self.view_is) c.requires.next in
    next-object _ c.args.slot c.self.invariant.sound next

pub give-requires-clause-inside : goal.give-requires-clause-inside
give-requires-clause-inside c =
    let P : CheckedState → Type 0 = λ s. IsNext s c.args.slot in
    let next = subst P (sym c.self.view_is) c.requires.next in
    next-inside _ c.args.slot c.self.invariant.sound next

pub overflow_add-self : goal.overflow_add-self
overflow_add-self c = omega (arith, kept-small c.self.invariant)

pub overflow_sub-self : goal.overflow_sub-self
overflow_sub-self c =
    let P : CheckedState → Type 0 = λ s. IsNext s c.args.slot in
    let next = subst P (sym c.self.view_is) c.requires.next in
    omega (arith, next-some _ c.args.slot c.self.invariant.sound next c.self.invariant)

pub invariant_of-self : goal.invariant_of-self
invariant_of-self c =
    let P : CheckedState → Type 0 = λ s. IsNext s c.args.slot in
    let next = subst P (sym c.self.view_is) c.requires.next in
    let here = next-frame _ c.args.slot c.self.invariant.sound next in
    let free = c.free_in-free.ensures ∙ ap (λ slabs. length (slab_at slabs c.args.slot.frame).free) (c.deref.ensures.value ∙ c.give.ensures.slabs) ∙ ap (λ slab. length slab.free) (slab_at-set _ c.args.slot.frame _ here) in
    let listed = c.unlist_spent.ensures.frames ∙ ap (λ n. if n == 0 then drop 1 c.self.inside.listed.frames else c.self.inside.listed.frames) free in
    kept-same (same-state c.give.ensures.slabs listed refl) c.unlist_spent.ensures.room (omega arith) (omega arith) (given-kept _ c.args.slot c.self.invariant.sound next c.give.ensures.bytes c.self.invariant)

pub returns-clause-sound : goal.returns-clause-sound
returns-clause-sound c = (invariant_of-self c).sound

pub returns-clause-given : goal.returns-clause-given
returns-clause-given c =
    let P : CheckedState → Type 0 = λ s. IsNext s c.args.slot in
    let next = subst P (sym c.self.view_is) c.requires.next in
    let here = next-frame _ c.args.slot c.self.invariant.sound next in
    let free = c.free_in-free.ensures ∙ ap (λ slabs. length (slab_at slabs c.args.slot.frame).free) (c.deref.ensures.value ∙ c.give.ensures.slabs) ∙ ap (λ slab. length slab.free) (slab_at-set _ c.args.slot.frame _ here) in
    let listed = c.unlist_spent.ensures.frames ∙ ap (λ n. if n == 0 then drop 1 c.self.inside.listed.frames else c.self.inside.listed.frames) free in
    same-state c.give.ensures.slabs listed refl ∙ ap (λ s. with_given s c.args.slot) c.self.view_is
