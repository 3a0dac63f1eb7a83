use Rattle.std.proofs.Common.{vec_capacity, ◌++◌, ℕ, ◌-◌, ◌+◌, [], ◌∷◌, ◌∙◌, length, sym, subst, ap, arith}
use Rattle.slub_red_zone.specs.State.{CheckedState, slab_at}
use Rattle.slub_red_zone.specs.Steps.{IsNext, with_damaged}
use Rattle.slub_red_zone.specs.Kept.{IsKept}
use Rattle.slub_red_zone.proofs.Given.{next-slab, next-of-layout, next-some, damaged-kept}
use Rattle.slub_red_zone.proofs.Sums.{kept-small, same-state, kept-same}
use Rattle.slub_red_zone.proofs.checked.CheckedSlabs.set_aside_next.Goals as goal

pub address-requires-clause-index : goal.address-requires-clause-index
address-requires-clause-index c =
    let P : CheckedState → Type 0 = λ s. IsNext s c.args.slot in
    let next = subst P (sym c.self.view_is) c.requires.next in
    next-of-layout _ c.args.slot c.self.invariant.sound next

pub push_reserved-requires : goal.push_reserved-requires
push_reserved-requires c =
    let P : CheckedState → Type 0 = λ s. IsNext s c.args.slot in
    let next = subst P (sym c.self.view_is) c.requires.next in
    omega (arith, next-some _ c.args.slot c.self.invariant.sound next c.self.invariant, c.self.invariant.reports_room, c.self.invariant.sound.reported, c.self.invariant.are_totals)

pub set_aside-requires-clause-free : goal.set_aside-requires-clause-free
set_aside-requires-clause-free c =
    let P : CheckedState → Type 0 = λ s. IsNext s c.args.slot in
    let next = subst P (sym c.self.view_is) c.requires.next in
    (next-slab _ c.args.slot c.self.invariant.sound next).free

pub set_aside-requires-clause-some : goal.set_aside-requires-clause-some
set_aside-requires-clause-some c =
    let P : CheckedState → Type 0 = λ s. IsNext s c.args.slot in
    let next = subst P (sym c.self.view_is) c.requires.next in
    (next-some _ c.args.slot c.self.invariant.sound next c.self.invariant).1

pub overflow_sub-self : goal.overflow_sub-self
overflow_sub-self c =
    let P : CheckedState → Type 0 = λ s. IsNext s c.args.slot in
    let next = subst P (sym c.self.view_is) c.requires.next in
    let count = c.free_in-count.ensures ∙ ap (λ slabs. length (slab_at slabs c.args.slot.frame).free) c.deref.ensures.value in
    omega (arith, count, next-some _ c.args.slot c.self.invariant.sound next c.self.invariant)

pub overflow_add-self : goal.overflow_add-self
overflow_add-self c =
    let P : CheckedState → Type 0 = λ s. IsNext s c.args.slot in
    let next = subst P (sym c.self.view_is) c.requires.next in
    let count = c.free_in-count.ensures ∙ ap (λ slabs. length (slab_at slabs c.args.slot.frame).free) c.deref.ensures.value in
    omega (arith, kept-small c.self.invariant, count, next-some _ c.args.slot c.self.invariant.sound next c.self.invariant)

pub invariant_of-self : goal.invariant_of-self
invariant_of-self c =
    let P : CheckedState → Type 0 = λ s. IsNext s c.args.slot in
    let next = subst P (sym c.self.view_is) c.requires.next in
    let count = c.free_in-count.ensures ∙ ap (λ slabs. length (slab_at slabs c.args.slot.frame).free) c.deref.ensures.value in
    let P : ℕ → Type 0 = λ n. IsKept (record { layout = c.self.inside.layout; flags = c.self.inside.flags; cache = c.self.inside.cache; slabs = c.set_aside.new.slabs.items; listed = c.unlist_spent.new.listed.frames; reports = c.push_reserved.new.self.items }) (record { free = c.self.inside.totals.free - n; used = c.self.inside.totals.used; aside = c.self.inside.totals.aside + n; slabs = c.self.inside.totals.slabs }) c.unlist_spent.new.listed.room (vec_capacity c.self.inside.counts) (vec_capacity c.push_reserved.new.self) in
    let reports = c.push_reserved.ensures.items ∙ ap (λ a. c.self.inside.reports.items ++ record { cache = c.self.inside.cache; address = a; damage = c.args.damage } ∷ []) c.address.ensures in
    subst P (sym count)
    (kept-same (same-state c.set_aside.ensures c.unlist_spent.ensures.frames reports) c.unlist_spent.ensures.room (omega arith) (omega (arith, c.push_reserved.ensures)) (damaged-kept _ c.args.slot c.self.invariant.sound next c.args.damage c.self.invariant))

pub returns : goal.returns
returns c =
    let reports = c.push_reserved.ensures.items ∙ ap (λ a. c.self.inside.reports.items ++ record { cache = c.self.inside.cache; address = a; damage = c.args.damage } ∷ []) c.address.ensures in
    same-state c.set_aside.ensures c.unlist_spent.ensures.frames reports ∙ ap (λ s. with_damaged s c.args.slot c.args.damage) c.self.view_is
