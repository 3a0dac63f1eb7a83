use Rattle.slub_red_zone.specs.Kept.{IsKept}
use Rattle.std.proofs.Common.{vec_capacity, set, ◌∙◌, ◌≤◌, ◌-◌, ℕ, length, None, get_or, sym, subst, ap, arith, refl}
use Rattle.slub_red_zone.specs.State.{SlabState, objects_in}
use Rattle.slub_red_zone.proofs.Comings.{slab-is, all-free-there, listed-once, listed-there, taken-out, gone-kept, slabs-counted}
use Rattle.slub_red_zone.proofs.Sums.{same-state, kept-same}
use Rattle.slub_red_zone.specs.Sound.{IsSound}
use Rattle.slub_red_zone.proofs.Objects.{takes-slab}
use Rattle.slub_red_zone.proofs.checked.CheckedSlabs.take_empty.Goals as goal

pub overflow_sub-self-2 : goal.overflow_sub-self-2
overflow_sub-self-2 c =
    let there = sym (ap (λ slabs. get_or slabs c.args.frame None) c.deref.ensures.value) ∙ c.in_ok-slab.ensures in
    let f = ap length c.free.ensures in
    slabs-counted _ c.args.frame c.in_ok-slab.slab.now c.self.invariant.sound there (omega (arith, c.if-free-objects.false, c.objects-objects.ensures, f)) c.self.invariant

pub invariant_of-self : goal.invariant_of-self
invariant_of-self c =
    let there = sym (ap (λ slabs. get_or slabs c.args.frame None) c.deref.ensures.value) ∙ c.in_ok-slab.ensures in
    let f = ap length c.free.ensures in
    let all : objects_in c.in_ok-slab.slab.now ≤ length c.in_ok-slab.slab.now.free = omega (arith, c.if-free-objects.false, c.objects-objects.ensures, f) in
    let once = listed-once _ c.args.frame c.in_ok-slab.slab.now c.self.invariant.sound there all in
    let out = c.remove.ensures.taken (c.remove.ensures.there.1 (listed-there _ c.args.frame c.in_ok-slab.slab.now c.self.invariant.sound there all)) in
    let listed = taken-out c.self.inside.listed.frames c.args.frame c.remove.new.self.frames once out in
    let P : ℕ → Type 0 = λ n. IsKept (record { layout = c.self.inside.layout; flags = c.self.inside.flags; cache = c.self.inside.cache; slabs = set c.self.inside.slabs.items c.args.frame None; listed = c.remove.new.self.frames; reports = c.self.inside.reports.items }) (record { free = c.self.inside.totals.free - n; used = c.self.inside.totals.used; aside = c.self.inside.totals.aside; slabs = c.self.inside.totals.slabs - 1 }) c.remove.new.self.room (vec_capacity c.self.inside.counts) (vec_capacity c.self.inside.reports) in
    subst P (sym c.objects-objects.ensures) (kept-same (same-state refl listed refl) c.remove.ensures.room (omega arith) (omega arith) (gone-kept _ c.args.frame c.in_ok-slab.slab.now c.self.invariant.sound there all c.self.invariant))

pub returns-clause-taken : goal.returns-clause-taken
returns-clause-taken c =
    let there = sym (ap (λ slabs. get_or slabs c.args.frame None) c.deref.ensures.value) ∙ c.in_ok-slab.ensures in
    let f = ap length c.free.ensures in
    let all : objects_in c.in_ok-slab.slab.now ≤ length c.in_ok-slab.slab.now.free = omega (arith, c.if-free-objects.false, c.objects-objects.ensures, f) in
    let once = listed-once _ c.args.frame c.in_ok-slab.slab.now c.self.invariant.sound there all in
    let out = c.remove.ensures.taken (c.remove.ensures.there.1 (listed-there _ c.args.frame c.in_ok-slab.slab.now c.self.invariant.sound there all)) in
    let listed = taken-out c.self.inside.listed.frames c.args.frame c.remove.new.self.frames once out in
    let is = slab-is _ c.args.frame c.in_ok-slab.slab.now c.self.invariant.sound there all in
    let order = c.order-order.ensures ∙ sym (ap (λ (slab : SlabState). slab.order) is) in
    rw (sym c.self.view_is) (record { all_free = all-free-there _ c.args.frame c.in_ok-slab.slab.now c.self.invariant.sound there all; enough = omega (arith, c.if-len-limit.false, c.len.ensures.count) }, ap (λ n. record { frame = c.args.frame; order = n }) order, same-state refl listed refl)

pub returns-clause-sound : goal.returns-clause-sound
returns-clause-sound c = (invariant_of-self c).sound

pub returns-clause-slab : goal.returns-clause-slab
returns-clause-slab c = takes-slab _ c.args.frame c.args.limit _ _ (subst IsSound c.self.view_is c.self.invariant.sound) c.requires (returns-clause-taken c)
