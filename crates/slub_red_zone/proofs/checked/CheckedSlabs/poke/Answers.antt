use Rattle.std.proofs.lemmas.Int.{to_z-of_z}
use Rattle.slub_red_zone.specs.Steps.{IsOffset, place_of}
use Rattle.std.proofs.Common.{rules, ℤ, pos, w32, ◌≡◌, ◌∙◌, ◌+◌, ◌*◌, ◌<◌, length-set, set, Some, nat_abs, sym, subst, ap, arith, refl}
use Rattle.slub_red_zone.specs.State.{CheckedState, slab_of, slab_at, objects_in}
use Rattle.slub_red_zone.proofs.OneSlab.{slot-inside}
use Rattle.slub_red_zone.proofs.Whole.{slab-sound}
use Rattle.slub_red_zone.proofs.Taken.{written-kept}
use Rattle.slub_red_zone.proofs.Sums.{same-state, kept-same}
use Rattle.slub_red_zone.specs.Objects.{KeepsObjects}
use Rattle.slub_red_zone.proofs.Objects.{at_equal, written-objects}
use Rattle.slub_red_zone.proofs.checked.CheckedSlabs.poke.Goals as goal

pub set_byte-requires : goal.set_byte-requires
set_byte-requires c =
    let P : CheckedState → Type 0 = λ s. c.args.slot.index < objects_in (slab_of s c.args.slot.frame) in
    let object = subst P (sym c.self.view_is) c.requires.object in
    let inside = slot-inside _ _ (slab-sound _ c.args.slot.frame c.self.invariant.sound (omega (arith, object))) c.args.slot.index object in
    omega (arith, inside, c.in-Some.ensures.inside)

pub invariant_of-self : goal.invariant_of-self
invariant_of-self c =
    let P : CheckedState → Type 0 = λ s. c.args.slot.index < objects_in (slab_of s c.args.slot.frame) in
    let object = subst P (sym c.self.view_is) c.requires.object in
    kept-same (same-state c.set_byte.ensures refl refl) refl (omega arith) (omega arith) (written-kept _ c.args.slot.frame c.self.invariant.sound (omega (arith, object)) _ (length-set _ _ _) c.self.invariant)

pub returns-clause-pokes : goal.returns-clause-pokes
returns-clause-pokes c =
    let slab = slab_at c.self.inside.slabs.items c.args.slot.frame in
    let P : ℤ → Type 0 = λ z. IsOffset c.self.inside.layout z × (pos c.in-Some.place ≡ place_of c.self.inside.layout z) in
    let place = subst P (to_z-of_z w32 c.args.offset (search rules)) c.in-Some.ensures.place in
    let written = c.set_byte.ensures ∙ ap (λ n. set c.self.inside.slabs.items c.args.slot.frame (Some (record slab { bytes = set slab.bytes (c.args.slot.index * c.self.inside.layout.size + n) c.args.byte }))) (ap nat_abs place.1) in
    rw (sym c.self.view_is) (place.0, same-state written refl refl)

pub returns-clause-sound : goal.returns-clause-sound
returns-clause-sound c = (invariant_of-self c).sound

pub returns-clause-objects : goal.returns-clause-objects
returns-clause-objects c =
    let P : CheckedState → Type 0 = λ s. c.args.slot.index < objects_in (slab_of s c.args.slot.frame) in
    let object = subst P (sym c.self.view_is) c.requires.object in
    at_equal KeepsObjects c.self.view_is (same-state c.set_byte.ensures refl refl) (written-objects _ c.args.slot.frame c.self.invariant.sound (omega (arith, object)) _)
