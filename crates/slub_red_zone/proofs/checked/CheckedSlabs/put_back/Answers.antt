use Rattle.std.proofs.Common.{◌∙◌, ◌==◌, Ok, ◌++◌, [], ◌∷◌, if◌then◌else◌, length, sym, subst, ap, arith, refl}
use Rattle.slub_red_zone.specs.State.{CheckedState, IsUsed, slab_at}
use Rattle.slub_red_zone.specs.Steps.{with_taken}
use Rattle.slub_red_zone.proofs.Taken.{used-object, used-inside, used-room, used-counted, list-room, taken-kept}
use Rattle.slub_red_zone.proofs.Sums.{kept-small, same-state, kept-same}
use Rattle.slub_red_zone.specs.Objects.{TakesObject}
use Rattle.slub_red_zone.proofs.Objects.{at_equal, taken-object}
use Rattle.slub_red_zone.proofs.checked.CheckedSlabs.put_back.Goals as goal

pub list_first-requires : goal.list_first-requires
list_first-requires c none =
    let P : CheckedState → Type 0 = λ s. IsUsed s c.args.slot in
    let used = subst P (sym c.self.view_is) c.requires.used in
    let free = c.free_in-free.ensures ∙ ap (λ slabs. length (slab_at slabs c.args.slot.frame).free) c.deref.ensures.value in
    omega (arith, list-room _ c.args.slot c.self.invariant.sound used (sym free ∙ none), c.self.invariant.list_room)

pub take_back-requires-clause-bounds : goal.take_back-requires-clause-bounds
take_back-requires-clause-bounds c = c.self.invariant.sound.layout.bounds

pub take_back-requires-clause-object : goal.take_back-requires-clause-object
take_back-requires-clause-object c =
    let P : CheckedState → Type 0 = λ s. IsUsed s c.args.slot in
    let used = subst P (sym c.self.view_is) c.requires.used in
    used-object _ c.args.slot c.self.invariant.sound used

pub take_back-requires-clause-inside : goal.take_back-requires-clause-inside
take_back-requires-clause-inside c =
    let P : CheckedState → Type 0 = λ s. IsUsed s c.args.slot in
    let used = subst P (sym c.self.view_is) c.requires.used in
    used-inside _ c.args.slot c.self.invariant.sound used

pub take_back-requires-clause-room : goal.take_back-requires-clause-room
take_back-requires-clause-room c =
    let P : CheckedState → Type 0 = λ s. IsUsed s c.args.slot in
    let used = subst P (sym c.self.view_is) c.requires.used in
    used-room _ c.args.slot c.self.invariant.sound used

pub overflow_sub-self : goal.overflow_sub-self
overflow_sub-self c =
    let P : CheckedState → Type 0 = λ s. IsUsed s c.args.slot in
    let used = subst P (sym c.self.view_is) c.requires.used in
    omega (arith, used-counted _ c.args.slot c.self.invariant.sound used c.self.invariant)

pub overflow_add-self : goal.overflow_add-self
overflow_add-self c = omega (arith, kept-small c.self.invariant)

pub invariant_of-self : goal.invariant_of-self
invariant_of-self c =
    let P : CheckedState → Type 0 = λ s. IsUsed s c.args.slot in
    let used = subst P (sym c.self.view_is) c.requires.used in
    let free = c.free_in-free.ensures ∙ ap (λ slabs. length (slab_at slabs c.args.slot.frame).free) c.deref.ensures.value in
    let listed = c.list_first.ensures.frames ∙ ap (λ n. if n == 0 then c.self.inside.listed.frames ++ c.args.slot.frame ∷ [] else c.self.inside.listed.frames) free in
    kept-same (same-state c.take_back.ensures.slabs listed refl) c.list_first.ensures.room (omega arith) (omega arith) (taken-kept _ c.args.slot c.self.invariant.sound used c.take_back.ensures.bytes c.self.invariant)

pub returns-clause-sound : goal.returns-clause-sound
returns-clause-sound c = (invariant_of-self c).sound

pub returns-clause-taken : goal.returns-clause-taken
returns-clause-taken c =
    let free = c.free_in-free.ensures ∙ ap (λ slabs. length (slab_at slabs c.args.slot.frame).free) c.deref.ensures.value in
    let listed = c.list_first.ensures.frames ∙ ap (λ n. if n == 0 then c.self.inside.listed.frames ++ c.args.slot.frame ∷ [] else c.self.inside.listed.frames) free in
    same-state c.take_back.ensures.slabs listed refl ∙ ap (λ s. with_taken s c.args.slot) c.self.view_is

pub returns-clause-objects : goal.returns-clause-objects
returns-clause-objects c =
    let P : CheckedState → Type 0 = λ s. IsUsed s c.args.slot in
    let used = subst P (sym c.self.view_is) c.requires.used in
    let free = c.free_in-free.ensures ∙ ap (λ slabs. length (slab_at slabs c.args.slot.frame).free) c.deref.ensures.value in
    let listed = c.list_first.ensures.frames ∙ ap (λ n. if n == 0 then c.self.inside.listed.frames ++ c.args.slot.frame ∷ [] else c.self.inside.listed.frames) free in
    let Q : CheckedState → CheckedState → Type 0 = λ s after. TakesObject s c.args.slot (Ok tt) after in
    at_equal Q c.self.view_is (same-state c.take_back.ensures.slabs listed refl) (taken-object _ c.args.slot c.self.invariant.sound used)
