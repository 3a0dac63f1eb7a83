use Rattle.std.proofs.Common.{◌+◌, ◌*◌, ◌≤◌, sym, subst, arith, refl}
use Rattle.slub_red_zone.specs.State.{CheckedState, IsUsed}
use Rattle.slub_red_zone.proofs.Taken.{written-kept, used-some, word-inside}
use Rattle.slub_red_zone.proofs.Sums.{same-state, kept-same}
use Rattle.slub_red_zone.specs.Objects.{KeepsObjects}
use Rattle.slub_red_zone.proofs.Objects.{at_equal, written-objects}
use Rattle.slub_red_zone.proofs.checked.CheckedSlabs.set_word.Goals as goal

pub set_word-requires : goal.set_word-requires
set_word-requires c =
    let P : CheckedState → Type 0 = λ s. IsUsed s c.args.slot in
    let used = subst P (sym c.self.view_is) c.requires.used in
    let Q : CheckedState → Type 0 = λ s. 8 * (c.args.word + 1) ≤ s.layout.object_size in
    let inside = subst Q (sym c.self.view_is) c.requires.inside in
    omega (arith, c.word_place-at.ensures, word-inside _ c.args.slot c.self.invariant.sound used c.args.word inside)

pub invariant_of-self : goal.invariant_of-self
invariant_of-self c =
    let P : CheckedState → Type 0 = λ s. IsUsed s c.args.slot in
    let used = subst P (sym c.self.view_is) c.requires.used in
    kept-same (same-state c.set_word.ensures.slabs refl refl) refl (omega arith) (omega arith) (written-kept _ c.args.slot.frame c.self.invariant.sound (used-some _ c.args.slot c.self.invariant.sound used) _ c.set_word.ensures.bytes c.self.invariant)

pub returns-clause-sound : goal.returns-clause-sound
returns-clause-sound c = (invariant_of-self c).sound

pub returns-clause-objects : goal.returns-clause-objects
returns-clause-objects c =
    let P : CheckedState → Type 0 = λ s. IsUsed s c.args.slot in
    let used = subst P (sym c.self.view_is) c.requires.used in
    at_equal KeepsObjects c.self.view_is (same-state c.set_word.ensures.slabs refl refl) (written-objects _ c.args.slot.frame c.self.invariant.sound (used-some _ c.args.slot c.self.invariant.sound used) _)
