use Rattle.std.proofs.Common.{◌+◌, ◌*◌, ◌≤◌, length, sym, subst, ap, arith}
use Rattle.slub_red_zone.specs.State.{CheckedState, IsUsed, slab_at}
use Rattle.slub_red_zone.proofs.Taken.{word-inside}
use Rattle.slub_red_zone.proofs.checked.CheckedSlabs.word.Goals as goal

pub word-requires : goal.word-requires
word-requires c =
    let P : CheckedState → Type 0 = λ s. IsUsed s c.args.slot in
    let used = subst P (sym c.self.view_is) c.requires.used in
    let Q : CheckedState → Type 0 = λ s. 8 * (c.args.word + 1) ≤ s.layout.object_size in
    let inside = subst Q (sym c.self.view_is) c.requires.inside in
    let same = ap (λ slabs. length (slab_at slabs c.args.slot.frame).bytes) c.deref.ensures.value in
    omega (arith, same, c.word_place.ensures, word-inside _ c.args.slot c.self.invariant.sound used c.args.word inside)
