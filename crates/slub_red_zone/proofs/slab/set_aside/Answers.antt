use Rattle.slub_red_zone.specs.declared.slab.ObjectState.TheVariants.{Aside}
use Rattle.std.proofs.Common.{◌+◌, drop, slice_index_or, List, ℕ, [], ◌∷◌, subst, sym, refl, ◌∙◌}
use Rattle.std.proofs.lemmas.List.{drop_more, drop_all}
use Rattle.slub_red_zone.proofs.Asides.{AreFree, first-inside, free-inside, none-free, still-same, rest-free}
use Rattle.slub_red_zone.proofs.slab.set_aside.Goals as goal

pub bounds-states-index : goal.bounds-states-index
bounds-states-index c =
    let free = c.args.free.now in
    let at = c.loop-index.index-index in
    let x = slice_index_or free at 0 in
    let P : List ℕ → Type 0 = AreFree c.loop-index.states in
    let left : P (x ∷ drop (at + 1) free) = subst P (drop_more free at 0 c.loop-index-test.true) c.loop-index.invariant.left in
    free-inside c.loop-index.states x (first-inside c.loop-index.states x (drop (at + 1) free) left)

pub loop-index-preserved : goal.loop-index-preserved
loop-index-preserved c =
    let free = c.args.free.now in
    let at = c.loop-index.index-index in
    let x = slice_index_or free at 0 in
    let P : List ℕ → Type 0 = AreFree c.loop-index.states in
    let left : P (x ∷ drop (at + 1) free) = subst P (drop_more free at 0 c.loop-index-test.true) c.loop-index.invariant.left in
    record {
      left = rest-free c.loop-index.states x (drop (at + 1) free) Aside refl left;
      same = still-same c.loop-index.states x (first-inside c.loop-index.states x (drop (at + 1) free) left) ∙ c.loop-index.invariant.same;
    }

pub returns : goal.returns
returns c =
    let P : List ℕ → Type 0 = AreFree c.loop-index.states in
    let none : P [] = subst P (drop_all c.loop-index.index-index c.args.free.now c.loop-index-test.false) c.loop-index.invariant.left in
    sym (none-free c.loop-index.states none) ∙ c.loop-index.invariant.same
