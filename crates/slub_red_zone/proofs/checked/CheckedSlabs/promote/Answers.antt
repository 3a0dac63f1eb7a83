use Rattle.std.proofs.Common.{◌∙◌, List, ℕ, length, map, get_or, subst, ap, arith, refl}
use Rattle.std.proofs.lemmas.List.{length-map}
use Rattle.slub_node_partial.specs.Promotion.{IsPromoted}
use Rattle.slub_node_partial.proofs.Promotions.{keeps}
use Rattle.slub_red_zone.specs.State.{CheckedState, slab_at}
use Rattle.slub_red_zone.specs.Steps.{free_counts}
use Rattle.slub_red_zone.proofs.Comings.{promoted-kept, free-small}
use Rattle.slub_red_zone.proofs.Sums.{kept-same}
use Rattle.std.proofs.lemmas.List.Sorted.{length_permutation}
use Rattle.slub_red_zone.specs.Objects.{KeepsObjects}
use Rattle.slub_red_zone.proofs.Objects.{at_equal, moved-objects}
use Rattle.slub_red_zone.proofs.checked.CheckedSlabs.promote.Goals as goal

pub count_free-requires-clause-small : goal.count_free-requires-clause-small
count_free-requires-clause-small c k d h =
    let frame = get_or c.frames.result.now k d in
    let same = ap (λ slabs. length (slab_at slabs frame).free) c.deref.ensures.value in
    omega (arith, same, free-small _ frame c.self.invariant.sound)

pub invariant_of-self : goal.invariant_of-self
invariant_of-self c =
    let counts = c.deref-2.ensures.value ∙ c.count_free.ensures.counts ∙ ap (λ slabs. map (λ frame. length (slab_at slabs frame).free) c.frames.result.now) c.deref.ensures.value ∙ ap (map (λ frame. length (slab_at c.self.inside.slabs.items frame).free)) c.frames.ensures.frames in
    let many = ap length counts ∙ length-map c.self.inside.listed.frames (λ frame. length (slab_at c.self.inside.slabs.items frame).free) in
    kept-same refl c.promote.ensures.room (omega (arith, c.count_free.ensures.capacity)) (omega arith) (promoted-kept c.promote.new.self.frames (keeps _ _ _ many c.promote.ensures.promoted) c.self.invariant)

pub returns-clause-promoted : goal.returns-clause-promoted
returns-clause-promoted c =
    let counts = c.deref-2.ensures.value ∙ c.count_free.ensures.counts ∙ ap (λ slabs. map (λ frame. length (slab_at slabs frame).free) c.frames.result.now) c.deref.ensures.value ∙ ap (map (λ frame. length (slab_at c.self.inside.slabs.items frame).free)) c.frames.ensures.frames in
    let P : List ℕ → Type 0 = λ counts. IsPromoted c.self.inside.listed.frames counts c.promote.new.self.frames in
    let Q : CheckedState → Type 0 = λ s. IsPromoted s.listed (free_counts s) c.promote.new.self.frames in
    subst Q c.self.view_is (subst P counts c.promote.ensures.promoted)

pub returns-clause-sound : goal.returns-clause-sound
returns-clause-sound c = (invariant_of-self c).sound

pub returns-clause-objects : goal.returns-clause-objects
returns-clause-objects c =
    let counts = c.deref-2.ensures.value ∙ c.count_free.ensures.counts ∙ ap (λ slabs. map (λ frame. length (slab_at slabs frame).free) c.frames.result.now) c.deref.ensures.value ∙ ap (map (λ frame. length (slab_at c.self.inside.slabs.items frame).free)) c.frames.ensures.frames in
    let many = ap length counts ∙ length-map c.self.inside.listed.frames (λ frame. length (slab_at c.self.inside.slabs.items frame).free) in
    at_equal KeepsObjects c.self.view_is refl (moved-objects _ c.promote.new.self.frames (length_permutation _ _ (keeps _ _ _ many c.promote.ensures.promoted)))
