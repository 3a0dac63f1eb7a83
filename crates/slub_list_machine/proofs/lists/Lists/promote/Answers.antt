use Rattle.std.proofs.Common.{◌≡◌, ℕ, List, length, get_or, map, sym, ap, [], subst, arith}
use Rattle.std.proofs.lemmas.Grind.{common_steps}
use Rattle.slub_node_partial.specs.Promotion.{IsPromoted}
use Rattle.slub_lists.specs.State.{State}
use Rattle.slub_lists.specs.Alloc.{node_of, with_node}
use Rattle.slub_lists.specs.Coherent.{IsCoherent}
use Rattle.slub_lists.specs.Shrink.{node_counts}
use Rattle.slub_lists.proofs.Kept.{coherent-of, consistent-of}
use Rattle.slub_lists.proofs.Sweeping.{promoted-consistent, promoted-kept}
use Rattle.slub_list_machine.proofs.lists.Lists.promote.Goals as goal

-- the list that is put in order is the cache's, and the freelists are the slabs' own
promoted : (c : goal.After-self-1) → IsPromoted (node_of c.args.self.now c.args.cache) (node_counts c.args.self.now c.args.cache) c.promote.new.self
promoted c =
    let now : c.index_mut.result.now ≡ node_of c.args.self.now c.args.cache = grind (arith, common_steps) in
    let frees : c.self.inside.frees ≡ c.args.self.now.frees = ap (λ (s : State). s.frees) c.self.view_is in
    subst (λ (f : List (List ℕ)). IsPromoted (node_of c.args.self.now c.args.cache) (map (λ frame. length (get_or f frame [])) (node_of c.args.self.now c.args.cache)) c.promote.new.self) frees
    (subst (λ (l : List ℕ). IsPromoted l (map (λ frame. length (get_or c.self.inside.frees frame [])) l) c.promote.new.self) now c.promote.ensures.promoted)

pub returns-clause-promotes : goal.returns-clause-promotes
returns-clause-promotes c = (c.promote.new.self, promoted c, grind (arith, common_steps))

pub returns-clause-coherent : goal.returns-clause-coherent
unfolding returns-clause-promotes
returns-clause-coherent c =
    let s : State = c.args.self.now in
    let consistent = consistent-of s c.requires.coherent in
    let t : State = with_node s c.args.cache c.promote.new.self in
    subst IsCoherent (sym (returns-clause-promotes c).2)
    (coherent-of t (promoted-consistent s c.args.cache c.promote.new.self (promoted c) consistent c.requires.cache)
    (promoted-kept s c.args.cache c.promote.new.self (promoted c) (omega (arith, consistent.shaped.nodes, c.requires.cache)) c.requires.coherent.kept))
