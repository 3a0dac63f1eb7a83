use Rattle.std.proofs.Common.{◌≡◌, ℕ, Some, ap, sym, subst, arith}
use Rattle.std.proofs.lemmas.Grind.{common_steps}
use Rattle.slub_page_pool.specs.FreeFrames.{FreeFrames, IsPool}
use Rattle.slub_page_pool.specs.Block.{CanPut}
use Rattle.slub_lists.specs.State.{State}
use Rattle.slub_lists.specs.Alloc.{slab_of}
use Rattle.slub_lists.specs.Coherent.{IsConsistent}
use Rattle.slub_lists.proofs.Discarding.{can-put, discarded-consistent}
use Rattle.slub_list_machine.proofs.lists.Lists.discard.Goals as goal

-- the run is the slab's
pub put-requires : goal.put-requires
put-requires c =
    let is : slab_of c.args.self.now c.args.frame ≡ Some c.in-Some.slab = grind (arith, common_steps) in
    subst (λ (p : FreeFrames). CanPut p c.from.result c.in-Some.slab.order) (sym (ap (λ (s : State). s.pool) c.self.view_is))
    (subst (λ (n : ℕ). CanPut c.args.self.now.pool n c.in-Some.slab.order) (sym c.from.ensures) (can-put c.args.self.now c.args.frame c.in-Some.slab c.requires.consistent is))

pub returns-clause-discarded : goal.returns-clause-discarded
returns-clause-discarded c = grind (arith, common_steps)

pub returns-clause-consistent : goal.returns-clause-consistent
returns-clause-consistent c =
    let is : slab_of c.args.self.now c.args.frame ≡ Some c.in-Some.slab = grind (arith, common_steps) in
    let good = subst IsPool (ap (λ (s : State). s.pool) (returns-clause-discarded c)) c.put.ensures.pool in
    subst IsConsistent (sym (returns-clause-discarded c))
    (discarded-consistent c.args.self.now c.args.frame c.in-Some.slab c.requires.consistent is c.requires.unlisted c.requires.unused good)
