use Rattle.std.proofs.Common.{◌≡◌, ◌+◌, ap, sym, ◌∙◌, subst, arith}
use Rattle.slub_lists.specs.State.{State}
use Rattle.slub_lists.specs.Coherent.{IsKept, times_current, times_partial}
use Rattle.slub_lists.specs.Free.{discarded}
use Rattle.slub_lists.proofs.Coherence.{live-inside}
use Rattle.slub_lists.proofs.Kept.{coherent-of, consistent-of}
use Rattle.slub_lists.proofs.Listed.{node-counted}
use Rattle.slub_lists.proofs.Moving.{removed-unlisted}
use Rattle.slub_lists.proofs.Sweeping.{gone-kept, node-not-current}
use Rattle.slub_list_machine.proofs.lists.Lists.sweep_slab.Goals as goal

-- what stands on a list is a slab
pub is_unused-requires-clause-slabs : goal.is_unused-requires-clause-slabs
is_unused-requires-clause-slabs c =
    let s : State = c.args.self.now in
    live-inside s.slabs c.args.frame (c.requires.coherent.listed.live c.args.frame (omega (arith, c.requires.there, node-counted s c.args.frame c.args.cache)))

pub is_unused-requires-clause-frees : goal.is_unused-requires-clause-frees
is_unused-requires-clause-frees c =
    omega (arith, is_unused-requires-clause-slabs c, c.requires.coherent.shaped.slabs, c.requires.coherent.shaped.frees)

pub discard-requires-clause-unlisted : goal.discard-requires-clause-unlisted
discard-requires-clause-unlisted c =
    let s : State = c.args.self.now in
    let consistent = consistent-of s c.requires.coherent in
    subst (λ (t : State). times_current t c.args.frame + times_partial t c.args.frame ≡ 0) (sym c.remove_from_node.ensures.removed)
    (removed-unlisted s c.args.cache consistent c.requires.cache c.args.frame c.requires.there (node-not-current s c.args.cache c.args.frame consistent c.requires.there))

pub returns-clause-coherent : goal.returns-clause-coherent
returns-clause-coherent c =
    let s : State = c.args.self.now in
    let shaped = c.requires.coherent.shaped in
    let all = c.discard.ensures.discarded ∙ ap (λ (t : State). discarded t c.args.frame) c.remove_from_node.ensures.removed in
    coherent-of c.discard.new.self c.discard.ensures.consistent
    (subst IsKept (sym all) (gone-kept s c.args.cache c.args.frame (omega (arith, shaped.nodes, c.requires.cache)) c.requires.coherent.kept))
