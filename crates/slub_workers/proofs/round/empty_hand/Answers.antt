use Rattle.std.proofs.Common.{◌++◌, ◌∷◌, [], List, sym, ap, ◌∙◌, arith}
use Rattle.slub_core.specs.declared.guarded.Guarded.{Guarded}
use Rattle.slub_core.specs.declared.guarded.Guarded.TheVariants.{Nothing}
use Rattle.slub_workers.proofs.Copies.{replicate-snoc}
use Rattle.slub_workers.proofs.round.empty_hand.Goals as goal

pub loop-preserved : goal.loop-preserved
loop-preserved c =
    let p = c.push_reserved.ensures in
    let room = c.loop.invariant.room in
    let k = p.capacity in
    record {
      items = p.items ∙ ap (λ (t : List Guarded). t ++ Nothing ∷ []) c.loop.invariant.items ∙ sym (replicate-snoc c.loop.counter Nothing);
      room = omega arith;
    }
