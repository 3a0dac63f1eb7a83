use Rattle.std.proofs.Common.{true, false, arith, sym, ◌∙◌}
use Rattle.slub_engine.proofs.CountSums.{slab_next, slabs_end}
use Rattle.slub_engine.proofs.counts.slab_free.Goals as goal
use Rattle.slub_engine.proofs.counts.slab_free.Goals.{then-is_slab_of, else-is_slab_of}

pub loop-frame-preserved : goal.loop-frame-preserved
loop-frame-preserved c =
    elim c.if-is_slab_of.branch [
      | then-is_slab_of w ↦
          let next = slab_next c.args.cache c.args.slabs.now c.args.frees.now c.loop-frame.frame c.loop-frame.count _ true c.loop-frame-test.true c.requires.frees (sym w.if-is_slab_of.true ∙ c.is_slab_of.ensures) c.loop-frame.invariant.value in
          record { value = omega (arith, next, w.own_free-count.ensures.value, w.count-is); bound = omega (arith, w.own_free-count.ensures.room, c.loop-frame.invariant.bound, w.count-is) }
      | else-is_slab_of w ↦
          let next = slab_next c.args.cache c.args.slabs.now c.args.frees.now c.loop-frame.frame c.loop-frame.count _ false c.loop-frame-test.true c.requires.frees (sym w.if-is_slab_of.false ∙ c.is_slab_of.ensures) c.loop-frame.invariant.value in
          record { value = omega (arith, next, w.count-is); bound = omega (arith, c.loop-frame.invariant.bound, w.count-is) }
    ]

pub returns-clause-value : goal.returns-clause-value
returns-clause-value c =
    c.loop-frame.invariant.value ∙ slabs_end c.args.cache c.args.slabs.now c.args.frees.now c.loop-frame.frame c.loop-frame-test.false
