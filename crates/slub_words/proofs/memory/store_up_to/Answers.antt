use Rattle.std.proofs.Common.{◌∙◌, arith}
use Rattle.slub_words.proofs.Stored.{stored-next}
use Rattle.slub_words.proofs.memory.store_up_to.Goals as goal

pub loop-preserved : goal.loop-preserved
loop-preserved g c =
    let p = c.push_reserved.ensures in (
      stored-next c.args.items.now.items c.loop.items.items c.push_reserved.new.self.items c.loop.counter c.args.value c.loop.invariant.0 p.items,
      omega (arith, p.len, c.loop.invariant.1),
      p.capacity ∙ c.loop.invariant.2,
    )
