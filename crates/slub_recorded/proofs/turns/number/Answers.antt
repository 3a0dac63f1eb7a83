use Rattle.std.proofs.Common.{arith}
use Rattle.slub_recorded.proofs.Numbers.{count_front, counted, pushed}
use Rattle.slub_recorded.proofs.turns.number.Goals as goal

pub loop-place-preserved : goal.loop-place-preserved
loop-place-preserved c = record {
  kept = pushed c.args.places.now c.loop-place.place-index c.loop-place.count c.loop-place.kept.items c.push.new.self.items c.next_kept.result c.loop-place-test.true c.loop-place.invariant.kept c.loop-place.invariant.count c.next_kept.ensures.kept c.in_ok-push.ensures.items;
  count = counted c.args.places.now c.loop-place.place-index c.loop-place.count _ c.loop-place-test.true c.loop-place.invariant.count c.next_kept.ensures.count;
}

pub next_kept-requires : goal.next_kept-requires
next_kept-requires c = omega (arith, c.requires, c.loop-place.invariant.count, count_front c.args.places.now c.loop-place.place-index)
