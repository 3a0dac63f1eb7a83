use Rattle.std.proofs.Common.{arith}
use Rattle.slub_core.specs.declared.guarded.Guarded.TheVariants.{Nothing}
use Rattle.slub_open_close.proofs.Returning.{back-none, back-more, last-joins, values-left, kept-left}
use Rattle.slub_open_close.proofs.nodes.take_back.Goals as goal

pub loop-cache-init : goal.loop-cache-init
loop-cache-init c = record {
  back = back-none c.args.values.items c.args.kept.items c.args.nodes.now.items c.args.checked.now c.requires.values c.requires.kept c.requires.nodes.0;
  room = c.requires.nodes.1;
}

pub joined-node-requires : goal.joined-node-requires
joined-node-requires c =
    let l = c.loop-cache in
    let v = values-left c.args.values.items c.args.kept.items l.cache l.values.items l.kept.items l.nodes.items l.checked c.requires.values c.requires.kept (omega (arith, c.loop-cache-test.true)) (omega (arith, l.auto.cache)) l.invariant.back in
    let k = kept-left c.args.values.items c.args.kept.items l.cache l.values.items l.kept.items l.nodes.items l.checked c.requires.values c.requires.kept (omega (arith, c.loop-cache-test.true)) (omega (arith, l.auto.cache)) l.invariant.back in
    last-joins c.args.values.items c.args.kept.items l.cache l.values.items l.kept.items l.nodes.items l.checked c.requires.values c.requires.kept (omega (arith, c.loop-cache-test.true)) (omega (arith, l.auto.cache)) l.invariant.back
    l.values.len l.kept.len c.in-Some.value c.in-Some-pop.left l.values.ok.0 l.kept.ok.0 (c.in-Some.ensures.value Nothing (omega (arith, v, l.values.ok.0))) (c.in-Some-pop.ensures.value c.in-Some-pop.left (omega (arith, k, l.kept.ok.0, c.loop-cache-test.true))) c.requires.joins

pub loop-cache-preserved-in-Some-pop : goal.loop-cache-preserved-in-Some-pop
loop-cache-preserved-in-Some-pop c =
    let l = c.loop-cache in
    let v = values-left c.args.values.items c.args.kept.items l.cache l.values.items l.kept.items l.nodes.items l.checked c.requires.values c.requires.kept (omega (arith, c.loop-cache-test.true)) (omega (arith, l.auto.cache)) l.invariant.back in
    record {
      back = back-more c.args.values.items c.args.kept.items l.cache l.values.items l.kept.items l.nodes.items l.checked c.requires.values c.requires.kept (omega (arith, c.loop-cache-test.true)) (omega (arith, l.auto.cache)) l.invariant.back
          l.values.len l.kept.len c.in-Some.value c.pop.new.self.items c.pop-in-loop-cache.new.self.items c.push_reserved.new.self.items c.joined-node.result.0 c.joined-node.result.1 l.values.ok.0 l.kept.ok.0 (omega (arith, l.auto.checked, c.requires.checked))
          (c.in-Some.ensures.value Nothing (omega (arith, v, l.values.ok.0))) c.pop.ensures.rest c.pop-in-loop-cache.ensures.rest c.push_reserved.ensures.items c.joined-node.ensures.node c.joined-node.ensures.slabs;
      room = omega (arith, l.invariant.room, c.push_reserved.ensures.capacity);
    }

pub loop-cache-preserved : goal.loop-cache-preserved
loop-cache-preserved c =
    let l = c.loop-cache in
    let v = values-left c.args.values.items c.args.kept.items l.cache l.values.items l.kept.items l.nodes.items l.checked c.requires.values c.requires.kept (omega (arith, c.loop-cache-test.true)) (omega (arith, l.auto.cache)) l.invariant.back in
    record {
      back = back-more c.args.values.items c.args.kept.items l.cache l.values.items l.kept.items l.nodes.items l.checked c.requires.values c.requires.kept (omega (arith, c.loop-cache-test.true)) (omega (arith, l.auto.cache)) l.invariant.back
          l.values.len l.kept.len c.in-Some.value c.pop.new.self.items c.pop-in-loop-cache.new.self.items c.push_reserved.new.self.items c.joined-node.result.0 c.joined-node.result.1 l.values.ok.0 l.kept.ok.0 (omega (arith, l.auto.checked, c.requires.checked))
          (c.in-Some.ensures.value Nothing (omega (arith, v, l.values.ok.0))) c.pop.ensures.rest c.pop-in-loop-cache.ensures.rest c.push_reserved.ensures.items c.joined-node.ensures.node c.joined-node.ensures.slabs;
      room = omega (arith, l.invariant.room, c.push_reserved.ensures.capacity);
    }
