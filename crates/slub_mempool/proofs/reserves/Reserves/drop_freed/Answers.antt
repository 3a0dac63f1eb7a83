use Rattle.std.proofs.Common.{◌≡◌, ◌<◌, length, sym, ◌∙◌, ap, arith}
use Rattle.slub_rounds.specs.Reserves.{kept_of}
use Rattle.slub_mempool.proofs.Keeping.{kept-next, kept-rest}
use Rattle.slub_mempool.proofs.reserves.Reserves.drop_freed.Goals as goal

pub loop-reserve-preserved : goal.loop-reserve-preserved
loop-reserve-preserved c =
    let inside : c.loop-reserve.reserve-index < length c.loop-reserve.reserve-items = omega arith in
    let before = c.loop-reserve.invariant in
    let fresh : c.drop_freed.new.self ≡ kept_of c.args.lists.now c.reserve-item.result = c.drop_freed.ensures ∙ ap (kept_of c.args.lists.now) (sym c.reserve-item.is) in
    record {
      down = kept-next c.args.lists.now c.loop-reserve.reserve-items c.deref_mut-reserve-items.result.now c.loop-reserve.reserve-index c.reserve-item.result c.drop_freed.new.self inside c.loop-reserve.auto.reserve-items before.down before.rest c.reserve-item.is fresh;
      rest = kept-rest c.args.lists.now c.loop-reserve.reserve-items c.deref_mut-reserve-items.result.now c.loop-reserve.reserve-index c.reserve-item.result c.drop_freed.new.self inside c.loop-reserve.auto.reserve-items before.down before.rest c.reserve-item.is fresh;
    }
