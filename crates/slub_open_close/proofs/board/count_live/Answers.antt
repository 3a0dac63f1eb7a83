use Rattle.std.proofs.Common.{◌<◌, length, arith}
use Rattle.slub_open_close.proofs.Counting.{counted-few}
use Rattle.slub_open_close.proofs.board.count_live.Goals as goal

pub overflow_add-live : goal.overflow_add-live
overflow_add-live c =
    let below : c.from-cache.result < length c.loop-held.live = omega (arith, c.if-cache-live.true) in
    let e = c.loop-held.invariant c.from-cache.result below in
    let few = counted-few c.from-cache.result c.args.board.now c.loop-held.held-index in
    let within : c.loop-held.held-index < length c.args.board.now = omega (arith, c.loop-held-test.true) in
    omega (arith, c.requires)
