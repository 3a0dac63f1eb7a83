use Rattle.std.proofs.Common.{◌-◌, length, ap, arith, lit<}
use Rattle.std.proofs.lemmas.List.FromFn.{length-range_with_len}
use Rattle.slub_common.proofs.front_list.FrontList.fill_rising.Goals as goal

-- fewer than `count` stand there before the last is put in
pub push-requires : goal.push-requires
push-requires g c =
    let so_many = ap length c.loop-item.invariant in
    (lit< tt, omega (arith, so_many, length-range_with_len c.loop-item.item (c.args.count - c.loop-item.item)))
