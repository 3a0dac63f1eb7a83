-- 2 ^ order is at most 2 ^ 10.
use Rattle.std.proofs.Common.{◌^◌, ◌≤◌, arith}
use Rattle.std.proofs.lemmas.Nat.{one_shl}
use Rattle.slub_page_pool.proofs.FreeRuns.{pow_le}
use Rattle.slub_page_pool.proofs.marks.run_len.Goals as goal

pub returns-clause-small : goal.returns-clause-small
returns-clause-small c =
    let below : 2 ^ c.args.order ≤ 1024 = pow_le c.args.order 10 c.requires in
    omega (arith, one_shl c.args.order 64 (omega arith))
