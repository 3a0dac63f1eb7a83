-- A node of order 1 or more is one of 4096.
use Rattle.std.proofs.Common.{◌-◌, ◌^◌, ◌≤◌, arith}
use Rattle.std.proofs.lemmas.Nat.{one_shl}
use Rattle.slub_page_pool.proofs.FreeRuns.{pow_le}
use Rattle.slub_page_pool.proofs.tree.slot.Goals as goal

pub returns-clause-inside : goal.returns-clause-inside
returns-clause-inside c = λ some.
    let most : 2 ^ (12 - c.args.order) ≤ 2048 = pow_le (12 - c.args.order) 11 (omega arith) in
    omega (arith, most, one_shl (12 - c.args.order) 64 (omega arith), c.requires.within)
