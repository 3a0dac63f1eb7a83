use Rattle.std.proofs.Common.{◌≡◌, ◌∙◌, length, ap, arith}
use Rattle.std.specs.List.{range_with_len}
use Rattle.std.proofs.lemmas.List.FromFn.{length-range_with_len}
use Rattle.slub_red_zone.proofs.Times.{list_more}
use Rattle.slub_red_zone.proofs.slab.rising.Goals as goal

pub loop-number-preserved : goal.loop-number-preserved
loop-number-preserved c = grind (arith, list_more)

pub returns-clause-numbers : goal.returns-clause-numbers
returns-clause-numbers c =
    let all : c.loop-number.number ≡ c.args.count = omega arith in
    c.loop-number.invariant ∙ ap (λ n. range_with_len 0 n) all

pub returns-clause-count : goal.returns-clause-count
returns-clause-count c = omega (arith, ap length c.loop-number.invariant, length-range_with_len 0 c.loop-number.number)
