use Rattle.std.proofs.Common.{arith}
use Rattle.slub_object_layout.specs.Layout.{single}
use Rattle.slub_object_layout.proofs.Orders.{greatest_is, none_more}
use Rattle.slub_object_layout.proofs.layout.order_of.Goals as goal

pub returns-in-Some-clause-solved : goal.returns-in-Some-clause-solved
returns-in-Some-clause-solved c =
    let kept = c.loop-objects.invariant in
    greatest_is c.args.size c.args.cpus c.loop-objects.objects _ (omega arith) kept.within kept.none_above c.in-Some.ensures

pub loop-objects-preserved : goal.loop-objects-preserved
loop-objects-preserved c =
    let kept = c.loop-objects.invariant in
    record {
      within = omega (arith, kept.within);
      none_above = none_more c.args.size _ c.loop-objects.objects (omega arith) kept.none_above c.in_default.ensures;
    }

pub returns-clause-solved : goal.returns-clause-solved
returns-clause-solved c =
    single (λ m above within. c.loop-objects.invariant.none_above m (omega arith) within) c.get_order.ensures.least
