use Rattle.std.proofs.Common.{◌≡◌, ◌-◌, ◌++◌, nat_eq, sym, ap, ◌∙◌, arith}
use Rattle.std.specs.List.{range_with_len}
use Rattle.std.proofs.lemmas.List.{append-nil}
use Rattle.slub_trace_reader.specs.Above.{with_one}
use Rattle.slub_trace_reader.proofs.Runs.{put_next, greatest_then}
use Rattle.slub_trace_reader.proofs.numbers.allocate.Goals as goal

pub loop-object-init : goal.loop-object-init
loop-object-init c =
    let none : c.args.first - c.args.first ≡ 0 = omega arith in
    record { low = omega arith; put = rw none (sym (append-nil c.args.objects.now.keys)); marked = c.requires.marked; greatest = c.requires.greatest }

pub loop-object-preserved : goal.loop-object-preserved
loop-object-preserved c =
    let was = c.loop-object.invariant in
    let put : c.put.new.self.keys ≡ with_one nat_eq c.loop-object.objects.keys c.loop-object.object = c.in_ok-put.ensures.put in
    let greatest = greatest_then c.loop-object.objects.keys c.put.new.self.keys c.loop-object.object put in
    record {
      low = omega (arith, was.low);
      put = put_next c.args.objects.now.keys c.loop-object.objects.keys c.put.new.self.keys c.args.first c.args.count c.loop-object.object c.requires.fresh was.low c.loop-object-test.true was.put put;
      marked = c.in_ok-put.ensures.marked;
      greatest = omega (arith, was.greatest, greatest);
    }

pub returns-clause-put : goal.returns-clause-put
returns-clause-put c =
    let was = c.loop-object.invariant in
    let all : c.loop-object.object - c.args.first ≡ c.args.count = omega (arith, was.low, c.loop-object-test.false) in
    was.put ∙ ap (λ n. c.args.objects.now.keys ++ range_with_len c.args.first n) all

pub returns-clause-greatest : goal.returns-clause-greatest
returns-clause-greatest c = c.loop-object.invariant.greatest
