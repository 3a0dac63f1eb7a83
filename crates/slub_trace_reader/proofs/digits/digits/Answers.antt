use Rattle.std.proofs.Common.{◌+◌, ◌*◌, subst, sym, ap}
use Rattle.slub_trace_reader.proofs.Fronts.{Run, run_start, run_more, run_front}
use Rattle.slub_trace_reader.proofs.digits.digits.Goals as goal

pub loop-c-init : goal.loop-c-init
loop-c-init c = run_start c.args.first c.args.bytes.now c.from-n.result c.requires.0 c.requires.1 c.from-n.ensures

pub returns-then-not-is_decimal-clause-front : goal.returns-then-not-is_decimal-clause-front
returns-then-not-is_decimal-clause-front c = run_front c.args.first c.args.bytes.now c.loop-c.rest.now c.loop-c.n c.requires.0 c.requires.1 c.loop-c.invariant

pub loop-c-preserved : goal.loop-c-preserved
loop-c-preserved c =
    run_more c.args.first c.args.bytes.now c.in-Some.c.now c.in-Some.more.now c.loop-c.n _
    (subst (λ r. Run c.args.first c.args.bytes.now r c.loop-c.n) c.in-Some.ensures.cases.0 c.loop-c.invariant) (sym c.if-not-is_decimal.ensures)
    (ap (λ d. 10 * c.loop-c.n + d) c.from.ensures)

pub returns-clause-front : goal.returns-clause-front
returns-clause-front c = run_front c.args.first c.args.bytes.now c.loop-c.rest.now c.loop-c.n c.requires.0 c.requires.1 c.loop-c.invariant
