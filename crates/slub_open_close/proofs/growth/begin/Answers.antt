use Rattle.std.proofs.Common.{◌/◌, ◌≤◌, cond, eqb, ap, ◌∙◌, arith}
use Rattle.slub_open_close.specs.Ids.{first_id}
use Rattle.slub_open_close.proofs.Settling.{written-all, written-more, written-none}
use Rattle.slub_open_close.proofs.growth.begin.Goals as goal

pub loop-number-init : goal.loop-number-init
loop-number-init c = written-none _ _

pub loop-number-preserved : goal.loop-number-preserved
loop-number-preserved c =
    let n = c.loop-number.number in
    let least : n ≤ n = omega arith in
    written-more (λ n id. cond (eqb (n / 16) c.args.cache) (first_id c.args.first c.args.cpus n) id) c.args.words.now c.loop-number.words n c.begun.result
    (omega (arith, c.requires.words, c.loop-number.auto, c.loop-number-test.true))
    (c.begun.ensures ∙ ap (λ id. cond (eqb (n / 16) c.args.cache) (first_id c.args.first c.args.cpus n) id) (c.loop-number.invariant.rest n least)) c.loop-number.invariant

pub returns : goal.returns
returns c =
    written-all (λ n id. cond (eqb (n / 16) c.args.cache) (first_id c.args.first c.args.cpus n) id) c.args.words.now c.loop-number.words c.loop-number.number
    (omega (arith, c.loop-number-test, c.loop-number.auto)) (omega (arith, c.requires.words, c.loop-number.auto)) c.loop-number.invariant
