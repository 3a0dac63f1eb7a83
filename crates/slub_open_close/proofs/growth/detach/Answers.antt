use Rattle.std.proofs.Common.{◌+◌, ◌/◌, ◌%◌, ◌≤◌, ◌&&◌, false, cond, eqb, get_or, ap, ◌∙◌, arith}
use Rattle.slub_open_close.proofs.Settling.{written-all, written-more, written-none}
use Rattle.slub_open_close.proofs.growth.detach.Goals as goal

pub loop-number-init : goal.loop-number-init
loop-number-init c = written-none _ _

pub stepped-requires : goal.stepped-requires
stepped-requires c = λ word current.
    let n = c.loop-number.number in
    let least : n ≤ n = omega arith in
    omega (arith, c.requires.room n word current, c.loop-number.invariant.rest n least)

pub loop-number-preserved : goal.loop-number-preserved
loop-number-preserved c =
    let n = c.loop-number.number in
    let least : n ≤ n = omega arith in
    written-more (λ n id. cond (eqb (n / 16) c.args.cache && get_or c.args.current.now (n % 16) false) (id + c.args.step) id) c.args.words.now c.loop-number.words n c.stepped.result
    (omega (arith, c.requires.words, c.loop-number.auto, c.loop-number-test.true))
    (c.stepped.ensures ∙ ap (λ id. cond (eqb (n / 16) c.args.cache && get_or c.args.current.now (n % 16) false) (id + c.args.step) id) (c.loop-number.invariant.rest n least)) c.loop-number.invariant

pub returns : goal.returns
returns c =
    written-all (λ n id. cond (eqb (n / 16) c.args.cache && get_or c.args.current.now (n % 16) false) (id + c.args.step) id) c.args.words.now c.loop-number.words c.loop-number.number
    (omega (arith, c.loop-number-test, c.loop-number.auto)) (omega (arith, c.requires.words, c.loop-number.auto)) c.loop-number.invariant
