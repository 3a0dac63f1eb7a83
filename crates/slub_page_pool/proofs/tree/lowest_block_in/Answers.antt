-- Each step goes down to the half that has the lowest block.
use Rattle.std.proofs.Common.{suc, ◌≡◌, ◌-◌, arith, sym, ◌∙◌}
use Rattle.std.proofs.lemmas.Bool.{false≢true}
use Rattle.slub_page_pool.proofs.Descents.{Descent-start, Descent-left, Descent-right, Descent-block, Descent-lowest, pow_halves}
use Rattle.slub_page_pool.proofs.tree.lowest_block_in.Goals as goal

pub loop-level-init : goal.loop-level-init
loop-level-init c = Descent-start c.args.marks.now c.args.order c.args.top c.requires.known c.requires.few c.requires.found c.requires.none_below

pub has-requires-clause-within : goal.has-requires-clause-within
has-requires-clause-within c =
    let level = c.loop-level.level in
    let next : level ≡ suc (level - 1) = omega arith in
    omega (arith, pow_halves level (level - 1) next c.loop-level.invariant.high, c.loop-level.invariant.within)

pub loop-level-preserved-then-not-has : goal.loop-level-preserved-then-not-has
loop-level-preserved-then-not-has c =
    let level = c.loop-level.level in
    let next : level ≡ suc (level - 1) = omega arith in
    Descent-right c.loop-level.invariant (level - 1) next (omega arith) (λ found. false≢true (sym c.if-not-has.true ∙ c.has.ensures.1 found))

pub loop-level-preserved : goal.loop-level-preserved
loop-level-preserved c =
    let level = c.loop-level.level in
    let next : level ≡ suc (level - 1) = omega arith in
    Descent-left c.loop-level.invariant (level - 1) next (omega arith) (c.has.ensures.0 c.if-not-has.false)

pub returns-clause-block : goal.returns-clause-block
returns-clause-block c = rw c.run_len.ensures.count (Descent-block c.loop-level.invariant (omega arith))

pub returns-clause-lowest : goal.returns-clause-lowest
returns-clause-lowest c = rw c.run_len.ensures.count (Descent-lowest c.loop-level.invariant (omega arith))
