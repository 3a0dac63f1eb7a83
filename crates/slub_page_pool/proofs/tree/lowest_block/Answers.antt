-- A block shows in one of the four runs of order 10.
use Rattle.std.proofs.Common.{◌/◌, ◌<◌, arith}
use Rattle.std.proofs.lemmas.Nat.{pow_pos}
use Rattle.slub_page_pool.proofs.MarkedFrames.{IsBlock-inside}
use Rattle.slub_page_pool.proofs.Descents.{bit_at-block}
use Rattle.slub_page_pool.proofs.tree.lowest_block.Goals as goal

pub returns-clause-none : goal.returns-clause-none
returns-clause-none c = λ e block.
    let inside : e < 4096 = omega (arith, IsBlock-inside c.args.marks.now e c.args.order block, pow_pos c.args.order, c.requires.few) in
    c.loop-top.invariant (e / 1024) (omega arith) (bit_at-block c.args.marks.now e c.args.order c.requires.known block)
