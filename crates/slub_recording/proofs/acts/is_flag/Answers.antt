use Rattle.std.proofs.Common.{◌∙◌, sym}
use Rattle.slub_recording.proofs.Splits.{shorter_behind, flag_found, flag_on, flag_last}
use Rattle.slub_recording.proofs.acts.is_flag.Goals as goal

pub returns-then-eq : goal.returns-then-eq
returns-then-eq c =
    sym (c.loop-part.invariant ∙ flag_found c.args.flag.now c.loop-part.rest.now c.in-Some.part.now c.in-Some.behind.now c.in-Some.ensures (sym c.if-eq.ensures))

pub loop-part-smaller : goal.loop-part-smaller
loop-part-smaller c = shorter_behind 124 c.loop-part.rest.now c.in-Some.part.now c.in-Some.behind.now c.in-Some.ensures

pub loop-part-preserved : goal.loop-part-preserved
loop-part-preserved c =
    c.loop-part.invariant ∙ flag_on c.args.flag.now c.loop-part.rest.now c.in-Some.part.now c.in-Some.behind.now c.in-Some.ensures (sym c.if-eq.ensures)

pub returns : goal.returns
returns c = c.eq-2.ensures ∙ sym (c.loop-part.invariant ∙ flag_last c.args.flag.now c.loop-part.rest.now c.in_default.ensures)
