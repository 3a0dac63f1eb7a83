use Rattle.std.proofs.Common.{◌≡◌, ◌-◌, ◌<◌, Some, arith, sym, ◌∙◌}
use Rattle.std.specs.Prelude.{slice_get}
use Rattle.std.proofs.lemmas.Bool.Decides.{nat_tests}
use Rattle.slub_law_opening.specs.Opening.{string_row}
use Rattle.slub_open_close.proofs.Laid.{lay-step, next-front, no-gap}
use Rattle.slub_open_close.proofs.laying.lay_string.Goals as goal

pub loop-at-preserved-in-Some : goal.loop-at-preserved-in-Some
loop-at-preserved-in-Some c =
    let some : 0 < c.loop-at.at = grind (arith, nat_tests, c.loop-at-test) in
    let at : slice_get c.args.frames.now (c.loop-at.at - 1) ≡ Some c.in-Some.frame = sym c.get.ensures ∙ c.in-Some.is in
    let row = string_row c.args.frames.now in
    record {
      links = lay-step row.place row.value c.args.frames.now c.args.links.now c.loop-at.links c.loop-at.at c.in-Some.frame c.from.result c.loop-at.next some at c.loop-at.invariant.links c.from.ensures c.loop-at.invariant.next;
      next = next-front c.args.frames.now c.loop-at.at c.in-Some.frame some at;
    }

pub loop-at-preserved : goal.loop-at-preserved
loop-at-preserved c = absurd (no-gap c.args.frames.now c.loop-at.at (omega (arith, c.loop-at.auto.at, c.len-at.ensures.value)) c.loop-at-test.true (sym c.get.ensures ∙ c.in_default.is))
