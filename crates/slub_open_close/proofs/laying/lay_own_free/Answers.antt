use Rattle.std.proofs.Common.{◌≡◌, ◌-◌, ◌<◌, [], get_or, Some, refl, arith, ap, sym, ◌∙◌, length, length-set}
use Rattle.std.specs.Prelude.{slice_get}
use Rattle.std.proofs.lemmas.Bool.Decides.{nat_tests}
use Rattle.slub_core.specs.Setup.{hardened}
use Rattle.slub_core.specs.Facts.{pointer_in}
use Rattle.slub_open_close.specs.Laying.{free_row}
use Rattle.slub_open_close.proofs.Laid.{lay-step, next-head, no-gap}
use Rattle.slub_open_close.proofs.laying.lay_own_free.Goals as goal

pub loop-at-preserved-in-Some : goal.loop-at-preserved-in-Some
loop-at-preserved-in-Some c =
    let free = get_or c.args.frees.now c.args.frame [] in
    let some : 0 < c.loop-at.at = grind (arith, nat_tests, c.loop-at-test) in
    let at : slice_get free (c.loop-at.at - 1) ≡ Some c.in-Some.index = sym c.get.ensures ∙ c.in-Some.is in
    let row = free_row c.args.setup.now c.args.cache c.args.frame free in
    let place = pointer_in c.args.setup.now c.args.cache c.args.frame c.in-Some.index in
    record {
      memory = c.lay_pointer-next.ensures.memory
          ∙ lay-step row.place row.value free c.args.memory.now c.loop-at.memory c.loop-at.at c.in-Some.index place (hardened c.args.cache place c.loop-at.next) some at c.loop-at.invariant.memory refl (ap (hardened c.args.cache place) c.loop-at.invariant.next);
      count = ap length c.lay_pointer-next.ensures.memory ∙ length-set c.loop-at.memory place (hardened c.args.cache place c.loop-at.next) ∙ c.loop-at.invariant.count;
      next = c.lay_pointer-next.ensures.head ∙ next-head free c.loop-at.at c.in-Some.index some at;
    }

pub loop-at-preserved : goal.loop-at-preserved
loop-at-preserved c = absurd (no-gap (get_or c.args.frees.now c.args.frame []) c.loop-at.at (omega (arith, c.loop-at.auto.at, c.len_of-at.ensures.value)) c.loop-at-test.true (sym c.get.ensures ∙ c.in_default.is))
