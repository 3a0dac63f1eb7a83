use Rattle.std.proofs.Common.{[], get_or, sym, ◌∙◌, arith}
use Rattle.slub_list_machine.proofs.Places.{put-before, no-gap}
use Rattle.slub_list_machine.proofs.own_lists.OwnLists.take_before.Goals as goal

pub loop-at-preserved-in-Some : goal.loop-at-preserved-in-Some
loop-at-preserved-in-Some c =
    c.push.ensures
    ∙ put-before c.args.self.now c.loop-at.self c.args.frame c.args.front.now (get_or c.args.self.now c.args.frame []) c.loop-at.at c.in-Some.item c.requires.frame c.loop-at-test.true (sym c.get.ensures ∙ c.in-Some.is) c.loop-at.invariant

pub loop-at-preserved : goal.loop-at-preserved
loop-at-preserved c = absurd (no-gap c.args.front.now c.loop-at.at (omega (arith, c.loop-at.auto.at, c.len-at.ensures.value)) c.loop-at-test.true (sym c.get.ensures ∙ c.in_default.is))
