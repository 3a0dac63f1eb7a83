use Rattle.std.proofs.Common.{refl}
use Rattle.slub_recorded.proofs.Cutting.{all_done, one_turn}
use Rattle.slub_recorded.proofs.rounds.steps_of.Goals as goal

pub loop-place-preserved : goal.loop-place-preserved
loop-place-preserved c =
    one_turn _ c.args.turns.now c.loop-place.place _ _ c.loop-place.place c.loop-place.left c.left_behind-left.result c.loop-place.holders.entries c.push_steps.new.holders.entries c.cut_at-cut.result c.loop-place.steps.items c.push_steps.new.steps.items _
    c.loop-place-test.true refl c.cut_at-cut.ensures c.left_behind-left.ensures c.in_ok-push_steps.ensures.holders c.in_ok-push_steps.ensures.steps c.loop-place.invariant

pub returns : goal.returns
returns c = all_done _ c.args.turns.now c.loop-place.place _ _ _ _ _ c.loop-place-test.false c.loop-place.invariant
