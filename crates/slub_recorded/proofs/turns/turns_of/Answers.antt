use Rattle.std.proofs.Common.{◌∙◌}
use Rattle.slub_recorded.proofs.Numbers.{moved}
use Rattle.slub_recorded.proofs.turns.turns_of.Goals as goal

pub loop-step-preserved : goal.loop-step-preserved
loop-step-preserved c =
    moved _ _ c.args.moves.now c.loop-step.step-index _ _ _ _ c.loop-step-test.true (c.as_slice.ensures.value ∙ c.in_ok-kept.ensures) c.loop-step.invariant c.in_ok-push_turn.ensures
