use Rattle.std.proofs.Common.{◌∙◌}
use Rattle.slub_core.specs.Steps.{rested}
use Rattle.slub_core.specs.Facts.{setup_of}
use Rattle.slub_turns.proofs.Mixed.{mixed_none, mixed_step, mixed_all}
use Rattle.slub_turns.proofs.begin.rest_all.Goals as goal

pub loop-local-init : goal.loop-local-init
loop-local-init c = λ means. mixed_none (rested (setup_of c.args.setup.now means)) c.args.locals.now

pub loop-local-preserved : goal.loop-local-preserved
loop-local-preserved c = λ means.
    mixed_step (rested (setup_of c.args.setup.now means)) c.args.locals.now c.loop-local.local-items c.loop-local.local-index c.local-item.result c.rest.new.local
    (c.loop-local.invariant means) (c.rest.ensures means)

pub returns : goal.returns
returns c = λ means.
    let all = mixed_all (rested (setup_of c.args.setup.now means)) c.args.locals.now c.loop-local.local-index c.loop-local-test.false in
    c.loop-local.invariant means ∙ all
