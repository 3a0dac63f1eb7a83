use Rattle.std.proofs.Common.{false, refl}
use Rattle.slub_core.specs.Setup.{Setup}
use Rattle.slub_core.specs.Facts.{setup_of}
use Rattle.slub_core.specs.Ways as ways
use Rattle.slub_schedule.specs.Table.{IsTableOf}
use Rattle.slub_turns.specs.System.{alone}
use Rattle.slub_turns.proofs.Turned.{step_fits, step_is, answer_is, settled_fits, turn_is}
use Rattle.slub_turns.proofs.turn.turn_at.Goals as goal

pub step_at-step-requires : goal.step_at-step-requires
step_at-step-requires c =
    let (means, rooms, fits) = c.requires.fits in
    step_fits c.args.setup.now.step c.args.local.now c.args.local.now c.args.spot refl c.requires.spot (fits false).step

pub advance_at-reply-requires : goal.advance_at-reply-requires
advance_at-reply-requires c =
    let (means, rooms, fits) = c.requires.fits in
    step_fits c.args.setup.now.step c.args.local.now c.args.local.now c.args.spot refl c.requires.spot (fits false).step

pub settle-refused-requires : goal.settle-refused-requires
settle-refused-requires c =
    let (means, rooms, fits) = c.requires.fits in
    let m : Setup = setup_of c.args.setup.now means in
    let told = c.apply-answer.ensures.answer m (record { frames = c.requires.table.frames; objects = c.requires.table.objects }) in
    let is = answer_is m c.args.table.now c.args.values.now c.args.local.now c.args.spot c.step_at-step.result c.requires.spot (c.step_at-step.ensures means)
    c.apply-answer.result c.advance_at-reply.new.local c.advance_at-reply.result told (c.advance_at-reply.ensures means) in
    (means, settled_fits m c.args.values.now (alone c.args.table.now c.args.values.now c.args.local.now) c.args.local.now c.advance_at-reply.new.local c.advance_at-reply.result fits rooms is)

pub returns-clause-turned : goal.returns-clause-turned
returns-clause-turned c = λ means.
    let m : Setup = setup_of c.args.setup.now means in
    let of_table : IsTableOf m c.args.table.now = record { frames = c.requires.table.frames; objects = c.requires.table.objects } in
    let told = c.apply-answer.ensures.answer m of_table in
    let made = step_is m c.args.table.now c.args.values.now c.args.local.now c.args.spot c.step_at-step.result c.requires.spot (c.step_at-step.ensures means) in
    let is = answer_is m c.args.table.now c.args.values.now c.args.local.now c.args.spot c.step_at-step.result c.requires.spot (c.step_at-step.ensures means)
    c.apply-answer.result c.advance_at-reply.new.local c.advance_at-reply.result told (c.advance_at-reply.ensures means) in
    let change = c.settle-refused.ensures.change means in
    turn_is m c.args.table.now c.apply-answer.new.self c.args.values.now c.settle-refused.new.values c.args.local.now c.settle-refused.new.local c.rest.new.local c.step_at-step.result
    (ways.changed c.args.values.now c.advance_at-reply.new.local c.advance_at-reply.result) c.settle-refused.result made (c.apply-answer.ensures.words m of_table) is change.0 change.1 (c.rest.ensures means)
