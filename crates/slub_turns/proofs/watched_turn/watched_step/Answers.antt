use Rattle.std.proofs.Common.{◌≡◌, ◌∙◌, ◌∷◌, [], false, List, refl, ap, subst}
use Rattle.std.specs.List.{FoldsTo}
use Rattle.slub_core.specs.Setup.{Setup}
use Rattle.slub_core.specs.Facts.{setup_of}
use Rattle.slub_core.specs.Values.{values_of}
use Rattle.slub_core.specs.Ways as ways
use Rattle.slub_schedule.specs.Table.{IsTableOf}
use Rattle.slub_turns.specs.Happenings.{Happening, Steps, Rests, settling_told, step_told}
use Rattle.slub_turns.specs.System.{alone}
use Rattle.slub_turns.proofs.Told.{heard_then, told_after, answer_is_told, step_is_told}
use Rattle.slub_turns.proofs.Turned.{step_fits, step_is, answer_is, settled_fits, turn_is}
use Rattle.slub_turns.proofs.watched_turn.watched_step.Goals as goal

pub step_at-step-requires : goal.step_at-step-requires
step_at-step-requires g c =
    let (means, rooms, fits) = c.requires.fits in
    step_fits c.args.setup.now.step c.args.local.now c.args.local.now c.spot-spot.result refl c.spot-spot.ensures (fits false).step

pub advance_at-reply-requires : goal.advance_at-reply-requires
advance_at-reply-requires g c =
    let (means, rooms, fits) = c.requires.fits in
    step_fits c.args.setup.now.step c.args.local.now c.args.local.now c.spot-spot.result refl c.spot-spot.ensures (fits false).step

pub watched_settle-refused-requires : goal.watched_settle-refused-requires
watched_settle-refused-requires g c =
    let (means, rooms, fits) = c.requires.fits in
    let m : Setup = setup_of c.args.setup.now means in
    let told = c.apply-answer.ensures.answer m (record { frames = c.requires.table.frames; objects = c.requires.table.objects }) in
    let is = answer_is m c.args.table.now c.args.values.now c.args.local.now c.spot-spot.result c.step_at-step.result c.spot-spot.ensures (c.step_at-step.ensures means)
    c.apply-answer.result c.advance_at-reply.new.local c.advance_at-reply.result told (c.advance_at-reply.ensures means) in
    (means, settled_fits m c.args.values.now (alone c.args.table.now c.args.values.now c.args.local.now) c.args.local.now c.advance_at-reply.new.local c.advance_at-reply.result fits rooms is)

pub returns-clause-turned : goal.returns-clause-turned
returns-clause-turned g c = λ means.
    let m : Setup = setup_of c.args.setup.now means in
    let of_table : IsTableOf m c.args.table.now = record { frames = c.requires.table.frames; objects = c.requires.table.objects } in
    let told = c.apply-answer.ensures.answer m of_table in
    let made = step_is m c.args.table.now c.args.values.now c.args.local.now c.spot-spot.result c.step_at-step.result c.spot-spot.ensures (c.step_at-step.ensures means) in
    let is = answer_is m c.args.table.now c.args.values.now c.args.local.now c.spot-spot.result c.step_at-step.result c.spot-spot.ensures (c.step_at-step.ensures means)
    c.apply-answer.result c.advance_at-reply.new.local c.advance_at-reply.result told (c.advance_at-reply.ensures means) in
    let change = c.watched_settle-refused.ensures.change means in
    turn_is m c.args.table.now c.apply-answer.new.self c.args.values.now c.watched_settle-refused.new.values c.args.local.now c.watched_settle-refused.new.local c.watched_rest.new.local c.step_at-step.result
    (ways.changed c.args.values.now c.advance_at-reply.new.local c.advance_at-reply.result) c.watched_settle-refused.result made (c.apply-answer.ensures.words m of_table) is change.0 change.1 (c.watched_rest.ensures.rested means)

pub returns-clause-told : goal.returns-clause-told
returns-clause-told g c = λ means.
    let m : Setup = setup_of c.args.setup.now means in
    let R = g.W.Watch.hears c.args.setup.now in
    let values = c.args.values.now in
    let now = c.watched_settle-refused.new.values in
    let k = c.args.local.now in
    let after = c.advance_at-reply.new.local in
    let reply = c.advance_at-reply.result in
    let n = c.watched_settle-refused.new.local in
    let refused = c.watched_settle-refused.result in
    let of_table : IsTableOf m c.args.table.now = record { frames = c.requires.table.frames; objects = c.requires.table.objects } in
    let told = c.apply-answer.ensures.answer m of_table in
    let made = step_is m c.args.table.now values k c.spot-spot.result c.step_at-step.result c.spot-spot.ensures (c.step_at-step.ensures means) in
    let is = answer_is m c.args.table.now values k c.spot-spot.result c.step_at-step.result c.spot-spot.ensures (c.step_at-step.ensures means) c.apply-answer.result after reply told (c.advance_at-reply.ensures means) in
    let step : Happening = Steps (values_of values) k c.step_at-step.result c.apply-answer.result in
    let list : step ∷ told_after m refused values now after reply n c.watched_rest.new.local ≡ step_told m refused (alone c.args.table.now values k) k =
    ap (λ (hs : List Happening). step ∷ hs) (answer_is_told m refused values now after reply n c.watched_rest.new.local (c.watched_settle-refused.ensures.change means) (c.watched_rest.ensures.rested means))
    ∙ step_is_told m refused c.args.table.now values k c.step_at-step.result c.apply-answer.result (ways.changed values after reply) made told is in
    let P : List Happening → Type 0 = λ hs. FoldsTo R c.args.watch.now hs c.watched_rest.new.watch in
    let settling = settling_told m refused (ways.changed values after reply) in
    let heard = heard_then R c.advanced.new.self settling (Rests (values_of now) _ c.watched_rest.new.local ∷ []) c.watched_settle-refused.new.watch c.watched_rest.new.watch (c.watched_settle-refused.ensures.told means) (c.watched_rest.new.watch, c.watched_rest.ensures.told, refl) in
    subst P list (c.stepped.new.self, c.stepped.ensures, (c.advanced.new.self, c.advanced.ensures, heard))
