use Rattle.std.proofs.Common.{subst}
use Rattle.slub_core.specs.declared.spot.Spot.{Spot}
use Rattle.slub_core.specs.Setup.{Setup}
use Rattle.slub_core.specs.Facts.{setup_of}
use Rattle.slub_core.specs.Values.{values_of}
use Rattle.slub_schedule.specs.Table.{IsTableOf}
use Rattle.slub_turns.specs.Fits.{StepFits}
use Rattle.slub_turns.proofs.Turned.{fast_turn_is, fast_hears}
use Rattle.slub_turns.proofs.turn.quick_turn.Goals as goal

pub quick_step-step-requires : goal.quick_step-step-requires
quick_step-step-requires c =
    let (means, values, fits) = c.requires.fits in
    let P : Spot → Type 0 = λ s. StepFits c.args.setup.now.step c.args.local.now s in
    subst P c.requires.spot fits.step

pub lead-requires : goal.lead-requires
lead-requires c =
    let (means, values, fits) = c.requires.fits in
    let m : Setup = setup_of c.args.setup.now means in
    let heard = c.apply-heard.ensures.answer m (record { frames = c.requires.table.frames; objects = c.requires.table.objects }) in
    (means, fast_hears m c.args.table.now values c.args.local.now c.args.spot c.quick_step-step.result c.apply-heard.result c.requires.spot (c.quick_step-step.ensures means (values_of values)) heard fits)

pub returns-clause-turned : goal.returns-clause-turned
returns-clause-turned c = λ values means.
    let m : Setup = setup_of c.args.setup.now means in
    let of_table : IsTableOf m c.args.table.now = record { frames = c.requires.table.frames; objects = c.requires.table.objects } in
    let heard = c.apply-heard.ensures.answer m of_table in
    fast_turn_is m c.args.table.now c.apply-heard.new.self values c.args.local.now c.lead.new.local c.args.spot c.quick_step-step.result c.apply-heard.result c.requires.spot
    (c.quick_step-step.ensures means (values_of values)) (c.apply-heard.ensures.words m of_table) heard (c.lead.ensures means)
