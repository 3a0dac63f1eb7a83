use Rattle.std.proofs.Common.{◌∷◌, subst}
use Rattle.std.specs.List.{FoldsTo}
use Rattle.slub_core.specs.Local.{Local}
use Rattle.slub_core.specs.Setup.{Setup}
use Rattle.slub_core.specs.Facts.{setup_of}
use Rattle.slub_turns.specs.Happenings.{Begins, step_told}
use Rattle.slub_turns.specs.System.{alone}
use Rattle.slub_turns.proofs.Turned.{begun_fits, begun_turn}
use Rattle.slub_turns.proofs.watched_turn.watched_turn.Goals as goal
use Rattle.std.proofs.Common.{false}

pub watched_step-requires-clause-fits : goal.watched_step-requires-clause-fits
watched_step-requires-clause-fits g c =
    let (means, rooms, fits) = c.requires.fits in
    let m : Setup = setup_of c.args.setup.now means in
    (means, rooms, begun_fits m false c.args.table.now c.args.values.now c.args.local.now c.begin.new.local (c.begin.ensures means) fits)

pub returns-clause-turned : goal.returns-clause-turned
returns-clause-turned g c = λ means.
    let m : Setup = setup_of c.args.setup.now means in
    begun_turn m false c.watched_step.result c.args.table.now c.watched_step.new.table c.args.values.now c.watched_step.new.values c.args.local.now c.begin.new.local c.watched_step.new.local (c.begin.ensures means) (c.watched_step.ensures.turned means)

pub returns-clause-told : goal.returns-clause-told
returns-clause-told g c = λ means.
    let m : Setup = setup_of c.args.setup.now means in
    let refused = c.watched_step.result in
    let P : Local → Type 0 = λ x. FoldsTo (g.W.Watch.hears c.args.setup.now) c.args.watch.now (Begins x ∷ step_told m refused (alone c.args.table.now c.args.values.now c.args.local.now) x) c.watched_step.new.watch in
    subst P (c.begin.ensures means) (c.begins.new.self, c.begins.ensures, c.watched_step.ensures.told means)
