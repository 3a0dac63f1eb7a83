use Rattle.slub_core.specs.Setup.{Setup}
use Rattle.slub_core.specs.Facts.{setup_of}
use Rattle.slub_turns.proofs.Turned.{begun_fits, begun_turn}
use Rattle.slub_turns.proofs.turn.turn_of.Goals as goal

pub turn_here-requires-clause-fits : goal.turn_here-requires-clause-fits
turn_here-requires-clause-fits c =
    let (means, rooms, fits) = c.requires.fits in
    let m : Setup = setup_of c.args.setup.now means in
    (means, rooms, begun_fits m c.args.tries c.args.table.now c.args.values.now c.args.local.now c.begin.new.local (c.begin.ensures means) fits)

pub returns-clause-turned : goal.returns-clause-turned
returns-clause-turned c = λ means.
    let m : Setup = setup_of c.args.setup.now means in
    begun_turn m c.args.tries c.turn_here.result c.args.table.now c.turn_here.new.table c.args.values.now c.turn_here.new.values c.args.local.now c.begin.new.local c.turn_here.new.local (c.begin.ensures means) (c.turn_here.ensures.turned means)
