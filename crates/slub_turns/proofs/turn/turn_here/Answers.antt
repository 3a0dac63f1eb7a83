use Rattle.slub_turns.proofs.Turned.{quick_fits}
use Rattle.slub_turns.proofs.turn.turn_here.Goals as goal

pub quick_turn-requires-clause-fits : goal.quick_turn-requires-clause-fits
quick_turn-requires-clause-fits c = quick_fits c.args.setup.now c.args.table.now c.args.values.now c.args.local.now c.requires.fits

pub quick_turn-requires-in-InAlloc-LoadNext-clause-fits : goal.quick_turn-requires-in-InAlloc-LoadNext-clause-fits
quick_turn-requires-in-InAlloc-LoadNext-clause-fits c = quick_fits c.args.setup.now c.args.table.now c.args.values.now c.args.local.now c.requires.fits

pub quick_turn-requires-in-InAlloc-Pop-clause-fits : goal.quick_turn-requires-in-InAlloc-Pop-clause-fits
quick_turn-requires-in-InAlloc-Pop-clause-fits c = quick_fits c.args.setup.now c.args.table.now c.args.values.now c.args.local.now c.requires.fits

pub quick_turn-requires-in-InFree-LoadOwn-clause-fits : goal.quick_turn-requires-in-InFree-LoadOwn-clause-fits
quick_turn-requires-in-InFree-LoadOwn-clause-fits c = quick_fits c.args.setup.now c.args.table.now c.args.values.now c.args.local.now c.requires.fits

pub quick_turn-requires-in-InFree-LinkOwn-clause-fits : goal.quick_turn-requires-in-InFree-LinkOwn-clause-fits
quick_turn-requires-in-InFree-LinkOwn-clause-fits c = quick_fits c.args.setup.now c.args.table.now c.args.values.now c.args.local.now c.requires.fits

pub quick_turn-requires-in-InFree-Push-clause-fits : goal.quick_turn-requires-in-InFree-Push-clause-fits
quick_turn-requires-in-InFree-Push-clause-fits c = quick_fits c.args.setup.now c.args.table.now c.args.values.now c.args.local.now c.requires.fits
