use Rattle.slub_red_zone.proofs.Parts.{given-tells, taken-tells}
use Rattle.slub_red_zone.proofs.laws.damage_tells.Goals as goal

pub returns-clause-given : goal.returns-clause-given
returns-clause-given c = given-tells c.args.layout.now c.requires.bounds c.args.flags.now c.args.slot.now c.requires.slot

pub returns-clause-taken : goal.returns-clause-taken
returns-clause-taken c = taken-tells c.args.layout.now c.requires.bounds c.args.flags.now c.args.slot.now c.requires.slot
