use Rattle.slub_red_zone.proofs.Parts.{given-whole, taken-whole}
use Rattle.slub_red_zone.proofs.laws.no_damage_where_whole.Goals as goal

pub returns-clause-given : goal.returns-clause-given
returns-clause-given c = given-whole c.args.layout.now c.requires.bounds c.args.flags.now c.args.slot.now c.requires.slot

pub returns-clause-taken : goal.returns-clause-taken
returns-clause-taken c = taken-whole c.args.layout.now c.requires.bounds c.args.flags.now c.args.slot.now c.requires.slot
