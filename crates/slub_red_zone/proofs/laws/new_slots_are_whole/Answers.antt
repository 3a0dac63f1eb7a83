use Rattle.slub_red_zone.proofs.Parts.{new-whole}
use Rattle.slub_red_zone.proofs.laws.new_slots_are_whole.Goals as goal

pub returns : goal.returns
returns c = new-whole c.args.layout.now c.args.flags.now c.requires
