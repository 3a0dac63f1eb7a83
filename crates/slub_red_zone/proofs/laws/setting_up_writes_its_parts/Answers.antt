use Rattle.slub_red_zone.proofs.Parts.{set_up-writes}
use Rattle.slub_red_zone.proofs.laws.setting_up_writes_its_parts.Goals as goal

pub returns : goal.returns
returns c = set_up-writes c.args.layout.now c.requires.bounds c.args.flags.now c.args.slot.now c.requires.slot c.args.byte
