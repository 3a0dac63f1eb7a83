use Rattle.slub_object_layout.proofs.Unique.{layouts_same}
use Rattle.slub_object_layout.proofs.laws.layout_is_unique.Goals as goal

pub returns : goal.returns
returns c = layouts_same c.args.spec.now c.args.cpus _ _ c.requires.one c.requires.other
