use Rattle.slub_recorded.proofs.Titles.{slots_are}
use Rattle.slub_recorded.proofs.laws.first_free_tells_slot.Goals as goal

pub returns : goal.returns
returns c = slots_are c.args.names c.args.objects.now c.args.moves.now c.args.name c.requires
