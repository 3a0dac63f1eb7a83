use Rattle.slub_recorded.proofs.Owning.{owns_are}
use Rattle.slub_recorded.proofs.laws.own_free_names.Goals as goal

pub returns : goal.returns
returns c = owns_are c.args.slots.now c.args.objects.now c.args.moves.now c.args.object c.args.born.now c.requires
