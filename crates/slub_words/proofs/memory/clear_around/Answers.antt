use Rattle.slub_words.proofs.Stored.{cleared}
use Rattle.slub_words.proofs.memory.clear_around.Goals as goal

pub returns : goal.returns
returns c = cleared c.args.row.now c.clear.new.row c.clear-2.new.row c.args.stored c.args.last c.requires.places.0 c.requires.places.1 c.requires.zeros c.clear.ensures c.clear-2.ensures
