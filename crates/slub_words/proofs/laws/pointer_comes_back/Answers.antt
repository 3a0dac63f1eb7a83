use Rattle.slub_words.proofs.Pointers.{come_back}
use Rattle.slub_words.proofs.laws.pointer_comes_back.Goals as goal

pub returns : goal.returns
returns c = come_back c.args.pointer c.args.random c.args.place
