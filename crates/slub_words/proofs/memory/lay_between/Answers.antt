use Rattle.slub_words.proofs.Stored.{laid-between}
use Rattle.slub_words.proofs.memory.lay_between.Goals as goal

pub returns-clause-row : goal.returns-clause-row
returns-clause-row c =
    laid-between c.args.before.now c.args.words.now c.args.behind.now c.args.row.now c.lay.new.row c.lay-2.new.row c.lay-3.new.row c.args.last c.requires.zeros c.requires.places.0 c.requires.places.1
    c.lay.ensures.row c.lay-2.ensures.row c.lay-3.ensures.row
