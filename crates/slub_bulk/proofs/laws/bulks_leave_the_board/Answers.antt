use Rattle.slub_bulk.proofs.Leaving.{bulks}
use Rattle.slub_bulk.proofs.laws.bulks_leave_the_board.Goals as goal

pub returns : goal.returns
returns c = bulks c.rounds_by_text_are_lawful.ensures
