use Rattle.slub_bulk.proofs.Leaving.{bulks_add}
use Rattle.slub_bulk.proofs.laws.bulks_of_all_add_their_numbers.Goals as goal

pub returns : goal.returns
returns c = bulks_add c.rounds_by_text_are_lawful.ensures
