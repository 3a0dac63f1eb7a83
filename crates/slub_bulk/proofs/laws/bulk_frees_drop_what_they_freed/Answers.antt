use Rattle.slub_bulk.proofs.Leaving.{frees}
use Rattle.slub_bulk.proofs.laws.bulk_frees_drop_what_they_freed.Goals as goal

pub returns : goal.returns
returns c = frees c.rounds_by_text_are_lawful.ensures
