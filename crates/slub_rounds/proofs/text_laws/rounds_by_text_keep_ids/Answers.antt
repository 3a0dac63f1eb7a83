use Rattle.slub_rounds.proofs.TextLawful.{keep-ids}
use Rattle.slub_rounds.proofs.text_laws.rounds_by_text_keep_ids.Goals as goal

pub returns : goal.returns
returns c = keep-ids
