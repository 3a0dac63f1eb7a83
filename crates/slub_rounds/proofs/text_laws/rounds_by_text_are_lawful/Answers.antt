use Rattle.slub_rounds.proofs.TextLawful.{text-lawful}
use Rattle.slub_rounds.proofs.text_laws.rounds_by_text_are_lawful.Goals as goal

pub returns : goal.returns
returns c = text-lawful
