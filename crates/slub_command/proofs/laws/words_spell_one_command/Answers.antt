use Rattle.slub_command.proofs.Unique.{one_command}
use Rattle.slub_command.proofs.laws.words_spell_one_command.Goals as goal

pub returns : goal.returns
returns c = one_command _
