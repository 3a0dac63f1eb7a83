use Rattle.slub_law_rounds.proofs.Unpoked.{written-value}
use Rattle.slub_law_rounds.proofs.laws.unpoked_values_were_written.Goals as goal

pub returns : goal.returns
returns c = λ before answers own object word value written is unpoked mine last small. written-value before answers own object word value written unpoked mine last small is
