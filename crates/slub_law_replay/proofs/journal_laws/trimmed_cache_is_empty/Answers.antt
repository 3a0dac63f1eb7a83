use Rattle.slub_law_replay.proofs.TrimmedLast.{trimmed-last}
use Rattle.slub_law_replay.proofs.journal_laws.trimmed_cache_is_empty.Goals as goal

pub returns : goal.returns
returns c = λ s round result cache after ends. trimmed-last s round result cache after ends
