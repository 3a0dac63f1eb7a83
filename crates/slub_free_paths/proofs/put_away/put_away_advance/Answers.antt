-- The two ways on which the machine's layout decides, at each machine of these facts.
use Rattle.std.proofs.Common.{ap}
use Rattle.slub_core.specs.Local.{Local, goes}
use Rattle.slub_core.specs.Values.{values_of}
use Rattle.slub_free_paths.proofs.put_away.put_away_advance.Goals as goal

pub returns-in-WalkChain-Word : goal.returns-in-WalkChain-Word
returns-in-WalkChain-Word c = λ means. rw (c.in-WalkChain-Word.is-0, c.in-WalkChain-Word.is-1) (c.chain_walked.ensures means (values_of c.args.values.now))

pub returns-in-Unfreeze-Won : goal.returns-in-Unfreeze-Won
returns-in-Unfreeze-Won c = λ means. rw (c.in-Unfreeze-Won.is-0, c.in-Unfreeze-Won.is-1) (ap (λ (l : Local). goes l) (c.unfrozen.ensures means))
