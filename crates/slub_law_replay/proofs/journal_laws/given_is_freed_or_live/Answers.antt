use Rattle.slub_law_replay.proofs.Totals.{given_is_live}
use Rattle.slub_law_replay.proofs.journal_laws.given_is_freed_or_live.Goals as goal

pub returns : goal.returns
returns c = given_is_live c.args.way c.args.trace.now c.args.journal.now c.requires.sound c.requires.lawful
