-- Of a write and a read the values of the locks are any.
use Rattle.slub_core.specs.Values.{values_of}
use Rattle.slub_turns.proofs.advance.advance_at.Goals as goal

pub returns-in-WriteWord : goal.returns-in-WriteWord
returns-in-WriteWord c = λ means. rw c.in-WriteWord.is (c.write_advance.ensures means (values_of c.args.values.now))

pub returns-in-ReadWord : goal.returns-in-ReadWord
returns-in-ReadWord c = λ means. rw c.in-ReadWord.is (c.read_advance.ensures means (values_of c.args.values.now))
