use Rattle.std.proofs.Common.{rules}
use Rattle.slub_words.proofs.Pointers.{come_back}
use Rattle.slub_words.proofs.free.FreePtr.pack.Goals as goal

pub returns-clause-whole : goal.returns-clause-whole
returns-clause-whole c = rw (c.freelist_ptr.ensures, come_back) (search rules)
