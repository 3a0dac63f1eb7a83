use Rattle.std.proofs.Common.{rules}
use Rattle.slub_words.specs.Words.{freelist_ptr}
use Rattle.slub_words.proofs.free.freelist_ptr.Goals as goal

pub returns : goal.returns
unfolding freelist_ptr
returns c = search rules
