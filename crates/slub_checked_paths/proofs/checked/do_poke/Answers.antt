use Rattle.std.proofs.Common.{refl}
use Rattle.slub_checked_paths.proofs.checked.do_poke.Goals as goal

pub returns-clause-change : goal.returns-clause-change
returns-clause-change c = λ means. rw (c.at.ensures, c.poke_in-reply.ensures.after, c.poke_in-reply.ensures.reply, c.cache.ensures) refl
