use Rattle.std.proofs.Common.{sym, subst}
use Rattle.slub_lists.specs.Coherent.{IsConsistent}
use Rattle.slub_lists.proofs.Kept.{consistent-of}
use Rattle.slub_open_close.proofs.opening.open.Goals as goal

pub opened-requires-clause-consistent : goal.opened-requires-clause-consistent
opened-requires-clause-consistent c = subst IsConsistent (sym c.into_parts-parts.ensures) (consistent-of c.args.lists c.requires.coherent)
