-- The halves of a run are runs of the order below.
use Rattle.std.proofs.Common.{arith}
use Rattle.slub_page_pool.proofs.Refreshes.{halves_within}
use Rattle.slub_page_pool.proofs.tree.refresh_run.Goals as goal

pub kept-left-requires-clause-within : goal.kept-left-requires-clause-within
kept-left-requires-clause-within c = omega (arith, halves_within c.args.order c.args.place c.requires.known c.requires.within)

pub kept-right-requires-clause-within : goal.kept-right-requires-clause-within
kept-right-requires-clause-within c = halves_within c.args.order c.args.place c.requires.known c.requires.within
