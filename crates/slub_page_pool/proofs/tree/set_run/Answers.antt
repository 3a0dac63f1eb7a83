-- Only the marks of the run change.
use Rattle.slub_page_pool.proofs.Refreshes.{IsIndexOutside-run}
use Rattle.std.proofs.Common.{◌^◌}
use Rattle.std.proofs.lemmas.Nat.{pow_pos}
use Rattle.slub_page_pool.proofs.tree.set_run.Goals as goal

pub refresh-requires-clause-outside : goal.refresh-requires-clause-outside
refresh-requires-clause-outside c =
    rw (c.set_run.ensures, c.run_len.ensures.count)
    (IsIndexOutside-run c.args.marks.now c.args.orders.now c.args.frame (2 ^ c.args.order) c.args.free c.requires.inside (pow_pos c.args.order) c.requires.index)
