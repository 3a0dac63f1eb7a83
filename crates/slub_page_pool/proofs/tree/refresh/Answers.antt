-- Row by row, each run that has a changed frame is joined anew.
use Rattle.std.proofs.Common.{arith}
use Rattle.slub_page_pool.proofs.Refreshes.{row_within, Refreshed-start, Refreshed-run}
use Rattle.slub_page_pool.proofs.tree.refresh.Goals as goal

pub loop-order-init : goal.loop-order-init
loop-order-init c = Refreshed-start c.requires.outside

pub refresh_run-requires-clause-within : goal.refresh_run-requires-clause-within
refresh_run-requires-clause-within c = row_within c.args.last c.loop-order.order c.loop-place.place c.requires.few (omega arith) c.loop-place-test.true

pub loop-place-preserved : goal.loop-place-preserved
loop-place-preserved c =
    rw c.refresh_run.ensures (Refreshed-run c.loop-place.invariant (omega arith) (row_within c.args.last c.loop-order.order c.loop-place.place c.requires.few (omega arith) c.loop-place-test.true))
