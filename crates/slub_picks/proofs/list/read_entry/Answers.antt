use Rattle.slub_picks.proofs.Entries.{bare_worker, worker_and_reach}
use Rattle.slub_picks.proofs.list.read_entry.Goals as goal

pub returns-in_err-worker : goal.returns-in_err-worker
returns-in_err-worker c =
    rw c.from_residual.ensures (λ entry is. c.in_err-worker.ensures entry.worker (bare_worker c.args.text.now entry c.in_default.ensures is).0)

pub returns-in_err-worker-2 : goal.returns-in_err-worker-2
returns-in_err-worker-2 c =
    rw c.from_residual-in_err-worker-2.ensures (λ entry is. c.in_err-worker-2.ensures entry.worker (worker_and_reach c.args.text.now c.in-Some.front.now c.in-Some.behind.now entry c.in-Some.ensures.0 c.in-Some.ensures.1 is).0)

pub returns-in_err-reach : goal.returns-in_err-reach
returns-in_err-reach c =
    rw c.from_residual-in_err-reach.ensures (λ entry is. c.in_err-reach.ensures entry.reach (worker_and_reach c.args.text.now c.in-Some.front.now c.in-Some.behind.now entry c.in-Some.ensures.0 c.in-Some.ensures.1 is).1)
