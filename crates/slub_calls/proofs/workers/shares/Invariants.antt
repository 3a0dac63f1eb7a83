use Rattle.std.proofs.Common.{◌≡◌, map, take}
use Rattle.std.specs.List.{range_with_len}
use Rattle.slub_calls.specs.Calls.{events_by, worker_with}
use Rattle.slub_calls.specs.Share.{gathered}
use Rattle.slub_calls.proofs.workers.shares.Given as goal

-- the first events were handed out
abbrev pub invariant-loop-event : goal.invariant-loop-event
invariant-loop-event l =
    map gathered l.shares.items ≡ map (λ worker. worker_with l.table worker (events_by worker (take l.event-index l.events))) (range_with_len 0 l.fn.round.workers)
