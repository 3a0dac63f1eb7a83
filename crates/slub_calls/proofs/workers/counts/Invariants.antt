use Rattle.std.proofs.Common.{◌≡◌, length, map, take}
use Rattle.std.specs.List.{range_with_len}
use Rattle.slub_calls.specs.Calls.{events_by}
use Rattle.slub_calls.proofs.workers.counts.Given as goal

-- the first events are counted
abbrev pub invariant-loop-event : goal.invariant-loop-event
invariant-loop-event l = l.counts.items ≡ map (λ worker. length (events_by worker (take l.event-index l.events))) (range_with_len 0 l.fn.workers)
