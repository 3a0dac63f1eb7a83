use Rattle.std.proofs.Common.{◌≡◌, ◌+◌, ◌%◌, ◌++◌, map, take, vec_len, vec_capacity}
use Rattle.slub_trace_reader.specs.Load.{free_by}
use Rattle.slub_trace_reader.proofs.load.free_all.Given as goal

abbrev pub invariant-loop-place : goal.invariant-loop-place
invariant-loop-place l =
    (l.events.items ≡ l.initial.events.items ++ map (free_by l.worker (l.worker % 4)) (take l.place l.held))
    × (vec_len l.events ≡ vec_len l.initial.events + l.place)
    × (vec_capacity l.events ≡ vec_capacity l.initial.events)
