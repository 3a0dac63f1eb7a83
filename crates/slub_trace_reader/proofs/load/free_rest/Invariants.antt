use Rattle.std.proofs.Common.{◌≡◌, ◌+◌, ◌*◌, ◌≤◌, ◌++◌, flat_map, vec_len, vec_capacity}
use Rattle.std.specs.List.{range_with_len}
use Rattle.slub_trace_reader.specs.Load.{last_frees}
use Rattle.slub_trace_reader.proofs.load.free_rest.Given as goal

abbrev pub invariant-loop-worker : goal.invariant-loop-worker
invariant-loop-worker l =
    (l.events.items ≡ l.initial.events.items ++ flat_map (last_frees l.initial.events.items) (range_with_len 0 l.worker))
    × (vec_len l.events ≤ vec_len l.initial.events + 64 * l.worker)
    × (vec_capacity l.events ≡ vec_capacity l.initial.events)
