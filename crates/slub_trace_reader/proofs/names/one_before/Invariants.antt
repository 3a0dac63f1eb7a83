use Rattle.std.proofs.Common.{ℕ, ◌<◌, ◌-◌, [], get_or, length}
use Rattle.slub_trace_reader.proofs.Places.{IsNotFront}
use Rattle.slub_trace_reader.proofs.names.one_before.Given as goal

abbrev pub invariant-loop-place : goal.invariant-loop-place
invariant-loop-place l = (k : ℕ) → k < l.place → IsNotFront l.fn.bytes (get_or l.fn.names k [])

abbrev pub decreases-loop-place : goal.decreases-loop-place
decreases-loop-place l = length l.names - l.place
