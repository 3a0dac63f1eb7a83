use Rattle.std.proofs.Common.{length}
use Rattle.slub_trace_reader.proofs.Fronts.{Run}
use Rattle.slub_trace_reader.proofs.digits.digits.Given as goal

abbrev pub invariant-loop-c : goal.invariant-loop-c
invariant-loop-c l = Run l.fn.first l.fn.bytes l.rest l.n

abbrev pub decreases-loop-c : goal.decreases-loop-c
decreases-loop-c l = length l.rest
