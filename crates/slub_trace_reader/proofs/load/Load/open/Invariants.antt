use Rattle.std.proofs.Common.{◌≡◌, [], replicate}
use Rattle.slub_trace_reader.proofs.load.Load.open.Given as goal

abbrev pub invariant-loop : goal.invariant-loop
invariant-loop l = l.held.items ≡ replicate l.counter []
