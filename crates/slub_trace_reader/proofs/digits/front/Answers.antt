use Rattle.slub_trace_reader.proofs.Fronts.{zero_front}
use Rattle.slub_trace_reader.proofs.digits.front.Goals as goal

pub returns-then-c-eq48-clause-front : goal.returns-then-c-eq48-clause-front
returns-then-c-eq48-clause-front c = zero_front c.args.bytes.now c.in_ok-c.c.now c.in_ok-c.rest.now c.in_ok-c.ensures.cases.0 c.if-c-eq48.true
