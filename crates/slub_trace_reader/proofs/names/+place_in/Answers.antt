use Rattle.std.proofs.lemmas.Bool.{false≢true}
use Rattle.slub_trace_reader.proofs.Places.{place_after}
use Rattle.slub_trace_reader.proofs.names.+place_in.Goals as goal

pub returns-clause-place : goal.returns-clause-place
returns-clause-place t c =
    place_after c.args.name.now c.in-Some.other.now c.in-Some.rest.now c.args.names.now c.place_in.result c.in-Some.ensures.cases.0 (λ same. false≢true (c.if-eq.ensures.1 same)) c.place_in.ensures.place
