use Rattle.std.proofs.Common.{◌≡◌, ◌∙◌, [], get_or, subst}
use Rattle.std.proofs.lemmas.List.{get_or_default}
use Rattle.slub_trace_reader.proofs.Places.{IsNotFront, none_more, place_found}
use Rattle.slub_trace_reader.proofs.names.one_before.Goals as goal

pub loop-place-preserved : goal.loop-place-preserved
loop-place-preserved c =
    let here : c.index-names-place.result ≡ get_or c.args.names.now c.loop-place.place [] = c.index-names-place.is ∙ get_or_default c.args.names.now c.loop-place.place _ [] c.loop-place-test.true in
    none_more c.args.names.now c.args.bytes.now c.loop-place.place c.loop-place.invariant (subst (λ n. IsNotFront c.args.bytes.now n) here c.in_default.ensures.none)

pub returns-in-Some : goal.returns-in-Some
returns-in-Some c =
    let here : c.index-names-place.result ≡ get_or c.args.names.now c.loop-place.place [] = c.index-names-place.is ∙ get_or_default c.args.names.now c.loop-place.place _ [] c.loop-place-test.true in
    place_found c.args.names.now c.args.bytes.now c.index-names-place.result c.in-Some.rest.now c.loop-place.place c.loop-place-test.true here c.loop-place.invariant c.in-Some.ensures.found c.in-Some.ensures.named
