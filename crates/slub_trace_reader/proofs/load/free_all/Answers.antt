use Rattle.std.proofs.Common.{◌%◌, ◌<◌, List, [], ◌∷◌, ◌++◌, length, map, take, get_or, sym, ap, ◌∙◌, append_assoc, arith}
use Rattle.std.proofs.lemmas.List.{map-append, take_more}
use Rattle.slub_trace.specs.declared.event.Event.{Event}
use Rattle.slub_trace_reader.specs.Load.{free_by}
use Rattle.slub_trace_reader.proofs.load.free_all.Goals as goal

pub loop-place-preserved : goal.loop-place-preserved
loop-place-preserved c =
    let f = free_by c.args.worker (c.args.worker % 4) in
    let held = c.args.held.now in
    let before = take c.loop-place.place held in
    let object = get_or held c.loop-place.place 0 in
    let low : c.loop-place.place < length held = omega (arith, c.loop-place-test.true, c.len-place-end.ensures.value) in (
      c.push_reserved.ensures.items ∙ ap (λ (l : List Event). l ++ c.free.result ∷ []) c.loop-place.invariant.0
          ∙ ap (λ e. (c.args.events.now.items ++ map f before) ++ e ∷ []) (c.free.ensures ∙ ap f c.at.ensures)
          ∙ append_assoc c.args.events.now.items (map f before) (f object ∷ [])
          ∙ ap (λ l. c.args.events.now.items ++ l) (sym (map-append f before (object ∷ [])) ∙ ap (map f) (sym (take_more held c.loop-place.place 0 low))),
      omega (arith, c.push_reserved.ensures.len, c.loop-place.invariant.1),
      c.push_reserved.ensures.capacity ∙ c.loop-place.invariant.2,
    )
