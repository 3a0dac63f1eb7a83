use Rattle.std.proofs.Common.{◌≡◌, ◌+◌, ◌%◌, ◌<◌, List, [], ◌∷◌, ◌++◌, length, get_or, set, sym, ap, ◌∙◌, subst, arith, vec_len}
use Rattle.std.proofs.lemmas.List.{length-append, get_or_default}
use Rattle.std.proofs.Math.Nat.{mod-lt}
use Rattle.slub_trace.specs.declared.event.Event.{Event}
use Rattle.slub_trace.specs.Sound.{objects_of}
use Rattle.slub_trace_reader.specs.Generator.{drawn, next}
use Rattle.slub_trace_reader.specs.Kept.{AreHeld}
use Rattle.slub_trace_reader.specs.Load.{freed_of, held_by}
use Rattle.slub_trace_reader.proofs.Events.{event_is, few_objects, held_kept, held_more, event_worker, objects_append}
use Rattle.slub_trace_reader.proofs.load.Load.draw_event.Goals as goal

pub turn-event-requires-clause-few : goal.turn-event-requires-clause-few
turn-event-requires-clause-few c =
    let es = c.args.self.now.events in
    omega (arith, c.requires.given, few_objects es.items, es.ok, c.requires.few_events)

pub returns-clause-event : goal.returns-clause-event
returns-clause-event c =
    let s = c.args.self.now in
    let es = s.events.items in
    let worker = c.draw-first.result % c.len.result in
    let low : worker < length s.held.items = omega (arith, s.held.ok, c.len.ensures, c.requires.some_workers, mod-lt c.draw-first.result {m = c.len.result} (omega (arith, c.len.ensures, c.requires.some_workers))) in
    let queue : c.index_mut-held.result.now ≡ held_by worker es = c.index_mut-held.ensures.value ∙ get_or_default s.held.items worker _ [] low ∙ sym (held_kept es s.held.items c.requires.held worker) in
    let first : c.draw-first.result ≡ drawn (next s.generator.state) = c.draw-first.ensures.number ∙ ap drawn c.draw-first.ensures.state in
    let second : c.draw-second.result ≡ drawn (next (next s.generator.state)) = c.draw-second.ensures.number ∙ ap drawn (c.draw-second.ensures.state ∙ ap next c.draw-first.ensures.state) in
    c.push_reserved.ensures.items
    ∙ ap (λ e. es ++ e ∷ [])
    (c.turn-event.ensures.event
    ∙ event_is es c.index_mut-held.result.now worker (drawn (next s.generator.state) % vec_len s.held) (c.draw-second.result % 8) (drawn (next (next s.generator.state)) % 8) s.given queue
    (ap (λ n. n % c.len.result) first ∙ ap (λ n. drawn (next s.generator.state) % n) c.len.ensures) (ap (λ n. n % 8) second) c.requires.given)

pub returns-clause-held : goal.returns-clause-held
returns-clause-held c =
    let s = c.args.self.now in
    let es = s.events.items in
    let worker = c.draw-first.result % c.len.result in
    let low : worker < length s.held.items = omega (arith, s.held.ok, c.len.ensures, c.requires.some_workers, mod-lt c.draw-first.result {m = c.len.result} (omega (arith, c.len.ensures, c.requires.some_workers))) in
    let queue : c.index_mut-held.result.now ≡ get_or s.held.items worker [] = c.index_mut-held.ensures.value ∙ get_or_default s.held.items worker _ [] low in
    let own : c.turn-event.result.worker ≡ worker = ap (λ (e : Event). e.worker) c.turn-event.ensures.event ∙ event_worker c.index_mut-held.result.now worker (c.draw-second.result % 8) (s.given + 1) in
    let turned : get_or s.held.items worker [] ++ objects_of (c.turn-event.result ∷ []) ≡ freed_of (c.turn-event.result ∷ []) ++ c.turn-event.new.held =
    ap (λ l. l ++ objects_of (c.turn-event.result ∷ [])) (sym queue) ∙ c.turn-event.ensures.held in
    subst (λ (l : List Event). AreHeld l (set s.held.items worker c.turn-event.new.held)) (sym c.push_reserved.ensures.items)
    (held_more es s.held.items c.turn-event.result worker c.turn-event.new.held c.requires.held low own turned)

pub returns-clause-given : goal.returns-clause-given
returns-clause-given c =
    let es = c.args.self.now.events.items in
    c.turn-event.ensures.given ∙ ap (λ n. n + length (objects_of (c.turn-event.result ∷ []))) c.requires.given
    ∙ sym (length-append (objects_of es) (objects_of (c.turn-event.result ∷ [])))
    ∙ ap length (sym (objects_append es (c.turn-event.result ∷ []))) ∙ ap (λ l. length (objects_of l)) (sym c.push_reserved.ensures.items)
