use Rattle.std.proofs.Common.{◌*◌, ◌%◌, List, [], ◌∷◌, ◌++◌, length, sym, ap, ◌∙◌, arith, vec_len}
use Rattle.std.proofs.lemmas.List.{length-append}
use Rattle.slub_trace.specs.declared.event.Event.{Event}
use Rattle.slub_trace.specs.Sound.{objects_of}
use Rattle.slub_trace_reader.specs.Generator.{drawn, next, state_after}
use Rattle.slub_trace_reader.specs.Load.{event_behind}
use Rattle.slub_trace_reader.proofs.Drawn.{state_first, state_two, drawn_none, drawn_more}
use Rattle.slub_trace_reader.proofs.load.Load.draw_events.Goals as goal

pub loop-init : goal.loop-init
loop-init c =
    let s = c.args.self.now in (
      sym (state_first s.generator.state),
      c.requires.none ∙ sym (drawn_none s.generator.state (vec_len s.held)),
      c.requires.held,
      c.requires.given ∙ ap (λ l. length (objects_of l)) (sym c.requires.none),
      omega arith,
      omega arith,
      omega (arith, s.events.ok, ap length c.requires.none),
    )

pub loop-preserved : goal.loop-preserved
loop-preserved c =
    let seed = c.args.self.now.generator.state in
    let workers = vec_len c.args.self.now.held in
    let before = c.loop.counter in
    let kept = c.loop.invariant in
    let es = c.loop.self.events.items in
    let x = state_after seed (2 * before) in (
      c.draw_event.ensures.state ∙ ap (λ s. next (next s)) kept.0 ∙ sym (state_two seed before),
      c.draw_event.ensures.event
          ∙ ap (λ s. es ++ event_behind es (drawn (next s) % vec_len c.loop.self.held) (drawn (next (next s)) % 8) ∷ []) kept.0
          ∙ ap (λ n. es ++ event_behind es (drawn (next x) % n) (drawn (next (next x)) % 8) ∷ []) kept.4
          ∙ ap (λ (l : List Event). l ++ event_behind l (drawn (next x) % workers) (drawn (next (next x)) % 8) ∷ []) kept.1
          ∙ sym (drawn_more seed workers before),
      c.draw_event.ensures.held,
      c.draw_event.ensures.given,
      c.draw_event.ensures.workers ∙ kept.4,
      c.draw_event.ensures.room ∙ kept.5,
      omega (arith, c.draw_event.new.self.events.ok, c.loop.self.events.ok, kept.6, ap length c.draw_event.ensures.event, length-append es (event_behind es (drawn (next c.loop.self.generator.state) % vec_len c.loop.self.held) (drawn (next (next c.loop.self.generator.state)) % 8) ∷ [])),
    )
