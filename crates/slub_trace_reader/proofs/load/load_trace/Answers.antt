use Rattle.std.proofs.Common.{◌≡◌, ℕ, List, [], length, sym, ap, ◌∙◌, subst, arith, vec_len}
use Rattle.std.proofs.lemmas.List.{length-replicate}
use Rattle.slub_trace.specs.Sound.{IsSound, objects_of}
use Rattle.slub_trace_reader.specs.Load.{drawn_events, emptied, items_of, load_events}
use Rattle.slub_trace_reader.proofs.Long.{drawn_long}
use Rattle.slub_trace_reader.proofs.Made.{made, load_is}
use Rattle.slub_trace_reader.proofs.Sound.{sound}
use Rattle.slub_trace_reader.proofs.load.load_trace.Goals as goal

pub free_rest-requires-clause-room : goal.free_rest-requires-clause-room
free_rest-requires-clause-room c =
    let load = c.in_ok-load.load in
    omega (
      arith,
      c.draw_events.new.self.events.ok,
      ap length c.draw_events.ensures.events,
      drawn_long load.generator.state (vec_len load.held) c.args.events,
      c.deref.ensures.len,
      c.draw_events.ensures.workers,
      load.held.ok,
      ap length c.in_ok-load.ensures.held,
      length-replicate {A = List ℕ} c.args.workers [],
      c.in_ok-load.ensures.room,
      c.draw_events.ensures.room,
    )

pub returns-clause-made : goal.returns-clause-made
returns-clause-made c =
    let load = c.in_ok-load.load in
    let seed = c.args.seed in
    let workers = c.args.workers in
    let count = c.args.events in
    let many : vec_len load.held ≡ workers = omega (arith, load.held.ok, ap length c.in_ok-load.ensures.held, length-replicate {A = List ℕ} workers []) in
    let drawn : c.draw_events.new.self.events.items ≡ drawn_events seed workers count =
    c.draw_events.ensures.events ∙ ap (λ s. drawn_events s (vec_len load.held) count) c.in_ok-load.ensures.state ∙ ap (λ n. drawn_events seed n count) many in
    let events : c.free_rest.new.events.items ≡ load_events seed count workers =
    c.free_rest.ensures ∙ ap (λ n. emptied n c.draw_events.new.self.events.items) (c.deref.ensures.len ∙ c.draw_events.ensures.workers ∙ many)
    ∙ ap (emptied workers) drawn ∙ load_is seed count workers in
    made seed count workers c.draw_events.new.self.given c.in_ok-names.names c.from_vec.result
    (c.draw_events.ensures.given ∙ ap (λ l. length (objects_of l)) drawn) c.in_ok-names.ensures (c.from_vec.ensures ∙ c.push_rest.ensures ∙ ap (items_of workers) events)

pub returns-clause-sound : goal.returns-clause-sound
returns-clause-sound c =
    subst IsSound (sym (returns-clause-made c)) (sound c.args.seed c.args.events c.args.workers c.requires.some_workers c.requires.few_workers c.requires.few_events)
