use Rattle.std.proofs.Common.{◌≡◌, ◌+◌, [], ◌∷◌, ◌++◌, ◌∙◌, length, take, drop, flat_map, get_or, refl}
use Rattle.std.specs.List.{zip}
use Rattle.std.specs.Slice.Iter.{iter_rest}
use Rattle.std.specs.Iterator.Adapters.{zip_first, zip_second}
use Rattle.std.proofs.KnownBytes.{Appends-trans}
use Rattle.std.proofs.lemmas.List.Elements.{All-get_or}
use Rattle.std.proofs.lemmas.Result.{err_from_is_err_and}
use Rattle.std.proofs.lemmas.Slice.Zip.{zip_turn, zip_end}
use Rattle.slub_edges.proofs.Told.{AppendsFront-within}
use Rattle.slub_slabinfo_text.specs.Texts.{IsNamed}
use Rattle.slub_slabinfo_text.specs.Lines.{event_text}
use Rattle.slub_slabinfo_text.proofs.Zips.{length-snoc, pieces_more, pieces_whole}
use Rattle.slub_slabinfo_text.proofs.Pairs.{pieces_split}
use Rattle.slub_slabinfo_text.proofs.Given.{given-more}
use Rattle.slub_slabinfo_text.proofs.replies.write_events.Goals as goal

pub write_event-requires-clause-named : goal.write_event-requires-clause-named
write_event-requires-clause-named g c =
    let first : iter_rest (zip_first c.into_iter-event-iterator.result) ≡ c.args.events.now = cc in
    let second : iter_rest (zip_second c.into_iter-event-iterator.result) ≡ c.args.answers.now = cc in
    let turn = zip_turn c.args.events.now c.args.answers.now c.loop-event.yielded c.into_iter-event-iterator.result c.loop-event.event-iterator c.next.new.self c.next.result first second c.loop-event.yielded_by (c.in-Some.event, c.in-Some.reply) c.in-Some.is c.next.ensures.steps in
    let answered : IsNamed c.args.names.now (get_or c.args.events.now (length c.loop-event.yielded) c.in-Some.event.now).act = All-get_or (λ event. IsNamed c.args.names.now event.act) c.args.events.now _ _ turn.0 c.requires.named in
    rw (turn.2 c.in-Some.event.now) answered

pub loop-event-preserved : goal.loop-event-preserved
loop-event-preserved g c =
    let first : iter_rest (zip_first c.into_iter-event-iterator.result) ≡ c.args.events.now = cc in
    let second : iter_rest (zip_second c.into_iter-event-iterator.result) ≡ c.args.answers.now = cc in
    let turn = zip_turn c.args.events.now c.args.answers.now c.loop-event.yielded c.into_iter-event-iterator.result c.loop-event.event-iterator c.next.new.self c.next.result first second c.loop-event.yielded_by (c.in-Some.event, c.in-Some.reply) c.in-Some.is c.next.ensures.steps in
    let n : length (c.loop-event.yielded ++ (c.in-Some.event, c.in-Some.reply) ∷ []) ≡ length c.loop-event.yielded + 1 = length-snoc _ _ in
    let (appended, still, room, given) = c.loop-event.invariant in
    let f = event_text c.args.replies c.args.names.now in
    let done = flat_map f (take (length c.loop-event.yielded) (zip c.args.events.now c.args.answers.now)) in
    let piece = f (c.in-Some.event.now, c.in-Some.reply.now) in
    let more = pieces_more f c.args.events.now c.args.answers.now (length c.loop-event.yielded) c.in-Some.event.now c.in-Some.reply.now [] done (done ++ piece) turn.0 turn.1 (turn.2 _) (turn.3 _) refl refl in (
      rw (n, ← more) (Appends-trans (g.K.Sink.taken c.args.sink.now) (g.K.Sink.taken c.loop-event.sink) (g.K.Sink.taken c.write_event.new.sink) done piece appended c.in_ok-write_event.ensures.ok),
      c.in_ok-write_event.ensures.still ∙ still,
      c.in_ok-write_event.ensures.room,
      given-more (g.K.Sink.pieces c.args.sink.now) (g.K.Sink.pieces c.loop-event.sink) (g.K.Sink.pieces c.write_event.new.sink) given c.in_ok-write_event.ensures.lines,
    )

pub returns-in_err-write_event-clause-err : goal.returns-in_err-write_event-clause-err
returns-in_err-write_event-clause-err g c =
    let p = err_from_is_err_and c.from_residual.result c.from_residual.ensures.1 in
    let first : iter_rest (zip_first c.into_iter-event-iterator.result) ≡ c.args.events.now = cc in
    let second : iter_rest (zip_second c.into_iter-event-iterator.result) ≡ c.args.answers.now = cc in
    let turn = zip_turn c.args.events.now c.args.answers.now c.loop-event.yielded c.into_iter-event-iterator.result c.loop-event.event-iterator c.next.new.self c.next.result first second c.loop-event.yielded_by (c.in-Some.event, c.in-Some.reply) c.in-Some.is c.next.ensures.steps in
    let f = event_text c.args.replies c.args.names.now in
    let split = pieces_split f c.args.events.now c.args.answers.now (length c.loop-event.yielded) c.in-Some.event.now c.in-Some.reply.now turn.0 turn.1 (turn.2 _) (turn.3 _) in
    let pairs = zip c.args.events.now c.args.answers.now in
    let n = length c.loop-event.yielded in
    rw p.1 (AppendsFront-within (g.K.Sink.taken c.args.sink.now) (g.K.Sink.taken c.loop-event.sink) (g.K.Sink.taken c.write_event.new.sink) (flat_map f pairs) (flat_map f (take n pairs)) (f (c.in-Some.event.now, c.in-Some.reply.now)) (flat_map f (drop (n + 1) pairs)) split c.loop-event.invariant.0 c.in_err-write_event.ensures.err)

pub returns-in_err-write_event-clause-lines : goal.returns-in_err-write_event-clause-lines
returns-in_err-write_event-clause-lines g c =
    given-more (g.K.Sink.pieces c.args.sink.now) (g.K.Sink.pieces c.loop-event.sink) (g.K.Sink.pieces c.write_event.new.sink) c.loop-event.invariant.3 c.in_err-write_event.ensures.lines

pub returns-clause-ok : goal.returns-clause-ok
returns-clause-ok g c =
    let first : iter_rest (zip_first c.into_iter-event-iterator.result) ≡ c.args.events.now = cc in
    let second : iter_rest (zip_second c.into_iter-event-iterator.result) ≡ c.args.answers.now = cc in
    let ended = zip_end c.args.events.now c.args.answers.now c.loop-event.yielded c.into_iter-event-iterator.result c.loop-event.event-iterator c.next.new.self c.next.result first second c.loop-event.yielded_by c.in-None.is c.next.ensures.steps in
    let whole = pieces_whole (event_text c.args.replies c.args.names.now) c.args.events.now c.args.answers.now (length c.loop-event.yielded) [] _ ended refl in
    rw (← whole) c.loop-event.invariant.0
