use Rattle.std.proofs.Common.{◌≡◌, ◌+◌, [], ◌∷◌, ◌++◌, true, length}
use Rattle.std.specs.Slice.Iter.{iter_rest}
use Rattle.std.specs.Iterator.Adapters.{zip_first, zip_second}
use Rattle.std.proofs.lemmas.Slice.Zip.{zip_turn, zip_end}
use Rattle.slub_slabinfo_text.specs.Lines.{event_text}
use Rattle.slub_slabinfo_text.proofs.Zips.{length-snoc, pieces_more, pieces_whole}
use Rattle.slub_outcomes.proofs.replies.push_events.Goals as goal

pub loop-event-preserved : goal.loop-event-preserved
loop-event-preserved c =
    let first : iter_rest (zip_first c.into_iter-event-iterator.result) ≡ c.args.events.now = cc in
    let second : iter_rest (zip_second c.into_iter-event-iterator.result) ≡ c.args.answers.now = cc in
    let turn = zip_turn c.args.events.now c.args.answers.now c.loop-event.yielded c.into_iter-event-iterator.result c.loop-event.event-iterator c.next.new.self c.next.result first second c.loop-event.yielded_by (c.in-Some.event, c.in-Some.reply) c.in-Some.is c.next.ensures.steps in
    let n : length (c.loop-event.yielded ++ (c.in-Some.event, c.in-Some.reply) ∷ []) ≡ length c.loop-event.yielded + 1 = length-snoc _ _ in
    let f = event_text true c.args.names.now in
    let line : c.push_reply_line.new.text.items ≡ c.loop-event.text.items ++ f (c.in-Some.event.now, c.in-Some.reply.now) = cc in
    rw n (pieces_more f c.args.events.now c.args.answers.now (length c.loop-event.yielded) c.in-Some.event.now c.in-Some.reply.now c.args.text.now.items c.loop-event.text.items c.push_reply_line.new.text.items turn.0 turn.1 (turn.2 _) (turn.3 _) c.loop-event.invariant line)

pub returns : goal.returns
returns c =
    let first : iter_rest (zip_first c.into_iter-event-iterator.result) ≡ c.args.events.now = cc in
    let second : iter_rest (zip_second c.into_iter-event-iterator.result) ≡ c.args.answers.now = cc in
    let ended = zip_end c.args.events.now c.args.answers.now c.loop-event.yielded c.into_iter-event-iterator.result c.loop-event.event-iterator c.next.new.self c.next.result first second c.loop-event.yielded_by c.in-None.is c.next.ensures.steps in
    pieces_whole (event_text true c.args.names.now) c.args.events.now c.args.answers.now (length c.loop-event.yielded) c.args.text.now.items c.loop-event.text.items ended c.loop-event.invariant
