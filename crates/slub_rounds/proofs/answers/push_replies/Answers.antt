use Rattle.std.proofs.Common.{◌<◌, length, arith}
use Rattle.slub_engine.proofs.Rounds.{own_default}
use Rattle.slub_rounds.proofs.Replies.{ledgers_room, next_known, next_left, put_all, put_more}
use Rattle.slub_rounds.proofs.answers.push_replies.Goals as goal

pub next_reply-reply-requires-clause-left : goal.next_reply-reply-requires-clause-left
next_reply-reply-requires-clause-left c =
    let within : c.loop-event.event-index < length c.args.events.now = omega arith in
    let is = own_default _ _ _ within in
    next_left _ _ _ _ _ _ _ _ c.loop-event.invariant.put (next_known _ _ _ _ _ c.requires.known within is).worker c.requires.answered within is

pub note_own-requires-clause-room : goal.note_own-requires-clause-room
note_own-requires-clause-room c = ledgers_room _ _ _ _ _ _ _ _ c.loop-event.invariant.put (omega arith)

pub loop-event-preserved : goal.loop-event-preserved
loop-event-preserved c =
    let within : c.loop-event.event-index < length c.args.events.now = omega arith in
    let is = own_default _ _ _ within in
    record {
      put = rw c.push_reserved.ensures.items (put_more _ _ _ _ _ _ _ _ _ _ _ c.loop-event.invariant.put (next_known _ _ _ _ _ c.requires.known within is).worker c.requires.answered within is
          c.next_reply-reply.ensures.reply c.next_reply-reply.ensures.cursors c.note_own.ensures);
      capacity = omega (arith, c.push_reserved.ensures.capacity, c.loop-event.invariant.capacity);
      len = omega (arith, c.push_reserved.ensures.len, c.loop-event.invariant.len);
    }

pub returns-clause-replies : goal.returns-clause-replies
returns-clause-replies c = (put_all _ _ _ _ _ _ _ c.loop-event.invariant.put c.requires.answered (omega (arith, c.loop-event.auto))).0
