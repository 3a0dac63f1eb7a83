use Rattle.std.proofs.Common.{◌≡◌, refl, arith}
use Rattle.std.specs.Vec.{with_items}
use Rattle.std.proofs.lemmas.List.{with_items_is}
use Rattle.slub_engine.proofs.UnderWay.{has_run_more, known_after, ledgers_room, worker_within}
use Rattle.slub_engine.proofs.running.Running.event.Goals as goal

pub answer-reply-requires-clause-coherent : goal.answer-reply-requires-clause-coherent
answer-reply-requires-clause-coherent c = c.requires.4.run.coherent

pub answer-reply-requires-clause-cpu : goal.answer-reply-requires-clause-cpu
answer-reply-requires-clause-cpu c = c.requires.4.known.cpu

pub answer-reply-requires-clause-known : goal.answer-reply-requires-clause-known
answer-reply-requires-clause-known c = c.requires.4.known.act

pub answer-reply-requires-clause-unheld : goal.answer-reply-requires-clause-unheld
answer-reply-requires-clause-unheld c = c.requires.4.unheld

pub note_own-requires-clause-known : goal.note_own-requires-clause-known
note_own-requires-clause-known c = known_after _ _ c.args.event.now c.requires.4.known.act c.answer-reply.ensures.others

pub note_own-requires-clause-worker : goal.note_own-requires-clause-worker
note_own-requires-clause-worker c = rw c.deref_mut.ensures.value (worker_within _ _ _ _ _ _ _ c.requires.4)

pub note_own-requires-clause-room : goal.note_own-requires-clause-room
note_own-requires-clause-room c = rw c.deref_mut.ensures.value (ledgers_room _ _ _ _ _ _ _ c.requires.4)

pub push_reserved-requires : goal.push_reserved-requires
push_reserved-requires c =
    let may = c.requires.4 in
    omega (arith, c.args.self.now.replies.ok.0, may.run.answered, may.left, may.run.room.replies)

pub returns-clause-runs : goal.returns-clause-runs
returns-clause-runs c = λ s workers most done may.
    let old = c.args.self.now.ledgers in
    let ledgers : (with_items old c.note_own.new.ledgers).items ≡ c.note_own.new.ledgers = with_items_is old c.note_own.new.ledgers (omega (arith, c.note_own.auto.ledgers, c.deref_mut.ensures.len)) in
    has_run_more s workers most done _ _ _ _ _ _ may c.answer-reply.ensures.answers c.answer-reply.ensures.coherent c.answer-reply.ensures.others c.answer-reply.ensures.unheld
    (rw (ledgers, ← c.deref_mut.ensures.value) c.note_own.ensures) c.push_reserved.ensures.items c.push_reserved.ensures.capacity refl refl
