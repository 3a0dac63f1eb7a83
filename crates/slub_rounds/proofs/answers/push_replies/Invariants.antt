use Rattle.std.proofs.Common.{◌≡◌, ◌≤◌, length, vec_capacity, vec_len}
use Rattle.slub_rounds.proofs.Replies.{HasPut}
use Rattle.slub_rounds.proofs.answers.push_replies.Given as goal

abbrev pub invariant-loop-event : goal.invariant-loop-event
invariant-loop-event l = record {
  put : HasPut l.lists l.events l.locals l.event-index l.cursors l.replies.items l.ledgers;
  capacity : length l.events ≤ vec_capacity l.replies;
  len : vec_len l.replies ≡ l.event-index;
}
