use Rattle.slub_rounds.proofs.Going.{IsUnderWay}
use Rattle.slub_rounds.proofs.on_lists.on_lists.Given as goal

-- the events so far were answered, and the ids grew with them
abbrev pub invariant-loop-event : goal.invariant-loop-event
invariant-loop-event l = IsUnderWay l.initial.lists l.initial.words l.round.workers l.events l.event-index l.running l.lists l.words
