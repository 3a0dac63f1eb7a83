use Rattle.std.proofs.Common.{◌≡◌, ◌*◌, ◌≤◌, sum_by, take}
use Rattle.slub_trace.specs.declared.event.Event.{Event}
use Rattle.slub_rounds.specs.Room.{weight_in}
use Rattle.slub_rounds.proofs.room.weight_of.Given as goal

abbrev pub invariant-loop-event : goal.invariant-loop-event
invariant-loop-event l = record {
  weight : l.weight ≡ sum_by (λ (e : Event). weight_in e.act) (take l.event-index l.events);
  few : l.weight ≤ 16 * l.event-index;
}
