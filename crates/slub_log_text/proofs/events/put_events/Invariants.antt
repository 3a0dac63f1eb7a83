use Rattle.std.proofs.Common.{◌≡◌, ◌++◌, take}
use Rattle.std.specs.Prelude.{flat_map}
use Rattle.slub_log_text.specs.Events.{event_line}
use Rattle.slub_log_text.proofs.events.put_events.Given as goal

abbrev pub invariant-loop-event : goal.invariant-loop-event
invariant-loop-event l = l.text.items ≡ l.fn.text.items ++ flat_map (event_line l.names) (take l.event-index l.events)
