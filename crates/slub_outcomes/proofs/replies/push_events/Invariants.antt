use Rattle.std.proofs.Common.{◌≡◌, ◌++◌, true, length, take, flat_map}
use Rattle.std.specs.List.{zip}
use Rattle.slub_slabinfo_text.specs.Lines.{event_text}
use Rattle.slub_outcomes.proofs.replies.push_events.Given as goal

abbrev pub invariant-loop-event : goal.invariant-loop-event
invariant-loop-event l = l.text.items ≡ l.fn.text.items ++ flat_map (event_text true l.names) (take (length l.yielded) (zip l.events l.answers))
