use Rattle.std.proofs.Common.{◌≡◌, take}
use Rattle.slub_turn_text.specs.Labels.{share_of}
use Rattle.slub_turn_text.proofs.labels.share_of.Given as goal

abbrev pub invariant-loop-event : goal.invariant-loop-event
invariant-loop-event l = l.share.items ≡ share_of (take l.event-index l.events) l.worker
