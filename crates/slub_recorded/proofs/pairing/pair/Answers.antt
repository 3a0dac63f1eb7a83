use Rattle.slub_recorded.specs.Paired.{view}
use Rattle.slub_recorded.proofs.pairing.pair.Goals as goal

pub loop-event-init : goal.loop-event-init
unfolding view
loop-event-init c = cc
