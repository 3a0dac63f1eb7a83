use Rattle.slub_recording.proofs.Orders.{events_ordered}
use Rattle.slub_recording.proofs.laws.events_stand_in_the_order_of_lines.Goals as goal

pub returns : goal.returns
returns c = λ r is. events_ordered c.args.bytes.now r is
