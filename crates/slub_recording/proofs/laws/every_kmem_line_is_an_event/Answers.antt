use Rattle.slub_recording.proofs.Counts.{events_counted}
use Rattle.slub_recording.proofs.laws.every_kmem_line_is_an_event.Goals as goal

pub returns : goal.returns
returns c = λ r is. events_counted c.args.bytes.now r is
