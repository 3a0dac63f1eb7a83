use Rattle.std.proofs.Common.{refl, inr}
use Rattle.slub_asked.proofs.stop.Stop.of.Goals as goal

pub returns-in-Ok : goal.returns-in-Ok
returns-in-Ok c = rw c.in-BadLine.is (inr (c.in-Ok.text, refl, c.in-Ok.ensures))
