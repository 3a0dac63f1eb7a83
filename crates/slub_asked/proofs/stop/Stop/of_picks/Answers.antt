use Rattle.std.proofs.Common.{refl, inr}
use Rattle.slub_asked.proofs.stop.Stop.of_picks.Goals as goal

pub returns-in-Ok : goal.returns-in-Ok
returns-in-Ok c = inr (c.in-Ok.line, refl, c.in-Ok.ensures)
