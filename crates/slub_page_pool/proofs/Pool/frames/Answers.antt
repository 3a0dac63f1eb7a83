-- What a pool shows is a pool.
use Rattle.slub_page_pool.proofs.MarkedFrames.{IsPool-marks}
use Rattle.slub_page_pool.proofs.Pool.frames.Goals as goal

pub returns-clause-pool : goal.returns-clause-pool
returns-clause-pool c = rw (← c.self.view_is) (IsPool-marks c.self.inside.marks.items c.self.inside.dry c.self.invariant.marks_kept)
