use Rattle.slub_red_zone.proofs.Pokes.{adds-bytes, takes-empty-bytes}
use Rattle.slub_red_zone.proofs.laws.slabs_come_and_go_alone.Goals as goal

pub returns-clause-come : goal.returns-clause-come
returns-clause-come c = λ s run objects new. adds-bytes s run objects new

pub returns-clause-gone : goal.returns-clause-gone
returns-clause-gone c = λ s frame limit answer after sound takes slot is. takes-empty-bytes s frame limit answer after sound takes slot is
