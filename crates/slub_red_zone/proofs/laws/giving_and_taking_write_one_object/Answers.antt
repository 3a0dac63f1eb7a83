use Rattle.slub_red_zone.proofs.Changed.{gives-bytes, takes-bytes}
use Rattle.slub_red_zone.proofs.laws.giving_and_taking_write_one_object.Goals as goal

pub returns-clause-given : goal.returns-clause-given
returns-clause-given c = λ s answer after sound gives. gives-bytes s answer after sound gives

pub returns-clause-taken : goal.returns-clause-taken
returns-clause-taken c = λ s slot answer after sound used takes. takes-bytes s slot answer after sound used takes
