use Rattle.slub_red_zone.proofs.Pokes.{pokes-bytes, writes-word}
use Rattle.slub_red_zone.proofs.laws.poking_and_writing_write_one_place.Goals as goal

pub returns-clause-poked : goal.returns-clause-poked
returns-clause-poked c = λ s slot offset byte answer after sound object pokes. pokes-bytes s slot sound object offset byte answer after pokes

pub returns-clause-written : goal.returns-clause-written
returns-clause-written c = λ s slot word value sound used inner. writes-word s slot sound used word value inner
