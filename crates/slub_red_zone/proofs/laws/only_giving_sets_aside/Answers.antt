use Rattle.slub_red_zone.proofs.NoneAside.{taken, poked, written, come, gone}
use Rattle.slub_red_zone.proofs.laws.only_giving_sets_aside.Goals as goal

pub returns-clause-taken : goal.returns-clause-taken
returns-clause-taken c = λ s slot answer after sound used takes. taken s slot answer after sound used takes

pub returns-clause-poked : goal.returns-clause-poked
returns-clause-poked c = λ s slot offset byte answer after pokes. poked s slot offset byte answer after pokes

pub returns-clause-written : goal.returns-clause-written
returns-clause-written c = λ s slot word value. written s slot word value

pub returns-clause-come : goal.returns-clause-come
returns-clause-come c = λ s run objects. come s run objects

pub returns-clause-gone : goal.returns-clause-gone
returns-clause-gone c = λ s frame limit answer after takes. gone s frame limit answer after takes
