use Rattle.slub_law_rounds.proofs.Events.{gives-free}
use Rattle.slub_law_rounds.proofs.laws.given_objects_were_free.Goals as goal

pub returns : goal.returns
returns c = λ s place cpu worker object address after coherent cpu_within within done. gives-free s place cpu worker object address after coherent cpu_within within done
