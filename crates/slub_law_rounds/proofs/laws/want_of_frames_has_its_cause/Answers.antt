use Rattle.slub_law_rounds.proofs.Events.{lacks-frames}
use Rattle.slub_law_rounds.proofs.laws.want_of_frames_has_its_cause.Goals as goal

pub returns : goal.returns
returns c = λ s place cpu worker object after coherent cpu_within done. lacks-frames s place cpu worker object after coherent cpu_within done
