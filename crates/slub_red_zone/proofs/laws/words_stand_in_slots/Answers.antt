use Rattle.slub_red_zone.proofs.Pokes.{word-in-slot, word-written}
use Rattle.slub_red_zone.proofs.laws.words_stand_in_slots.Goals as goal

pub returns-clause-bytes : goal.returns-clause-bytes
returns-clause-bytes c = λ s slot word sound object inner. word-in-slot s slot word sound object inner

pub returns-clause-written : goal.returns-clause-written
returns-clause-written c = λ s slot word value sound used inner small. word-written s slot word value sound used inner small
