use Rattle.std.proofs.Common.{ap, refl}
use Rattle.std.specs.Prelude.{Err}
use Rattle.slub_picks.specs.declared.unread.Unread.{Unread}
use Rattle.slub_asked.proofs.asked.read_asked.Goals as goal

pub returns-in-Err-BadWords-clause-asked : goal.returns-in-Err-BadWords-clause-asked
returns-in-Err-BadWords-clause-asked g c = (c.in-Err-BadWords.ensures.none (ap (λ (e : Unread). Err e) c.in-Err-BadWords.field-0-is), refl)

pub returns-in-Ok-read_trace-clause-untouched : goal.returns-in-Ok-read_trace-clause-untouched
returns-in-Ok-read_trace-clause-untouched g c = λ bad. absurd (bad c.in-Ok.request c.in-Ok.ensures.asks)

pub returns-in-Err-clause-untouched : goal.returns-in-Err-clause-untouched
returns-in-Err-clause-untouched g c = λ bad. absurd (bad c.in-Ok.request c.in-Ok.ensures.asks)
