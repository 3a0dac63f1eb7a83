use Rattle.slub_recorded.proofs.Endings.{conversion_ends}
use Rattle.slub_recorded.proofs.run.work.Goals as goal

pub returns-in-Err-clause-untouched : goal.returns-in-Err-clause-untouched
returns-in-Err-clause-untouched g c = λ bad. absurd (bad c.in-Some.options c.in-Some.ensures)

pub returns-clause-untouched : goal.returns-clause-untouched
returns-clause-untouched g c = λ bad. absurd (bad c.in-Some.options c.in-Some.ensures)

pub returns-clause-ends : goal.returns-clause-ends
returns-clause-ends g c =
    let reads = c.in-Ok.ensures.reads in
    conversion_ends _ c.converted.result c.in-Ok.recording c.in-Some.options c.in-Some.ensures (record { at_end = reads.1; spelled = reads.0 }) reads.2 c.converted.ensures.trace c.converted.ensures.stop
