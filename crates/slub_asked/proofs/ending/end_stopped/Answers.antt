use Rattle.slub_asked.proofs.Endings.{ends_stopped}
use Rattle.slub_asked.proofs.ending.end_stopped.Goals as goal

pub returns-in_default : goal.returns-in_default
returns-in_default g c =
    let not = c.in_default.not-WriteFault in
    let writes = rw (c.line.ensures, c.status.ensures) at c.write_end.ensures in
    ends_stopped _ _ _ c.args.back.now c.args.stop.now _ not writes
