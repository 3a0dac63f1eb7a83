use Rattle.slub_cli.proofs.Parts.{read_stop, read_stop_faults}
use Rattle.slub_cli.proofs.run.read_input.Goals as goal

pub returns-in-Err-clause-reads : goal.returns-in-Err-clause-reads
returns-in-Err-clause-reads g c = read_stop _ _ (_, _) c.in-Err.fault c.of.result c.in-Err.ensures.reads c.of.ensures

pub returns-in-Err-clause-read_faults : goal.returns-in-Err-clause-read_faults
returns-in-Err-clause-read_faults g c = read_stop_faults _ _ _ _ c.in-Err.fault c.of.result c.in-Err.ensures.reads c.of.ensures
