use Rattle.slub_law_faults.proofs.Faults.{exclude-traces}
use Rattle.slub_law_faults.proofs.fault_laws.faults_exclude_traces.Goals as goal

pub returns : goal.returns
returns c = exclude-traces
