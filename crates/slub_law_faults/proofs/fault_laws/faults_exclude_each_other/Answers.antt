use Rattle.slub_law_faults.proofs.Faults.{exclude-each-other}
use Rattle.slub_law_faults.proofs.fault_laws.faults_exclude_each_other.Goals as goal

pub returns : goal.returns
returns c = exclude-each-other
