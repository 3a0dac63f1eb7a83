use Rattle.slub_law_faults.proofs.Faults.{spell-alike}
use Rattle.slub_law_faults.proofs.fault_laws.traces_differ_in_comments.Goals as goal

pub returns : goal.returns
returns c = spell-alike
