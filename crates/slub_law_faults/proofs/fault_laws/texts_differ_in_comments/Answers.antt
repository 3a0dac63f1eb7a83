use Rattle.slub_law_faults.proofs.Faults.{differ-in-comments}
use Rattle.slub_law_faults.proofs.fault_laws.texts_differ_in_comments.Goals as goal

pub returns : goal.returns
returns c = differ-in-comments
