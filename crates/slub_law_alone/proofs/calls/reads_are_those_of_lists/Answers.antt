use Rattle.slub_law_alone.proofs.AnyCall.{all_read}
use Rattle.slub_law_alone.proofs.calls.reads_are_those_of_lists.Goals as goal

pub returns : goal.returns
returns c = all_read
