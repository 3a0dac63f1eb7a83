use Rattle.slub_law_alone.proofs.AnyCall.{all_written}
use Rattle.slub_law_alone.proofs.calls.writes_are_those_of_lists.Goals as goal

pub returns : goal.returns
returns c = all_written
