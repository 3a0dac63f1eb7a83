use Rattle.slub_law_alone.proofs.Begins.{begins_at_rest}
use Rattle.slub_law_alone.proofs.laws.rounds_begin_at_rest.Goals as goal

pub returns : goal.returns
returns c = begins_at_rest
