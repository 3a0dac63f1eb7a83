use Rattle.slub_calls.proofs.Fitting.{may_begin}
use Rattle.slub_calls.proofs.laws.rounds_may_begin.Goals as goal

pub returns : goal.returns
returns c = may_begin
