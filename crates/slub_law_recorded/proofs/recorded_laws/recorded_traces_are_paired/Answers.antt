use Rattle.slub_law_recorded.proofs.RecordedTraces.{recorded_paired}
use Rattle.slub_law_recorded.proofs.recorded_laws.recorded_traces_are_paired.Goals as goal

pub returns : goal.returns
returns c = recorded_paired
