use Rattle.slub_law_recorded.proofs.RecordedReplays.{recorded-replay}
use Rattle.slub_law_recorded.proofs.recorded_laws.recorded_traces_replay.Goals as goal

pub returns : goal.returns
returns c = recorded-replay
