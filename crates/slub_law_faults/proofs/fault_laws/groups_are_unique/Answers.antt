use Rattle.slub_law_faults.proofs.Groups.{groups-same}
use Rattle.slub_law_faults.proofs.fault_laws.groups_are_unique.Goals as goal

pub returns : goal.returns
returns c = groups-same
