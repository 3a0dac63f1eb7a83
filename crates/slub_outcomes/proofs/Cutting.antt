-- An item that wasn't done.
use Rattle.std.proofs.Common.{◌≡◌, ℕ}
use Rattle.slub_trace.specs.declared.trace.Trace.{Trace}
use Rattle.slub_items.specs.declared.machine.Stopped.{Stopped}
use Rattle.slub_items.specs.declared.machine.Stopped.TheVariants as stopped
use Rattle.slub_items.specs.Stopped.{IsStopped}
use Rattle.slub_law_replay.specs.declared.way.Way.{Way}
use Rattle.slub_law_replay.specs.Runs.{MachineState, SpendsAt}
use Rattle.slub_outcomes.specs.declared.replay.Cut.TheVariants.{TurnsSpent}
use Rattle.slub_outcomes.specs.Cuts.{cut_of}

-- where turns were spent, the machine says so
pub cut-spent : (way : Way) (m : MachineState) (trace : Trace) (number : ℕ) (e : Stopped) → IsStopped way m trace number e → cut_of e ≡ TurnsSpent → SpendsAt way m trace number
cut-spent way m trace number (stopped.NoMemory left) is cut = absurd (let never : ⊥ = cc in never)
cut-spent way m trace number stopped.TurnsSpent is cut = is
