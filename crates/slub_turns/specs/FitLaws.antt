-- The law of what the paths ask, as it is proved.
use Rattle.std.specs.Prelude.{◌<◌, length}
use Rattle.slub_core.specs.Setup.{Setup}
use Rattle.slub_core.specs.World.{World}
use Rattle.slub_core.specs.Steps.{begun}
use Rattle.slub_core.specs.Run.{System, Pick}
use Rattle.slub_core.specs.Law.{IsCoherentSystem}
use Rattle.slub_turns.specs.Fits.{picked, LeavesRoom, PickFits}

-- in a machine that is coherent each turn of a worker that there is is one that the bodies of the
-- paths can make, where what the worker counts leaves room as it makes its step
abbrev pub TurnsFit : Type 0
TurnsFit =
    (m : Setup) (opening : World) (s : System) (pick : Pick)
    → IsCoherentSystem m opening s → pick.worker < length s.locals
    → LeavesRoom (begun m pick.tries (picked s pick)) → PickFits m s pick
