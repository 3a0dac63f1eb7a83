-- What a step owes to the law of the account: the worker where the answer leads it, with its reply, and the others unchanged.
use Rattle.std.proofs.Common.{◌≡◌, Bool, List, ◌∷◌}
use Rattle.slub_core.specs.declared.spot.Spot.{Spot}
use Rattle.slub_core.specs.World.{World}
use Rattle.slub_core.specs.Local.{Local, Worker, Turn, Change, noted}
use Rattle.slub_core.specs.Steps.{at_once, told}
use Rattle.slub_core.specs.Coherent.{Stands}
use Rattle.slub_core.specs.Accounted.{IsAccounted}
use Rattle.slub_core.proofs.Locks.{ComesTo}

-- a step leads a worker to this local, and the account agrees after it
abbrev pub Accounts : World → World → List Worker → Local → Type 0
Accounts opening w others l = (z : Worker) × (z.local ≡ l) × IsAccounted opening w (z ∷ others)

-- all stands where an answer leads the worker, and with the reply that its call has the account agrees
abbrev pub Reaches : World → World → List Worker → Turn → Type 0
Reaches opening w others turn = ComesTo w others turn.local × Accounts opening w others (told turn)

-- all stands with the worker at this local, and the account agrees
abbrev pub Comes : World → World → List Worker → Local → Type 0
Comes opening w others l = ComesTo w others l × Accounts opening w others l

-- what is done at once leads a worker to this local and these values, and the account agrees after it
abbrev pub Tells : World → World → List Worker → Change → Type 0
Tells opening w others c = Accounts opening (record w { value = c.value }) others (noted c.local c.reply)

-- what the spot's change owes
abbrev pub TellsAt : Spot → Type 0
TellsAt spot = (opening w : World) (refused : Bool) (x : Worker) (others : List Worker) → x.local.spot ≡ spot → Stands w (x ∷ others) → IsAccounted opening w (x ∷ others)
    → Tells opening w others (at_once w.setup refused w.value x.local spot)
