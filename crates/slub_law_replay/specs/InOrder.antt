-- Turns in the order of the text lead to one end.
use Rattle.std.specs.Prelude.{◌≡◌, false, List, All}
use Rattle.slub_trace.specs.declared.event.Event.{Event}
use Rattle.slub_core.specs.Setup.{Setup}
use Rattle.slub_core.specs.Run.{System, Pick, IsFinished, run}
use Rattle.slub_rounds.specs.InOrder.{AreInOrder}

-- no turn lacks memory for the bytes of a new slab
abbrev pub RefuseNothing : List Pick → Type 0
RefuseNothing picks = All (λ pick. pick.refused ≡ false) picks

-- turns in the order of the text that refuse no memory, and after which every worker is finished,
-- go by each machine to which such turns come
abbrev pub RunsInOrderGoByEach : Type 0
RunsInOrderGoByEach =
    (m : Setup) (events : List Event) (first : System) (whole part : List Pick)
    → AreInOrder m events first whole → AreInOrder m events first part
    → RefuseNothing whole → RefuseNothing part
    → All IsFinished (run m first whole).locals
    → (rest : List Pick) × (run m first whole ≡ run m (run m first part) rest)

-- two lists of picks of turns in the order of the text that refuse no memory, and after which every
-- worker is finished, lead to one machine
abbrev pub RunsInOrderHaveOneEnd : Type 0
RunsInOrderHaveOneEnd =
    (m : Setup) (events : List Event) (first : System) (one other : List Pick)
    → AreInOrder m events first one → AreInOrder m events first other
    → RefuseNothing one → RefuseNothing other
    → All IsFinished (run m first one).locals → All IsFinished (run m first other).locals
    → run m first one ≡ run m first other
