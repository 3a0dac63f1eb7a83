-- What stands beside a machine fits it, here and in the definitions of opening.
use Rattle.slub_lists.specs.State.{State}
use Rattle.slub_core.specs.Setup.{Means}
use Rattle.slub_law_opening.specs.Opening.{IsBeside}
use Rattle.slub_open_close.specs.declared.beside.Beside.{Beside}
use Rattle.slub_open_close.specs.Beside.{beside_of, IsBesideOf}

abbrev pub BesidesFit : Type 0
BesidesFit =
    (s : State) (b : Beside) (means : Means) → IsBesideOf s b → IsBeside s (beside_of b means)

abbrev pub FitsAreBesides : Type 0
FitsAreBesides =
    (s : State) (b : Beside) (means : Means) → IsBeside s (beside_of b means) → IsBesideOf s b
