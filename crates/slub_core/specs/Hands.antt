-- The slabs in a worker's hand as a list.
use Rattle.std.specs.Prelude.{List, [], ◌∷◌}
use Rattle.slub_core.specs.declared.local.Hand.{Hand}
use Rattle.slub_core.specs.declared.hands.Hands.{Hands}
use Rattle.slub_core.specs.declared.hands.Hands.TheVariants.{Empty, One, Two}

-- the last one first
abbrev pub hands_of : Hands → List Hand
hands_of Empty = []
hands_of (One hand) = hand ∷ []
hands_of (Two hand beside) = hand ∷ beside ∷ []
