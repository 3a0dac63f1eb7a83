-- How the workers of a view are dealt to seats of their own.
use Rattle.std.specs.Prelude.{List, [], ◌∷◌}
use Rattle.slub_workers.specs.Standing.{Fork}

abbrev pub all_but_last : List Fork → List Fork
all_but_last [] = []
all_but_last (f ∷ []) = []
all_but_last (f ∷ g ∷ fs) = f ∷ all_but_last (g ∷ fs)

abbrev pub last_alone : List Fork → List Fork
last_alone [] = []
last_alone (f ∷ []) = f ∷ []
last_alone (f ∷ g ∷ fs) = last_alone (g ∷ fs)
