-- What a slab in hand is called.
use Rattle.std.specs.Prelude.{ℕ, List, [], ◌∷◌, codes}
use Rattle.slub_core.specs.Spots.{Role, Taken, Ready, Loaded, Leaving, Untied, Popped, Kept, Loose}

-- whether the first free pointer of a chain was loaded, or its end is stored, isn't told
abbrev pub role_text : Role → List ℕ
role_text Taken = codes "taken"
role_text Ready = codes "ready"
role_text Loaded = codes "ready"
role_text Leaving = codes "leaving"
role_text Untied = codes "leaving"
role_text Popped = codes "popped"
role_text Kept = codes "kept"
role_text Loose = codes "loose"

-- the role of the slab that is worked on, and that of the one beside it
abbrev pub first_text : List Role → List ℕ
first_text [] = []
first_text (role ∷ roles) = role_text role

abbrev pub second_text : List Role → List ℕ
second_text [] = []
second_text (role ∷ roles) = first_text roles
