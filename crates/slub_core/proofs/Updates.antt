-- For how many slabs there is room, after one of the values is written.
use Rattle.std.proofs.Common.{◌≡◌, ℕ, ◌<◌, List, [], ◌∷◌, length, get_or, set, arith}
use Rattle.std.proofs.Math.Seq.{map-set_same}
use Rattle.slub_core.specs.declared.guarded.Guarded.{Guarded}
use Rattle.slub_core.specs.Values.{room_in, rooms_of, HasPool}

-- the rooms stay where that one's does
pub rooms_of-set : (guarded : List Guarded) (n : ℕ) (v d : Guarded) → room_in v ≡ room_in (get_or guarded n d) → rooms_of (set guarded n v) ≡ rooms_of guarded
rooms_of-set guarded n v d same = map-set_same room_in guarded n v d same

-- the pool's lock is one of the locks
pub HasPool-within : (guarded : List Guarded) → HasPool guarded → 0 < length guarded
HasPool-within [] h = absurd h
HasPool-within (v ∷ vs) h = omega arith
