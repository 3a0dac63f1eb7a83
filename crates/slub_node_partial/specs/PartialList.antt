-- What contracts see of a node's partial list, and what takes a slab off it.
use Rattle.std.specs.Prelude.{◌≡◌, ℕ, ◌≤◌, List, [], ◌∷◌, ◌++◌, length, Contains}

-- the slabs' first frames, head first, and for how many there is room
pub record PartialList : Type 0 where
  pub frames : List ℕ
  pub room : ℕ

-- a list without slabs
abbrev pub opening : ℕ → PartialList
opening room = record { frames = []; room = room }

-- there is room for what stands on it
abbrev pub IsWithinRoom : PartialList → Type 0
IsWithinRoom list = length list.frames ≤ list.room

-- the first of this frame is taken out, and the others keep their order (`remove_partial`)
pub record IsTakenOut (before : List ℕ) (frame : ℕ) (after : List ℕ) : Type 0 where
  pub front : List ℕ
  pub rest : List ℕ
  pub was : before ≡ front ++ frame ∷ rest
  pub first : ¬ Contains front frame
  pub is : after ≡ front ++ rest
