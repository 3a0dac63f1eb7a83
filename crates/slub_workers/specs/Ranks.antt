-- Lists of workers: those that are to have seats, and those that are back.
use Rattle.std.specs.Prelude.{◌≡◌, ℕ, suc, Bool, false, List, [], ◌∷◌, map}
use mathlib.Core.Option.{some}
use lib.ListN.{get_elem?}
use Rattle.slub_core.specs.declared.spot.Spot.TheVariants.{Between}
use Rattle.slub_core.specs.Local.{Local}
use Rattle.slub_workers.specs.Begun.{Begun}
use Rattle.slub_workers.specs.Standing.{Fork, branch, one_way}
use Rattle.slub_workers.specs.Rule.{standing_first}
use Rattle.slub_workers.specs.Sits.{MayStand}

-- ---- before they have seats

-- a worker that is in no call yet
pub record IsFresh (key : Begun) (worker : ℕ) (l : Local) : Type 0 where
  pub may : MayStand key (standing_first l)
  pub between : l.spot ≡ Between
  pub number : l.worker ≡ worker

-- in rising number
abbrev pub AreFresh : Begun → List Local → Type 0
AreFresh key ls = (k : ℕ) (l : Local) → get_elem? ls k ≡ some l → IsFresh key k l

-- what the first seat knows of them
abbrev pub view_of : List Local → List Fork
view_of ls = map (λ l. one_way (standing_first l)) ls

-- ---- when they are back

-- the worker stands in one of the two ways that the first seat knows of, between two calls, and
-- where none has tried it hasn't
pub record IsBack (tried : Bool) (worker : ℕ) (f : Fork) (l : Local) : Type 0 where
  pub refused : Bool
  pub stands : l ≡ (branch refused f).local
  pub untried : tried ≡ false → (branch refused f).tried ≡ false
  pub number : l.worker ≡ worker
  pub between : l.spot ≡ Between

-- in rising number, from this one on
abbrev pub AreBack : Bool → ℕ → List Fork → List Local → Type 0
AreBack tried n [] [] = Unit {0}
AreBack tried n (f ∷ fs) (l ∷ ls) = IsBack tried n f l × AreBack tried (suc n) fs ls
AreBack tried n _ _ = ⊥
