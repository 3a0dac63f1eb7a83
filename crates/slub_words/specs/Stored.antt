-- Words of a memory of which only the first ones are stored.
use Rattle.std.specs.Prelude.{◌≡◌, ℕ, ◌-◌, ◌≤◌, ◌++◌, List, length, replicate}

-- these are the words of a memory up to some place, and those behind them are 0
pub record AreStored (stored memory : List ℕ) : Type 0 where
  pub inside : length stored ≤ length memory
  pub words : stored ++ replicate (length memory - length stored) 0 ≡ memory
