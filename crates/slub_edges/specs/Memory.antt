-- What a caller sees of a source and of a sink in memory.
use Rattle.std.specs.Prelude.{ℕ, List, []}

-- a source in memory: the bytes still to come, the number of the next call, the calls that are to
-- fail, how many failed
pub record Supply : Type 0 where
  pub rest : List ℕ
  pub call : ℕ
  pub failing : List ℕ
  pub faults : ℕ

-- a source of these bytes before its first call
abbrev pub supply_of : List ℕ → List ℕ → Supply
supply_of bytes failing = record { rest = bytes; call = 0; failing = failing; faults = 0 }

-- a sink in memory: the bytes taken, the pieces of which some was taken, the most that a call
-- takes, the number of the next call, the calls that are to fail, how many failed
pub record Store : Type 0 where
  pub taken : List ℕ
  pub pieces : List (List ℕ)
  pub most : ℕ
  pub call : ℕ
  pub failing : List ℕ
  pub faults : ℕ

-- a sink before its first call
abbrev pub store_of : List ℕ → ℕ → Store
store_of failing most =
    record { taken = []; pieces = []; most = most; call = 0; failing = failing; faults = 0 }
