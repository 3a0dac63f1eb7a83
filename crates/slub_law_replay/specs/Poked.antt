-- The damages of a journal, and the pokes before them.
use Rattle.std.specs.Prelude.{List, [], ◌∷◌, ◌++◌, All, Contains, ⊤}
use Rattle.slub_trace.specs.declared.trace.Trace.{Trace}
use Rattle.slub_slabinfo_text.specs.declared.client.ClientRound.{ClientRound}
use Rattle.slub_slabinfo_text.specs.declared.journal.Journal.{Journal}
use Rattle.slub_law_rounds.specs.Answered.{Answered}
use Rattle.slub_law_rounds.specs.Pokes.{IsPokedFree, IsPokedReport}
use Rattle.slub_law_replay.specs.Freed.{answered_by, rounds_in}

-- each report of a round, and each damage that a free of it found, tells of a byte that was poked
-- there, by these events
pub record ArePoked (told : List Answered) (round : ClientRound) : Type 0 where
  pub reports : All (λ found. IsPokedReport told found.report) round.result.damages
  pub frees : (one : Answered) → Contains (answered_by round) one → IsPokedFree told one

-- so it is of each of these rounds, by the events up to its last
abbrev pub RunsPoked : List Answered → List ClientRound → Type 0
RunsPoked told [] = ⊤
RunsPoked told (round ∷ rounds) =
    ArePoked (told ++ answered_by round) round × RunsPoked (told ++ answered_by round) rounds

-- each damage of the journal is a byte that was poked there in the same round or an earlier one
abbrev pub HasPokedDamages : Trace → Journal → Type 0
HasPokedDamages trace journal = RunsPoked [] (rounds_in trace journal)
