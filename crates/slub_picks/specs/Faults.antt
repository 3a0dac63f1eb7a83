-- The fault lines of picks and of rounds.
use Rattle.std.specs.Prelude.{ℕ, List, [], ◌∷◌, ◌++◌, codes}
use Rattle.std.specs.Fmt.{decimal}
use Rattle.slub_picks.specs.declared.faults.Bad.{Bad}
use Rattle.slub_picks.specs.declared.faults.Bad.TheVariants.{InRound, PartsLeft, NoRound}
use Rattle.slub_picks.specs.declared.walk.Misfit.{Misfit}
use Rattle.slub_picks.specs.declared.walk.Misfit.TheVariants.{NoWorker, NoEvent, PicksEnd}

-- an entry names a worker that the round hasn't
abbrev pub no_worker_line : ℕ → ℕ → ℕ → List ℕ
no_worker_line entry worker round =
    codes "slub: pick " ++ decimal entry ++ codes ": no worker " ++ decimal worker
    ++ codes " in round " ++ decimal round ++ 10 ∷ []

-- an entry is to make a turn, and its worker is finished
abbrev pub no_event_line : ℕ → ℕ → ℕ → List ℕ
no_event_line entry worker round =
    codes "slub: pick " ++ decimal entry ++ codes ": worker " ++ decimal worker
    ++ codes " has no event left in round " ++ decimal round ++ 10 ∷ []

-- a part is at its end, and its round isn't
abbrev pub picks_end_line : ℕ → ℕ → List ℕ
picks_end_line round turns =
    codes "slub: picks end in round " ++ decimal round ++ codes " after " ++ decimal turns
    ++ codes " turns" ++ 10 ∷ []

-- parts were left at the end of the trace
abbrev pub parts_left_line : ℕ → ℕ → List ℕ
parts_left_line parts rounds =
    codes "slub: picks for " ++ decimal parts ++ codes " rounds, there are " ++ decimal rounds
    ++ 10 ∷ []

-- the trace has no such round
abbrev pub no_round_line : ℕ → List ℕ
no_round_line round = codes "slub: no round " ++ decimal round ++ 10 ∷ []

-- where a part doesn't fit its round, once so many turns are made
abbrev pub misfit_line : Misfit → ℕ → ℕ → List ℕ
misfit_line (NoWorker entry worker) round turns = no_worker_line entry worker round
misfit_line (NoEvent entry worker) round turns = no_event_line entry worker round
misfit_line PicksEnd round turns = picks_end_line round turns

-- each fault's line
abbrev pub bad_line : Bad → List ℕ
bad_line (InRound misfit round turns) = misfit_line misfit round turns
bad_line (PartsLeft parts rounds) = parts_left_line parts rounds
bad_line (NoRound round) = no_round_line round
