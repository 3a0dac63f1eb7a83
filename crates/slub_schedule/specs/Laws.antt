-- The laws of rounds by schedule, as they are proved.
use Rattle.std.specs.Prelude.{◌≡◌, ℕ, ◌<◌, ◌≤◌, Bool, false, List, ◌∷◌, length, slice_index_or, ◌⊎◌}
use Rattle.slub_core.specs.declared.step.Place.{Place}
use Rattle.slub_core.specs.Setup.{Setup, IsSetup}
use Rattle.slub_core.specs.Words.{number_of, word_count}
use Rattle.slub_core.specs.World.{world_of}
use Rattle.slub_core.specs.Run.{System, Pick, idle}
use Rattle.slub_core.specs.Coherent.{IsAtRest}
use Rattle.slub_core.specs.Opening.{IsOpening, opened}
use Rattle.slub_core.specs.Round.{IsRoundOnWords}
use Rattle.slub_core.specs.Law.{CoherentAlong, calls_to_come, replies_of}
use Rattle.slub_schedule.specs.Schedule.{is_finished, AreDrawn, AreRefusedAlike, AreRefusedBy}
use Rattle.slub_schedule.specs.Rounds.{EndsRound, IsSpent}
use Rattle.slub_schedule.specs.Table.{HasPlace}
use Rattle.slub_schedule.specs.Closed.{closed, IsBoardAfter}
use Rattle.slub_schedule.specs.Finished.{IsQuiet, AreHolders}

-- before each pick that a seed draws and after the last one the machine is coherent
abbrev pub DrawsKeepAll : Type 0
DrawsKeepAll =
    (m : Setup) (s : System) (seed : ℕ) (picks : List Pick)
    → IsOpening m s → AreDrawn m (opened m s) seed picks
    → CoherentAlong m (world_of m s.value s.words) (opened m s) picks

-- each turn is that of a worker that there is and that isn't finished
abbrev pub PicksAreUnfinished : Type 0
PicksAreUnfinished =
    (m : Setup) (s : System) (x : ℕ) (pick : Pick) (picks : List Pick)
    → AreDrawn m s x (pick ∷ picks)
    → (pick.worker < length s.locals)
    × (is_finished (slice_index_or s.locals pick.worker idle) ≡ false)

-- of one seed and one machine two rounds that end are one, want of memory aside; and so are two
-- whose turns are spent
abbrev pub RoundsAreUnique : Type 0
RoundsAreUnique =
    (m : Setup) (seed : ℕ) (first : System) (ps qs : List Pick) (one other : System)
    → AreRefusedAlike ps qs
    → (EndsRound m seed first ps one → EndsRound m seed first qs other → (ps ≡ qs) × (one ≡ other))
    × (IsSpent m seed first ps one → IsSpent m seed first qs other → (ps ≡ qs) × (one ≡ other))
    × (EndsRound m seed first ps one → IsSpent m seed first qs other → ⊥)

-- a round ends or its turns are spent, whenever memory is refused
abbrev pub RoundsEndOrAreSpent : Type 0
RoundsEndOrAreSpent =
    (m : Setup) (seed : ℕ) (first : System) (refused : ℕ → Bool)
    → (picks : List Pick) × (last : System) × AreRefusedBy refused 0 picks
    × (EndsRound m seed first picks last ⊎ IsSpent m seed first picks last)

-- where a round ends nothing is under way, calls, replies and boards are those of a round, and each
-- worker holds what its replies say
abbrev pub RoundsEndWell : Type 0
RoundsEndWell =
    (m : Setup) (s : System) (seed : ℕ) (picks : List Pick) (last : System)
    → IsOpening m s → EndsRound m seed (opened m s) picks last
    → let before = world_of m s.value s.words in let after = world_of m last.value last.words in
    IsQuiet m before last × IsRoundOnWords m before after (calls_to_come s) (replies_of last)
    × AreHolders before after last.locals

-- and what the workers hold then is put on the board: the machine is at rest, without a worker, and
-- its board is the one before with what was given and without what was freed
abbrev pub RoundsClose : Type 0
RoundsClose =
    (m : Setup) (s : System) (seed : ℕ) (picks : List Pick) (last : System)
    → IsOpening m s → EndsRound m seed (opened m s) picks last
    → let after = closed (world_of m last.value last.words) last.locals in
    IsAtRest after × IsBoardAfter (world_of m s.value s.words) after (replies_of last)

-- two places that there are have one number only where they are one place; it is one of the table's
abbrev pub PlacesAreApart : Type 0
PlacesAreApart =
    (m : Setup) (p q : Place) → IsSetup m → 1 ≤ m.objects → HasPlace m p → HasPlace m q
    → (number_of m p < word_count m) × (number_of m p ≡ number_of m q → p ≡ q)
