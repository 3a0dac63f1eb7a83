-- What a log has written over whole turns.
use Rattle.std.specs.Prelude.{◌≡◌, ℕ, Bool, true, false, List, [], ◌∷◌, ◌++◌, None}
use Rattle.std.specs.List.{FoldsTo, flat_map, fold, list_any}
use Rattle.slub_core.specs.Facts.{Facts}
use Rattle.slub_core.specs.Local.{Local}
use Rattle.slub_core.specs.Setup.{Setup}
use Rattle.slub_core.specs.World.{LockValue}
use Rattle.slub_core.specs.Run.{Pick, System, turn}
use Rattle.slub_picks.specs.Made.{IsMade}
use Rattle.slub_turns.specs.Happenings.{Happening, Rests, happenings_of}
use Rattle.slub_round_log.specs.declared.kept.Kept.{Kept}
use Rattle.slub_round_log.specs.Choices.{Goes}
use Rattle.slub_round_log.specs.Log.{Hears, IsAlike, SinkState, Takes, ended_by, made_after, shown, waits_after}
use Rattle.slub_round_log.specs.Told.{context_behind, turns_text}

-- ---- a turn

-- a turn ends by it
abbrev pub is_rest : Happening → Bool
is_rest (Rests value before l) = true
is_rest _ = false

-- what comes about in one turn: its end is the last of it, and nothing before that ends a turn
pub record IsOneTurn (happenings : List Happening) : Type 0 where
  pub front : List Happening
  pub value : ℕ → LockValue
  pub before : ℕ
  pub last : Local
  pub happenings_are : happenings ≡ front ++ Rests value before last ∷ []
  pub none_ends : list_any is_rest front ≡ false

-- a log: what it keeps, and what its sink tells
pub record LogState : Type 0 where
  pub kept : Kept
  pub sink : SinkState

-- what becomes of it by what it hears
abbrev pub Heard : Facts → LogState → Happening → LogState → Type 0
Heard m w h v = Hears m w.kept w.sink h v.kept v.sink

-- what a log has done that heard these, and had no lines left from before: it has written what is
-- said of them, and no line is left
pub record AreWritten (m : Facts) (w : LogState) (happenings : List Happening) (v : LogState)
    : Type 0 where
  pub taken : Takes w.sink v.sink
      (shown w.kept (turns_text w.kept.labels m w.kept.context happenings))
  pub lines : v.kept.lines.items ≡ []
  pub alike : IsAlike w.kept v.kept
  pub context : v.kept.context ≡ context_behind w.kept.context happenings
  pub made : (turns : List ℕ) → IsMade w.kept.made turns
      → IsMade v.kept.made (fold made_after turns happenings)
  -- nothing had failed before
  pub fault : w.kept.fault ≡ None

-- so it is of a turn, where nothing fails; and whose turn comes next goes by how it ended
abbrev pub TurnsAreWritten : Type 0
TurnsAreWritten = (m : Facts) (w : LogState) (happenings : List Happening) (v : LogState)
    (turn : IsOneTurn happenings)
    → FoldsTo (Heard m) w happenings v → w.kept.lines.items ≡ [] → v.kept.fault ≡ None
    → AreWritten m w happenings v
    × Goes w.kept.choice (ended_by turn.last (fold waits_after w.kept.waits turn.front))
    v.kept.choice

-- ---- several turns

-- the worker is chosen whose turn comes next: nothing else changes
pub record IsChosen (w v : LogState) : Type 0 where
  pub kept : v.kept ≡ record w.kept { choice = v.kept.choice }
  pub sink : v.sink ≡ w.sink

-- one turn after the other is heard, each once its worker is chosen
abbrev pub AreHeard : Facts → LogState → List (List Happening) → LogState → Type 0
AreHeard m w [] v = v ≡ w
AreHeard m w (happenings ∷ turns) v =
    (chosen : LogState) × (next : LogState) × IsChosen w chosen × IsOneTurn happenings
    × FoldsTo (Heard m) chosen happenings next × AreHeard m next turns v

-- what comes about in several turns
abbrev pub all_of : List (List Happening) → List Happening
all_of turns = flat_map (λ happenings. happenings) turns

-- it is all written, where nothing fails
abbrev pub RoundsAreWritten : Type 0
RoundsAreWritten = (m : Facts) (w : LogState) (turns : List (List Happening)) (v : LogState)
    → AreHeard m w turns v → w.kept.lines.items ≡ [] → v.kept.fault ≡ None
    → AreWritten m w (all_of turns) v

-- what comes about in the turn of a worker is one turn
abbrev pub HappeningsAreOneTurn : Type 0
HappeningsAreOneTurn = (m : Setup) (refused : Bool) (s : System) (worker : ℕ)
    → IsOneTurn (happenings_of m refused s worker)

-- what comes about in the turns of these picks, turn by turn
abbrev pub told_by : Setup → System → List Pick → List (List Happening)
told_by m s [] = []
told_by m s (pick ∷ picks) =
    happenings_of m pick.refused s pick.worker ∷ told_by m (turn m s pick) picks
