-- Who says whose turn comes next in a round, and which turns those are.
use Rattle.std.specs.Prelude.{◌≡◌, ◌≤◌, ℕ, Bool, true, false, nat_le, if◌then◌else◌, List, [], ◌∷◌, length, slice_get, slice_index, All, ⊤}
use Rattle.std.specs.List.{fold}
use Rattle.std.specs.Option.{option_map_or}
use Rattle.slub_trace.specs.declared.event.Round.{Round}
use Rattle.slub_core.specs.Setup.{Setup}
use Rattle.slub_core.specs.Run.{Pick, System, run, turn}
use Rattle.slub_schedule.specs.Schedule.{AreDrawn, IsCall, is_between, unfinished}
use Rattle.slub_schedule.specs.Rounds.{IsFinishedSystem}
use Rattle.slub_schedule.specs.Turns.{turns_of}
use Rattle.slub_turns.specs.Happenings.{Happening, Rests, happenings_of}
use Rattle.slub_law_replay.specs.Ways.{seed_after}
use Rattle.slub_picks.specs.declared.list.Entry.{Entry}
use Rattle.slub_picks.specs.declared.list.Part.{Part}
use Rattle.slub_picks.specs.declared.list.PickList.{PickList}
use Rattle.slub_picks.specs.declared.walk.Ended.{Ended}
use Rattle.slub_picks.specs.declared.walk.Misfit.{Misfit}
use Rattle.slub_picks.specs.declared.walk.Misfit.TheVariants.{PicksEnd}
use Rattle.slub_picks.specs.declared.walk.Walk.{Walk}
use Rattle.slub_picks.specs.declared.words.Way.{Way}
use Rattle.slub_picks.specs.declared.words.Way.TheVariants.{Seed, Picks}
use Rattle.slub_picks.specs.Misfits.{IsMisfit}
use Rattle.slub_picks.specs.Turns.{Say, Turn, is_among}
use Rattle.slub_picks.specs.Walks.{IsAlong}
use Rattle.slub_round_log.specs.Log.{waits_after}

-- ---- who says them

pub data Sayer : Type 0 where
  -- the only worker of the round
  Alone : Sayer
  -- the numbers that are drawn from this one on
  Drawn : (seed : ℕ) → Sayer
  -- a part of the list of picks
  Listed : (entries : List Entry) → Sayer

-- the entries of the part of this number, from 0 on; none where the list has no such part
abbrev pub entries_at : PickList → ℕ → List Entry
entries_at list number = option_map_or (λ (part : Part). part.entries) (slice_get list.parts number) []

-- of a round of several workers: behind so many `round` lines, so many of them of several workers
abbrev pub sayer_by : Way → ℕ → ℕ → Sayer
sayer_by (Seed seed) lines several = Drawn (seed_after seed lines)
sayer_by (Picks list) lines several = Listed (entries_at list several)

-- of any round
abbrev pub sayer_of : Way → ℕ → ℕ → Round → Sayer
sayer_of way lines several round =
    if nat_le round.workers 1 then Alone else sayer_by way lines several

-- ---- the turns that were made

-- whether the worker is between two events at the end of its turn
abbrev pub over_after : Bool → Happening → Bool
over_after is_over (Rests value before l) = is_between l.spot
over_after is_over _ = is_over

-- how a turn ended in which this came about
abbrev pub ended_of : List Happening → Ended
ended_of happenings = record {
  is_event_over = fold over_after false happenings;
  is_lost_at_lock = fold waits_after false happenings;
}

-- the turns of these picks, one after the other
abbrev pub turns_by : Setup → System → List Pick → List Turn
turns_by m s [] = []
turns_by m s (pick ∷ picks) = record {
  worker = pick.worker;
  ended = ended_of (happenings_of m pick.refused s pick.worker);
  unfinished = unfinished s;
} ∷ turns_by m (turn m s pick) picks

-- ---- which turns are said

-- each turn is of the first worker that is unfinished
abbrev pub AreFirst : Setup → System → List Pick → Type 0
AreFirst m s [] = ⊤
AreFirst m s (pick ∷ picks) =
    (1 ≤ length (unfinished s)) × (pick.worker ≡ slice_index (unfinished s) 0) × IsCall pick
    × AreFirst m (turn m s pick) picks

-- the entries say these turns so far: those before some place say the first of them, and the others
-- are begun for the entry there
pub record AreAlong (workers : ℕ) (entries : List Entry) (turns : List Turn) (left : List ℕ)
    : Type 0 where
  pub walk : Walk
  pub entries_are : walk.entries.now ≡ entries
  pub workers_are : walk.workers ≡ workers
  pub along : IsAlong walk turns left

-- a turn is of a worker that is unfinished
abbrev pub IsOfUnfinished : Turn → Type 0
IsOfUnfinished turn = is_among turn.worker turn.unfinished ≡ true

-- the turns that were made are those that are said
abbrev pub AreSaid : Sayer → ℕ → Setup → System → List Pick → Type 0
AreSaid Alone workers m first picks = AreFirst m first picks
AreSaid (Drawn seed) workers m first picks = AreDrawn m first seed picks
AreSaid (Listed entries) workers m first picks =
    All IsCall picks × All IsOfUnfinished (turns_by m first picks)
    × AreAlong workers entries (turns_by m first picks) (unfinished (run m first picks))

-- and no more are said
abbrev pub AreAllSaid : Sayer → ℕ → Setup → System → List Pick → Type 0
AreAllSaid (Listed entries) workers m first picks =
    Say workers entries (turns_by m first picks) []
AreAllSaid _ workers m first picks = ⊤

-- behind them the part of the list doesn't fit, for this reason; it ends too early where a worker is
-- unfinished
abbrev pub Misfits : Sayer → ℕ → Setup → System → List Pick → Misfit → Type 0
Misfits (Listed entries) workers m first picks misfit =
    IsMisfit workers entries (turns_by m first picks) (unfinished (run m first picks)) misfit
    × (misfit ≡ PicksEnd → 1 ≤ length (unfinished (run m first picks)))
Misfits _ workers m first picks misfit = ⊥

-- ---- how a round goes on and ends

-- these turns are said and made
pub record GoesSaid (sayer : Sayer) (workers : ℕ) (m : Setup) (first : System)
    (picks : List Pick) (last : System) : Type 0 where
  pub run : last ≡ run m first picks
  pub within : length picks ≤ turns_of first
  pub said : AreSaid sayer workers m first picks

-- each worker is finished, and no turn is left to be said
pub record EndsSaid (sayer : Sayer) (workers : ℕ) (m : Setup) (first : System)
    (picks : List Pick) (last : System) : Type 0 where
  pub run : last ≡ run m first picks
  pub within : length picks ≤ turns_of first
  pub said : AreSaid sayer workers m first picks
  pub all : AreAllSaid sayer workers m first picks
  pub finished : IsFinishedSystem last

-- all turns of the round are made, and a worker is unfinished still
pub record SpendsSaid (sayer : Sayer) (workers : ℕ) (m : Setup) (first : System)
    (picks : List Pick) (last : System) : Type 0 where
  pub run : last ≡ run m first picks
  pub all : length picks ≡ turns_of first
  pub said : AreSaid sayer workers m first picks
  pub unfinished : 1 ≤ length (unfinished last)

-- these turns are said and made, and behind them the part of the list doesn't fit
pub record MisfitsSaid (sayer : Sayer) (workers : ℕ) (misfit : Misfit) (m : Setup)
    (first : System) (picks : List Pick) (last : System) : Type 0 where
  pub run : last ≡ run m first picks
  pub within : length picks ≤ turns_of first
  pub said : AreSaid sayer workers m first picks
  pub misfits : Misfits sayer workers m first picks misfit
