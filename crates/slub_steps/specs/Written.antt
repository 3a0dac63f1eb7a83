-- What a run writes: the items of a trace one after the other, and what stands before and behind
-- them.
use Rattle.std.specs.Prelude.{◌≡◌, ◌≤◌, ◌<◌, ◌⊎◌, ℕ, ◌+◌, ◌-◌, ◌^◌, ◌==◌, min, nat_lt, Bool, true, false, List, [], ◌∷◌, ◌++◌, length, take, count_by, Option, Some, None, is_none, MatchOption, IfSome, IsSomeAnd, Result, Ok, Err, slice_get, ⊤}
use Rattle.std.specs.Option.{option_map_or}
use Rattle.slub_trace.specs.declared.event.Round.{Round}
use Rattle.slub_trace.specs.declared.trace.Item.{Item}
use Rattle.slub_trace.specs.declared.trace.Item.TheVariants as item
use Rattle.slub_trace.specs.declared.trace.Trace.{Trace}
use Rattle.slub_lists.specs.State.{State}
use Rattle.slub_slabinfo_text.specs.declared.journal.Done.{Done}
use Rattle.slub_slabinfo_text.specs.declared.journal.Journal.{Journal}
use Rattle.slub_slabinfo_text.specs.declared.journal.Total.{Total}
use Rattle.slub_slabinfo_text.specs.Lawful.{IsTotal}
use Rattle.slub_slabinfo_text.specs.Text.{text_at, total_text}
use Rattle.slub_law_replay.specs.declared.way.Way.TheVariants.{Schedule}
use Rattle.slub_law_replay.specs.Runs.{Does, ItemSpendsTurns, MachineState, machine_of}
use Rattle.slub_cli.specs.declared.status.Status.{Status as ReplayStatus}
use Rattle.slub_cli.specs.declared.status.Status.TheVariants as replayed
use Rattle.slub_cli.specs.Run.{done_status}
use Rattle.slub_picks.specs.declared.faults.Bad.{Bad}
use Rattle.slub_picks.specs.declared.faults.Bad.TheVariants.{InRound, NoRound, PartsLeft}
use Rattle.slub_picks.specs.declared.status.Status.{Status}
use Rattle.slub_picks.specs.declared.status.Status.TheVariants as ends
use Rattle.slub_picks.specs.declared.words.Way.{Way}
use Rattle.slub_picks.specs.declared.words.Way.TheVariants.{Seed, Picks}
use Rattle.slub_picks.specs.Faults.{bad_line}
use Rattle.slub_asked.specs.declared.stop.Stop.{Stop}
use Rattle.slub_asked.specs.declared.stop.Stop.TheVariants.{BadPicks, NoMemory, TurnsSpent, WriteFault}
use Rattle.slub_log_text.specs.Parts.{head_text}
use Rattle.slub_round_log.specs.Log.{FailsAt, SinkState, Takes}
use Rattle.slub_steps.specs.Live.{Named, live_behind, live_past}
use Rattle.slub_steps.specs.Rounds.{IsRoundTold, RoundDue, StopsRound, if_shown}
use Rattle.slub_steps.specs.Sayers.{sayer_of}

-- ---- what is asked for

-- where the turns come from, and the one `round` line that is shown, from 1; where none is named,
-- all is shown
pub record Wanted : Type 0 where
  pub way : Way
  pub only : Option ℕ

-- the round of this `round` line is shown
abbrev pub shows : Wanted → ℕ → Bool
shows wanted line = option_map_or (λ only. line == only) wanted.only true

-- ---- which rounds stand before an item

abbrev pub is_round : Item → Bool
is_round (item.Round round) = true
is_round _ = false

-- a round of two or more workers
abbrev pub is_shared : Item → Bool
is_shared (item.Round round) = nat_lt 1 round.workers
is_shared _ = false

-- how many `round` lines, as far as 32 bits go
abbrev pub lines_before : Trace → ℕ → ℕ
lines_before trace number = min (count_by is_round (take number trace.items)) (2 ^ 32 - 1)

-- how many of two or more workers, as far as 64 bits go
abbrev pub shared_before : Trace → ℕ → ℕ
shared_before trace number = min (count_by is_shared (take number trace.items)) (2 ^ 64 - 1)

-- ---- an item

-- which `round` line an item is that is one, from 1
abbrev pub line_at : Trace → ℕ → ℕ
line_at trace number = min (lines_before trace number + 1) (2 ^ 32 - 1)

-- the item of this number, where it is a round
abbrev pub due_at : Wanted → Trace → ℕ → Round → List Named → RoundDue
due_at wanted trace number round live = record {
  trace = trace;
  number = number;
  round = round;
  line = line_at trace number;
  sayer = sayer_of wanted.way (lines_before trace number) (shared_before trace number) round;
  live = live;
}

-- it is done, and this is written of it: of a round as it was made, where it is shown; of any other
-- item its replies, where all is shown
abbrev pub IsItemTold : Wanted → Trace → ℕ → MachineState → List Named → List ℕ → Done
    → MachineState → Item → Type 0
IsItemTold wanted trace number m live text answer after (item.Round round) =
    (whole : List ℕ) × IsRoundTold (due_at wanted trace number round live) m whole answer after
    × (text ≡ if_shown (shows wanted (line_at trace number)) whole)
IsItemTold wanted trace number m live text answer after item =
    Does (Schedule 0) m trace item answer after
    × (text ≡ if_shown (is_none wanted.only) (text_at true trace number answer))

-- the item of this number is done
abbrev pub IsToldAt : Wanted → Trace → ℕ → MachineState → List Named → List ℕ → Done
    → MachineState → Type 0
IsToldAt wanted trace number m live text answer after =
    IsSomeAnd (slice_get trace.items number)
    (IsItemTold wanted trace number m live text answer after)

-- nothing is written of an item, or all that is written where it is done
abbrev pub IsItemOrNone : Wanted → Trace → ℕ → MachineState → List Named → List ℕ → Item → Type 0
IsItemOrNone wanted trace number m live text item =
    (text ≡ []) ⊎ ((answer : Done) × (after : MachineState)
    × IsItemTold wanted trace number m live text answer after item)

-- why it wasn't, and what was written of it; where a write fails, a front of this and not the whole
abbrev pub StopsItem : Wanted → Trace → ℕ → MachineState → List Named → SinkState → SinkState
    → Stop → Item → Type 0
StopsItem wanted trace number m live old new stop (item.Round round) =
    StopsRound (due_at wanted trace number round live) (shows wanted (line_at trace number))
    m old new stop
StopsItem wanted trace number m live old new NoMemory item =
    (text : List ℕ) × IsItemOrNone wanted trace number m live text item × Takes old new text
StopsItem wanted trace number m live old new WriteFault item =
    (text : List ℕ) × IsItemOrNone wanted trace number m live text item × FailsAt old new text
StopsItem wanted trace number m live old new TurnsSpent item =
    ItemSpendsTurns (Schedule 0) m trace item × Takes old new []
StopsItem wanted trace number m live old new _ item = ⊥

abbrev pub StopsAt : Wanted → Trace → ℕ → MachineState → List Named → SinkState → SinkState
    → Stop → Type 0
StopsAt wanted trace number m live old new stop =
    IsSomeAnd (slice_get trace.items number) (StopsItem wanted trace number m live old new stop)

-- ---- several items

-- the items from this number on are done, with these answers, and this is written of them
abbrev pub AreDone : Wanted → Trace → ℕ → MachineState → List Named → List Done → MachineState
    → List ℕ → Type 0
AreDone wanted trace number m live [] after text = (after ≡ m) × (text ≡ [])
AreDone wanted trace number m live (answer ∷ answers) after text =
    (mid : MachineState) × (one : List ℕ) × (rest : List ℕ)
    × IsToldAt wanted trace number m live one answer mid
    × AreDone wanted trace (number + 1) mid
    (live_past trace live (slice_get trace.items number) answer) answers after rest
    × (text ≡ one ++ rest)

-- the first items of the trace are done, and this is written of them
pub record HasDone (wanted : Wanted) (trace : Trace) (answers : List Done) (m : MachineState)
    (text : List ℕ) : Type 0 where
  pub done : AreDone wanted trace 0 (machine_of trace) [] answers m text
  -- none was done that isn't asked for
  pub asked : IfSome wanted.only (λ only. (less : ℕ) → less < length answers
      → lines_before trace less < only)

-- as many items are done as are asked for, or as there are
abbrev pub AreDue : Wanted → Trace → ℕ → Type 0
AreDue wanted trace number =
    (number ≡ length trace.items)
    ⊎ MatchOption wanted.only ⊥ (λ only. only ≤ lines_before trace number)

-- and they are all that are asked for: the whole trace, or all up to the end of the round that is
-- shown
abbrev pub AreEnough : Wanted → Trace → ℕ → Type 0
AreEnough wanted trace number =
    MatchOption wanted.only (number ≡ length trace.items)
    (λ only. only ≤ lines_before trace number)

-- ---- what stands behind them

-- the total line, which a run that shows one round hasn't
abbrev pub IsTail : Wanted → List Done → State → List ℕ → Type 0
IsTail wanted answers s text =
    MatchOption wanted.only
    ((total : Total) × IsTotal s answers total × (text ≡ total_text total))
    (λ only. text ≡ [])

-- how many rounds the list of picks is for
abbrev pub parts_in : Way → ℕ
parts_in (Seed seed) = 0
parts_in (Picks list) = length list.parts

-- where the whole trace is done no part of the list is left
abbrev pub AreUsed : Wanted → Trace → ℕ → Type 0
AreUsed wanted trace number =
    MatchOption wanted.only (parts_in wanted.way ≤ shared_before trace number) (λ only. ⊤)

-- ---- a log

-- how a replay ended, as this program says it
abbrev pub status_as : ReplayStatus → Status
status_as replayed.Fine = ends.Fine
status_as replayed.NoMemory = ends.NoMemory
status_as _ = ends.Refused

-- the status of a run with these answers; of a journal nothing else bears on it
pub record IsStatusOf (trace : Trace) (answers : List Done) (status : Status) : Type 0 where
  pub journal : Journal
  pub items : journal.items ≡ answers
  pub status_is : status ≡ status_as (done_status (Some trace) journal)

-- the whole text of a log, and the status of its run
pub record IsLog (wanted : Wanted) (trace : Trace) (status : Status) (text : List ℕ)
    : Type 0 where
  pub answers : List Done
  pub machine : MachineState
  pub items : List ℕ
  pub done : HasDone wanted trace answers machine items
  pub enough : AreEnough wanted trace (length answers)
  pub used : AreUsed wanted trace (length answers)
  pub tail : List ℕ
  pub is_tail : IsTail wanted answers machine.lists tail
  pub status_is : IsStatusOf trace answers status
  pub text_is : text ≡ head_text trace wanted.way ++ items ++ tail

-- ---- a log that ends early

-- behind a text and what is written of the first items, the next one, which is asked for, isn't done
pub record StopsIn (wanted : Wanted) (trace : Trace) (front : List ℕ) (old new : SinkState)
    (stop : Stop) : Type 0 where
  pub answers : List Done
  pub machine : MachineState
  pub items : List ℕ
  pub done : HasDone wanted trace answers machine items
  pub asked : IfSome wanted.only (λ only. lines_before trace (length answers) < only)
  pub mid : SinkState
  pub taken : Takes old mid (front ++ items)
  pub stops : StopsAt wanted trace (length answers) machine (live_behind trace 0 [] answers)
      mid new stop

-- why the picks don't fit the trace, or what is shown isn't there, once all items are done
abbrev pub IsBadEnd : Wanted → Trace → Bad → Type 0
IsBadEnd wanted trace (NoRound line) =
    (wanted.only ≡ Some line) × (lines_before trace (length trace.items) < line)
IsBadEnd wanted trace (PartsLeft parts rounds) =
    (wanted.only ≡ None) × (parts ≡ parts_in wanted.way)
    × (rounds ≡ shared_before trace (length trace.items)) × (rounds < parts)
IsBadEnd wanted trace (InRound misfit round turns) = ⊥

-- so all was written, and this is the line that says so
pub record EndsBad (wanted : Wanted) (trace : Trace) (front : List ℕ) (old new : SinkState)
    (line : List ℕ) : Type 0 where
  pub answers : List Done
  pub machine : MachineState
  pub items : List ℕ
  pub done : HasDone wanted trace answers machine items
  pub all : length answers ≡ length trace.items
  pub tail : List ℕ
  pub is_tail : IsTail wanted answers machine.lists tail
  pub taken : Takes old new (front ++ items ++ tail)
  pub bad : Bad
  pub is_bad : IsBadEnd wanted trace bad
  pub line_is : line ≡ bad_line bad

-- of what stands behind the items nothing is written or all, and memory is lacking; or a write of it
-- fails
abbrev pub StopsTail : Wanted → List Done → State → SinkState → SinkState → Stop → Type 0
StopsTail wanted answers s old new NoMemory = (tail : List ℕ)
    × ((tail ≡ []) ⊎ IsTail wanted answers s tail) × Takes old new tail
StopsTail wanted answers s old new WriteFault =
    (tail : List ℕ) × IsTail wanted answers s tail × FailsAt old new tail
StopsTail wanted answers s old new _ = ⊥

-- behind a text and what is written of all items that are due, what stands behind them isn't done
pub record StopsBehind (wanted : Wanted) (trace : Trace) (front : List ℕ) (old new : SinkState)
    (stop : Stop) : Type 0 where
  pub answers : List Done
  pub machine : MachineState
  pub items : List ℕ
  pub done : HasDone wanted trace answers machine items
  pub due : AreDue wanted trace (length answers)
  pub mid : SinkState
  pub taken : Takes old mid (front ++ items)
  pub stops : StopsTail wanted answers machine.lists mid new stop

-- in an item or behind them all
abbrev pub StopsLate : Wanted → Trace → List ℕ → SinkState → SinkState → Stop → Type 0
StopsLate wanted trace front old new stop =
    StopsIn wanted trace front old new stop ⊎ StopsBehind wanted trace front old new stop

-- why a log ended early, and what was written of it
abbrev pub StopsLog : Wanted → Trace → SinkState → SinkState → Stop → Type 0
StopsLog wanted trace old new NoMemory =
    Takes old new [] ⊎ StopsLate wanted trace (head_text trace wanted.way) old new NoMemory
StopsLog wanted trace old new WriteFault = FailsAt old new (head_text trace wanted.way)
    ⊎ StopsLate wanted trace (head_text trace wanted.way) old new WriteFault
StopsLog wanted trace old new TurnsSpent =
    StopsIn wanted trace (head_text trace wanted.way) old new TurnsSpent
StopsLog wanted trace old new (BadPicks line) =
    StopsIn wanted trace (head_text trace wanted.way) old new (BadPicks line)
    ⊎ EndsBad wanted trace (head_text trace wanted.way) old new line.items
StopsLog wanted trace old new _ = ⊥

-- what was written of a log, and how its run ended
abbrev pub WritesLog : Wanted → Trace → SinkState → SinkState → Result Status Stop → Type 0
WritesLog wanted trace old new (Ok status) =
    (text : List ℕ) × IsLog wanted trace status text × Takes old new text
WritesLog wanted trace old new (Err stop) = StopsLog wanted trace old new stop
