-- For contracts of the crate's own functions.
use Rattle.std.specs.Prelude.{◌≡◌, ◌≤◌, ◌<◌, ℕ, Bool, true, false, List, [], ◌∷◌, ◌++◌, length, Option, Some, None, MatchOption, Result, Ok, Err, slice_get}
use Rattle.slub_trace.specs.declared.event.Round.{Round}
use Rattle.slub_trace.specs.declared.trace.Trace.{Trace}
use Rattle.slub_lists.specs.State.{State}
use Rattle.slub_slabinfo_text.specs.declared.journal.Done.{Done}
use Rattle.slub_slabinfo_text.specs.declared.journal.Done.TheVariants as answered
use Rattle.slub_slabinfo_text.specs.declared.journal.RoundResult.{RoundResult}
use Rattle.slub_slabinfo_text.specs.declared.journal.Total.{Total}
use Rattle.slub_slabinfo_text.specs.Lawful.{IsTotal}
use Rattle.slub_slabinfo_text.specs.Text.{text_at, total_text}
use Rattle.slub_law_replay.specs.declared.way.Way.TheVariants.{Schedule}
use Rattle.slub_law_replay.specs.Runs.{DoesAt, MachineState, SpendsAt}
use Rattle.slub_items.specs.declared.machine.Stopped.{Stopped}
use Rattle.slub_items.specs.declared.machine.Stopped.TheVariants as stopped
use Rattle.slub_items.specs.declared.watched.Unwatched.{Unwatched}
use Rattle.slub_items.specs.declared.watched.Unwatched.TheVariants as unwatched
use Rattle.slub_picks.specs.declared.faults.Bad.{Bad}
use Rattle.slub_picks.specs.declared.faults.Bad.TheVariants.{InRound, NoRound, PartsLeft}
use Rattle.slub_picks.specs.declared.walk.Walk.{Walk}
use Rattle.slub_picks.specs.Faults.{bad_line}
use Rattle.slub_picks.specs.Made.{IsMade}
use Rattle.slub_picks.specs.Walks.{IsAlong}
use Rattle.slub_asked.specs.declared.stop.Stop.{Stop}
use Rattle.slub_asked.specs.declared.stop.Stop.TheVariants.{BadPicks, NoMemory, TurnsSpent, WriteFault}
use Rattle.slub_asked.specs.Stop.{IsBadStopOf}
use Rattle.slub_round_log.specs.declared.choice.Choice.{Choice}
use Rattle.slub_round_log.specs.declared.choice.Choice.TheVariants as choice
use Rattle.slub_round_log.specs.declared.kept.Fault.{Fault}
use Rattle.slub_round_log.specs.declared.kept.Fault.TheVariants as fault
use Rattle.slub_round_log.specs.declared.kept.Halt.{Halt}
use Rattle.slub_round_log.specs.declared.kept.Halt.TheVariants.{Failed, Unfit}
use Rattle.slub_round_log.specs.declared.kept.Kept.{Kept}
use Rattle.slub_round_log.specs.Log.{FailsAt, SinkState, Takes}
use Rattle.slub_round_log.specs.Told.{first_context}
use Rattle.slub_turn_text.specs.Labels.{RoundLabels}
use Rattle.slub_steps.specs.declared.replay.Plan.{Plan}
use Rattle.slub_steps.specs.declared.choices.RoundCounts.{RoundCounts}
use Rattle.slub_steps.specs.declared.round.ToldRound.{ToldRound}
use Rattle.slub_steps.specs.Counted.{IsOutcome}
use Rattle.slub_steps.specs.Live.{Named, live_past}
use Rattle.slub_steps.specs.Rounds.{IsClosing, RoundDue, Telling, if_shown}
use Rattle.slub_steps.specs.Sayers.{Sayer, Alone, Drawn, Listed}
use Rattle.slub_steps.specs.Written.{AreDue, HasDone, IsTail, IsToldAt, StopsAt, StopsIn, StopsTail, Wanted, lines_before, parts_in, shared_before}

-- ---- a text

-- a text is written; or memory is lacking, and nothing is; or a write fails
abbrev pub WritesText : {A : Type 0} → SinkState → SinkState → List ℕ → Result A Stop → Type 0
WritesText old new text (Ok x) = Takes old new text
WritesText old new text (Err NoMemory) = Takes old new []
WritesText old new text (Err WriteFault) = FailsAt old new text
WritesText old new text (Err _) = ⊥

-- ---- a round

-- the ids beside a machine: its own, or others where it keeps none
abbrev pub ids_among : Option (List ℕ) → Option (List ℕ) → List ℕ
ids_among (Some ids) others = ids
ids_among None (Some others) = others
ids_among None None = []

-- what says whose turn comes next, at the begin of a round of so many workers
abbrev pub OpensAs : Sayer → ℕ → Choice → Type 0
OpensAs Alone workers c = c ≡ choice.Alone
OpensAs (Drawn seed) workers c = c ≡ choice.Seed seed
OpensAs (Listed entries) workers c =
    (walk : Walk) × (c ≡ choice.Part walk) × (walk.entries.now ≡ entries)
    × (walk.workers ≡ workers) × ((left : List ℕ) → IsAlong walk [] left)

abbrev pub due_of : ToldRound → Trace → Round → Sayer → List Named → RoundDue
due_of place trace round sayer live = record {
  trace = trace;
  number = place.number;
  round = round;
  line = place.round;
  sayer = sayer;
  live = live;
}

-- what a log keeps at the begin of a round
pub record IsFirstKept (k : Kept) (labels : RoundLabels) (c : Choice) (is_shown : Bool)
    : Type 0 where
  pub labels_are : k.labels ≡ labels
  pub choice_is : k.choice ≡ c
  pub shown : k.is_shown ≡ is_shown
  pub lines : k.lines.items ≡ []
  pub context : k.context ≡ first_context
  pub made : IsMade k.made []
  pub waits : k.waits ≡ false
  pub fault : k.fault ≡ None

-- what stands behind the turns, by what a log has kept of them
abbrev pub ClosesBy : ToldRound → Trace → Round → List Named → MachineState → Option (List ℕ) → Kept
    → List ℕ → Type 0
ClosesBy place trace round live m left k text =
    (sayer : Sayer) (tells : Telling) → tells.context ≡ k.context → IsMade k.made tells.made
    → IsClosing (due_of place trace round sayer live) m.lists (ids_among m.ids left) tells text

-- the end of a round is written, and this came of it
abbrev pub ClosesRound : ToldRound → Trace → Round → List Named → MachineState → Option (List ℕ)
    → RoundResult → Kept → SinkState → SinkState → Result (MachineState × Done) Stop → Type 0
ClosesRound place trace round live m left result k old new (Ok done) =
    (done.0 ≡ m) × IsOutcome result done.1 × (closing : List ℕ)
    × ClosesBy place trace round live m left k closing
    × Takes old new (if_shown place.is_shown (closing ++ text_at true trace place.number done.1))
ClosesRound place trace round live m left result k old new (Err NoMemory) = Takes old new []
ClosesRound place trace round live m left result k old new (Err WriteFault) =
    (closing : List ℕ) × ClosesBy place trace round live m left k closing
    × FailsAt old new (if_shown place.is_shown
    (closing ++ text_at true trace place.number (answered.Round result)))
ClosesRound place trace round live m left result k old new (Err _) = ⊥

-- what a fault of a log stops the run for
abbrev pub stop_by : Fault → Stop
stop_by fault.Write = WriteFault
stop_by fault.NoMemory = NoMemory

-- what a log that has its round end stops the run for
abbrev pub HaltsBy : Halt → ℕ → ℕ → Stop → Type 0
HaltsBy (Failed failed) round turns stop = stop ≡ stop_by failed
HaltsBy (Unfit misfit) round turns stop = IsBadStopOf (InRound misfit round turns) stop

-- what a round that isn't done stops the run for: what failed in its log, or why it ended
abbrev pub StopsBy : Option Fault → Unwatched MachineState Halt → ℕ → ℕ → Stop → Type 0
StopsBy (Some failed) why round turns stop = stop ≡ stop_by failed
StopsBy None (unwatched.NoMemory left) round turns stop = stop ≡ NoMemory
StopsBy None unwatched.TurnsSpent round turns stop = stop ≡ TurnsSpent
StopsBy None (unwatched.Halted halt) round turns stop = HaltsBy halt round turns stop

-- ---- an item

abbrev pub wanted_by : Plan → Wanted
wanted_by plan = record { way = plan.way.now; only = plan.round }

-- so many rounds stand before the item of this number
pub record AreBefore (counts : RoundCounts) (trace : Trace) (number : ℕ) : Type 0 where
  pub lines : counts.lines ≡ lines_before trace number
  pub several : counts.several ≡ shared_before trace number

-- why an item that is no round wasn't done
abbrev pub StopsPlain : Stopped → Stop → Type 0
StopsPlain (stopped.NoMemory left) stop = stop ≡ NoMemory
StopsPlain stopped.TurnsSpent stop = stop ≡ TurnsSpent

-- an item that is no round is done, and its text is written where it is shown
abbrev pub WritesPlain : Trace → ℕ → MachineState → Bool → SinkState → SinkState
    → Result (MachineState × Done) Stop → Type 0
WritesPlain trace number m is_shown old new (Ok done) =
    DoesAt (Schedule 0) m trace number done.1 done.0
    × Takes old new (if_shown is_shown (text_at true trace number done.1))
WritesPlain trace number m is_shown old new (Err NoMemory) = Takes old new []
WritesPlain trace number m is_shown old new (Err WriteFault) =
    (answer : Done) × (after : MachineState) × DoesAt (Schedule 0) m trace number answer after
    × FailsAt old new (if_shown is_shown (text_at true trace number answer))
WritesPlain trace number m is_shown old new (Err TurnsSpent) =
    SpendsAt (Schedule 0) m trace number × Takes old new []
WritesPlain trace number m is_shown old new (Err _) = ⊥

-- an item is done, and this is written of it
abbrev pub WritesItem : Wanted → Trace → ℕ → MachineState → List Named → SinkState → SinkState
    → Result (MachineState × Done) Stop → Type 0
WritesItem wanted trace number m live old new (Ok done) =
    (text : List ℕ) × IsToldAt wanted trace number m live text done.1 done.0 × Takes old new text
WritesItem wanted trace number m live old new (Err stop) =
    StopsAt wanted trace number m live old new stop

-- the same of a replay that goes on by it: its answers and its live names before, and after
abbrev pub MovesOn : Wanted → Trace → ℕ → MachineState → List Done → List Named → SinkState
    → List Done → List Named → SinkState → Result MachineState Stop → Type 0
MovesOn wanted trace number m answers live old answers_after live_after new (Ok after) =
    (answer : Done) × (text : List ℕ)
    × IsToldAt wanted trace number m live text answer after × Takes old new text
    × (answers_after ≡ answers ++ answer ∷ [])
    × (live_after ≡ live_past trace live (slice_get trace.items number) answer)
MovesOn wanted trace number m answers live old answers_after live_after new (Err stop) =
    StopsAt wanted trace number m live old new stop

-- ---- all items

pub record HasRun (wanted : Wanted) (trace : Trace) (answers : List Done) (m : MachineState)
    (counts : RoundCounts) (old new : SinkState) : Type 0 where
  pub text : List ℕ
  pub done : HasDone wanted trace answers m text
  pub due : AreDue wanted trace (length answers)
  pub counts_are : AreBefore counts trace (length answers)
  pub taken : Takes old new text

abbrev pub RunsItems : Wanted → Trace → List Done → RoundCounts → SinkState → SinkState
    → Result MachineState Stop → Type 0
RunsItems wanted trace answers counts old new (Ok m) =
    HasRun wanted trace answers m counts old new
RunsItems wanted trace answers counts old new (Err stop) = StopsIn wanted trace [] old new stop

-- ---- the end

-- nothing is lacking at the end
abbrev pub IsGoodEnd : Wanted → RoundCounts → Type 0
IsGoodEnd wanted counts =
    MatchOption wanted.only (parts_in wanted.way ≤ counts.several) (λ only. only ≤ counts.lines)

-- what is lacking there
abbrev pub LacksEnd : Wanted → RoundCounts → Bad → Type 0
LacksEnd wanted counts (NoRound line) = (wanted.only ≡ Some line) × (counts.lines < line)
LacksEnd wanted counts (PartsLeft parts rounds) =
    (wanted.only ≡ None) × (parts ≡ parts_in wanted.way) × (rounds ≡ counts.several)
    × (rounds < parts)
LacksEnd wanted counts (InRound misfit round turns) = ⊥

-- the total line is written
abbrev pub WritesTotal : {A : Type 0} → List Done → State → SinkState → SinkState
    → Result A Stop → Type 0
WritesTotal answers s old new (Ok _) =
    (total : Total) × IsTotal s answers total × Takes old new (total_text total)
WritesTotal answers s old new (Err NoMemory) = Takes old new []
WritesTotal answers s old new (Err WriteFault) =
    (total : Total) × IsTotal s answers total × FailsAt old new (total_text total)
WritesTotal answers s old new (Err _) = ⊥

-- what stands behind the items is written, and it is said what is lacking
abbrev pub FinishesLog : {A : Type 0} → Wanted → List Done → State → RoundCounts → SinkState
    → SinkState → Result A Stop → Type 0
FinishesLog wanted answers s counts old new (Ok _) =
    (tail : List ℕ) × IsTail wanted answers s tail × Takes old new tail × IsGoodEnd wanted counts
FinishesLog wanted answers s counts old new (Err NoMemory) =
    StopsTail wanted answers s old new NoMemory
FinishesLog wanted answers s counts old new (Err WriteFault) =
    StopsTail wanted answers s old new WriteFault
FinishesLog wanted answers s counts old new (Err (BadPicks line)) =
    (tail : List ℕ) × IsTail wanted answers s tail × Takes old new tail
    × (bad : Bad) × LacksEnd wanted counts bad × (line.items ≡ bad_line bad)
FinishesLog wanted answers s counts old new (Err _) = ⊥
