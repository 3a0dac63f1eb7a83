-- A round in a log: its turns, and what is written of them.
use Rattle.std.specs.Prelude.{◌≡◌, ◌⊎◌, ◌+◌, ℕ, Bool, true, if◌then◌else◌, List, [], ◌++◌, map, Option, Result, Ok, Err}
use Rattle.std.specs.List.{fold, range_with_len}
use Rattle.std.specs.Option.{option_map}
use Rattle.slub_trace.specs.declared.event.Round.{Round}
use Rattle.slub_trace.specs.declared.trace.Trace.{Trace}
use Rattle.slub_lists.specs.State.{State}
use Rattle.slub_lists.specs.Alloc.{cache_of}
use Rattle.slub_slabinfo_text.specs.declared.journal.Done.{Done}
use Rattle.slub_slabinfo_text.specs.declared.journal.RoundResult.{RoundResult}
use Rattle.slub_slabinfo_text.specs.Text.{text_at}
use Rattle.slub_core.specs.Facts.{Facts, setup_of}
use Rattle.slub_core.specs.Setup.{Setup}
use Rattle.slub_core.specs.Run.{Pick, System}
use Rattle.slub_turns.specs.Happenings.{Happening}
use Rattle.slub_turns.specs.Means.{the_means}
use Rattle.slub_law_rounds.specs.Round.{IsRound}
use Rattle.slub_rounds.specs.Rounds.{DoesRoundBySteps, SpendsTurnsBySteps}
use Rattle.slub_law_replay.specs.Runs.{KeepsReserves, MachineState}
use Rattle.slub_law_replay.specs.Ways.{AreLeft, ids_before}
use Rattle.slub_turn_text.specs.Labels.{RoundLabels, shares_of}
use Rattle.slub_picks.specs.declared.faults.Bad.TheVariants.{InRound}
use Rattle.slub_picks.specs.declared.made.Made.{Made}
use Rattle.slub_picks.specs.declared.walk.Misfit.{Misfit}
use Rattle.slub_picks.specs.Faults.{bad_line}
use Rattle.slub_picks.specs.Made.{IsMade, part_text, runs_of}
use Rattle.slub_asked.specs.declared.stop.Stop.{Stop}
use Rattle.slub_asked.specs.declared.stop.Stop.TheVariants.{BadPicks, NoMemory, TurnsSpent, WriteFault}
use Rattle.slub_log_text.specs.declared.parts.Counts.{Counts}
use Rattle.slub_log_text.specs.declared.parts.Shown.{Shown}
use Rattle.slub_log_text.specs.Parts.{closing_text, opening_text}
use Rattle.slub_round_log.specs.Laws.{all_of, told_by}
use Rattle.slub_round_log.specs.Log.{FailsAt, SinkState, Takes, first_lines, made_after}
use Rattle.slub_round_log.specs.Told.{Context, context_behind, first_context, turns_text}
use Rattle.slub_steps.specs.Counted.{IsOutcome}
use Rattle.slub_steps.specs.Live.{Named}
use Rattle.slub_steps.specs.Sayers.{EndsSaid, GoesSaid, MisfitsSaid, Sayer, SpendsSaid}

-- ---- what is given

-- a round of a trace before it is done
pub record RoundDue : Type 0 where
  pub trace : Trace
  -- the place of its item in the trace
  pub number : ℕ
  pub round : Round
  -- which `round` line begins it, from 1
  pub line : ℕ
  -- who says its turns
  pub sayer : Sayer
  -- the live names
  pub live : List Named

-- the title of a live cache
abbrev pub title_at : State → ℕ → Option (List ℕ)
title_at s cache = option_map (λ live. live.title) (cache_of s cache)

-- what lines name: the trace's names, the titles of the caches 0 to 31, and each worker's events
abbrev pub labels_of : Trace → State → Round → RoundLabels
labels_of trace s round = record {
  names = trace.names;
  titles = map (title_at s) (range_with_len 0 32);
  events = shares_of round.events round.workers;
}

-- the machine as a log shows it
pub record IsShown (shown : Shown) (s : State) (tid : ℕ) (ids : List ℕ) (live : List Named)
    : Type 0 where
  pub lists_are : shown.lists.now ≡ s
  pub first_is : shown.first ≡ tid
  pub ids_are : shown.ids.now ≡ ids
  pub live_are : shown.live.now ≡ live

-- ---- what is said of turns

-- what comes about in the turns of these picks
abbrev pub come_about : Setup → System → List Pick → List Happening
come_about m first picks = all_of (told_by m first picks)

-- the lines of these turns, behind those of answers that take no step; what is counted of them, and
-- the workers that made them
pub record Telling : Type 0 where
  pub text : List ℕ
  pub context : Context
  pub made : List ℕ

pub record AreTold (labels : RoundLabels) (tells : Telling) (m : Setup) (first : System)
    (picks : List Pick) : Type 0 where
  pub facts : Facts
  pub setup : m ≡ setup_of facts the_means
  pub text : tells.text ≡ first_lines labels first.locals
      ++ turns_text labels facts first_context (come_about m first picks)
  pub context : tells.context ≡ context_behind first_context (come_about m first picks)
  pub made : tells.made ≡ fold made_after [] (come_about m first picks)

-- what is counted
abbrev pub counts_of : Context → Counts
counts_of c = record { turns = c.turns; lost = c.lost; waits = c.waits }

-- the part of a list of picks that says the turns of these workers
pub record IsPartOf (made : List ℕ) (text : List ℕ) : Type 0 where
  pub runs : Made
  pub are_made : IsMade runs made
  pub text_is : text ≡ part_text (runs_of runs)

-- ---- what is written of a round

-- what stands before its turns: its events, and the machine
pub record IsOpening (d : RoundDue) (m : MachineState) (text : List ℕ) : Type 0 where
  pub before : Shown
  pub shows : IsShown before m.lists d.trace.tid (ids_before m.lists m.ids) d.live
  pub text_is : text ≡ opening_text d.trace d.line d.round before

-- what stands behind them, before the replies: the machine, what is counted, and the picks
pub record IsClosing (d : RoundDue) (s : State) (ids : List ℕ) (tells : Telling) (text : List ℕ)
    : Type 0 where
  pub behind : Shown
  pub shows : IsShown behind s d.trace.tid ids d.live
  pub part : List ℕ
  pub is_part : IsPartOf tells.made part
  pub text_is : text ≡ closing_text d.line d.round behind (counts_of tells.context) part

-- a round is done in the turns that are said, and its whole text is this
pub record IsRoundTold (d : RoundDue) (m : MachineState) (text : List ℕ) (answer : Done)
    (after : MachineState) : Type 0 where
  pub result : RoundResult
  pub outcome : IsOutcome result answer
  -- each reply has its cause, and the lists are what the replies make of them
  pub lawful : IsRound m.lists d.round result after.lists
  pub tells : Telling
  pub ids_after : List ℕ
  pub does : DoesRoundBySteps (λ k first picks last.
      EndsSaid d.sayer d.round.workers k first picks last
      × AreTold (labels_of d.trace m.lists d.round) tells k first picks)
      m.lists (ids_before m.lists m.ids) d.round result after.lists ids_after
  pub left : AreLeft m.ids ids_after after.ids
  pub reserves : KeepsReserves m after
  pub counted : after.rounds ≡ m.rounds + 1
  pub opening : List ℕ
  pub is_opening : IsOpening d m opening
  pub closing : List ℕ
  pub is_closing : IsClosing d after.lists ids_after tells closing
  pub text_is : text
      ≡ opening ++ tells.text ++ closing ++ text_at true d.trace d.number answer

-- a round has come to behind these turns, of which `Ending` tells; its text so far is this
pub record IsRoundCut (Ending : Setup → System → List Pick → System → Type 0) (d : RoundDue)
    (m : MachineState) (tells : Telling) (text : List ℕ) : Type 0 where
  pub spends : SpendsTurnsBySteps (λ k first picks last. Ending k first picks last
      × AreTold (labels_of d.trace m.lists d.round) tells k first picks)
      m.lists (ids_before m.lists m.ids) d.round
  pub opening : List ℕ
  pub is_opening : IsOpening d m opening
  pub text_is : text ≡ opening ++ tells.text

abbrev pub IsRoundSpent : RoundDue → MachineState → List ℕ → Type 0
IsRoundSpent d m text = (tells : Telling)
    × IsRoundCut (λ k first picks last. SpendsSaid d.sayer d.round.workers k first picks last)
    d m tells text

-- this is the line that says where the picks don't fit
pub record IsRoundUnfit (d : RoundDue) (m : MachineState) (text line : List ℕ) : Type 0 where
  pub misfit : Misfit
  pub tells : Telling
  pub cut : IsRoundCut (λ k first picks last.
      MisfitsSaid d.sayer d.round.workers misfit k first picks last) d m tells text
  pub line_is : line ≡ bad_line (InRound misfit d.line tells.context.turns)

-- ---- where memory is lacking or a write fails

-- the first turns of a round are made: its text so far is what stands before them, and their lines
abbrev pub IsRoundBegun : RoundDue → MachineState → List ℕ → Type 0
IsRoundBegun d m text = (tells : Telling)
    × IsRoundCut (λ k first picks last. GoesSaid d.sayer d.round.workers k first picks last)
    d m tells text

-- how much of its text there may be: nothing, what stands before its turns, the lines of the first
-- of them, too, or all of it
abbrev pub IsRoundPart : RoundDue → MachineState → List ℕ → Type 0
IsRoundPart d m text =
    ((text ≡ []) ⊎ IsOpening d m text)
    ⊎ (IsRoundBegun d m text
    ⊎ ((answer : Done) × (after : MachineState) × IsRoundTold d m text answer after))

-- ---- what a sink takes of it

-- the text, where it is shown
abbrev pub if_shown : Bool → List ℕ → List ℕ
if_shown is_shown text = if is_shown then text else []

-- why a round wasn't done, and what was written of it; where a write fails, a front of this and not
-- the whole
abbrev pub StopsRound
    : RoundDue → Bool → MachineState → SinkState → SinkState → Stop → Type 0
StopsRound d is_shown m old new NoMemory =
    (text : List ℕ) × IsRoundPart d m text × Takes old new (if_shown is_shown text)
StopsRound d is_shown m old new WriteFault =
    (text : List ℕ) × IsRoundPart d m text × FailsAt old new (if_shown is_shown text)
StopsRound d is_shown m old new TurnsSpent =
    (text : List ℕ) × IsRoundSpent d m text × Takes old new (if_shown is_shown text)
StopsRound d is_shown m old new (BadPicks line) =
    (text : List ℕ) × IsRoundUnfit d m text line.items × Takes old new (if_shown is_shown text)
StopsRound d is_shown m old new _ = ⊥

-- what came of a round, and what was written of it
abbrev pub WritesRound : RoundDue → Bool → MachineState → SinkState → SinkState
    → Result (MachineState × Done) Stop → Type 0
WritesRound d is_shown m old new (Ok done) =
    (text : List ℕ) × IsRoundTold d m text done.1 done.0 × Takes old new (if_shown is_shown text)
WritesRound d is_shown m old new (Err stop) = StopsRound d is_shown m old new stop
