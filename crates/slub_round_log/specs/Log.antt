-- What a log keeps while a round is made, and what becomes of it by what it hears.
use Rattle.std.specs.Prelude.{◌≡◌, ◌≢◌, ℕ, Bool, ◌&&◌, if◌then◌else◌, List, [], ◌∷◌, ◌++◌, flat_map, Option, Some, None, IfSome}
use Rattle.std.specs.Io.KnownBytes.{Appends}
use Rattle.slub_edges.specs.Edges.{AppendsFront, Rose}
use Rattle.slub_core.specs.Facts.{Facts}
use Rattle.slub_core.specs.Local.{Local}
use Rattle.slub_core.specs.World.{LockValue}
use Rattle.slub_schedule.specs.Schedule.{is_between}
use Rattle.slub_turns.specs.Happenings.{Happening, Begins, Steps, Rests}
use Rattle.slub_turn_text.specs.Labels.{RoundLabels}
use Rattle.slub_turn_text.specs.Answers.{quiet_lines}
use Rattle.slub_picks.specs.declared.walk.Ended.{Ended}
use Rattle.slub_picks.specs.Made.{IsMade}
use Rattle.slub_round_log.specs.declared.kept.Fault.{Fault}
use Rattle.slub_round_log.specs.declared.kept.Fault.TheVariants.{NoMemory, Write}
use Rattle.slub_round_log.specs.declared.kept.Kept.{Kept}
use Rattle.slub_round_log.specs.declared.kept.Halt.{Halt}
use Rattle.slub_round_log.specs.declared.kept.Halt.TheVariants.{Failed, Unfit}
use Rattle.slub_round_log.specs.Choices.{Chooses, Goes, IsOver, Refuses}
use Rattle.slub_round_log.specs.Told.{context_after, is_lock, lines_of, was_lost}

-- ---- what is noted

-- the turns that were made, by worker, the last one behind
abbrev pub made_after : List ℕ → Happening → List ℕ
made_after made (Begins l) = made ++ l.worker ∷ []
made_after made _ = made

-- whether the turn that is made has lost an exchange of a lock
abbrev pub waits_after : Bool → Happening → Bool
waits_after waits (Steps value l step a) = was_lost a && is_lock step.place
waits_after waits _ = waits

-- the names stay, and whether lines are written at all
pub record IsAlike (k after : Kept) : Type 0 where
  pub labels : after.labels ≡ k.labels
  pub is_shown : after.is_shown ≡ k.is_shown

-- what is heard is noted, and its lines are put behind those that aren't written yet
pub record IsNoted (m : Facts) (k : Kept) (h : Happening) (after : Kept) : Type 0 where
  pub choice : after.choice ≡ k.choice
  pub lines : after.lines.items ≡ k.lines.items ++ lines_of k.labels m k.context h
  pub context : after.context ≡ context_after k.context h
  pub made : (turns : List ℕ) → IsMade k.made turns → IsMade after.made (made_after turns h)
  pub waits : after.waits ≡ waits_after k.waits h

-- so it is where there is memory; and once something failed, nothing changes
pub record Notes (m : Facts) (k : Kept) (h : Happening) (after : Kept) : Type 0 where
  pub over : k.fault ≢ None → after ≡ k
  pub alike : IsAlike k after
  pub noted : k.fault ≡ None → after.fault ≡ None → IsNoted m k h after
  pub lacking : k.fault ≡ None → IfSome after.fault (λ fault. fault ≡ NoMemory)

-- where there is memory a text is put behind the lines that aren't written yet; nothing else
-- changes
pub record IsPut (k : Kept) (text : List ℕ) (after : Kept) : Type 0 where
  pub rest : after ≡ record k { lines = after.lines; fault = after.fault }
  pub lines : after.fault ≡ None → after.lines.items ≡ k.lines.items ++ text
  pub lacking : IfSome after.fault (λ fault. fault ≡ NoMemory)

-- ---- what is written

-- what the sink tells: the bytes that it took, where it tells them, and how many of its calls failed
pub record SinkState : Type 0 where
  pub taken : Option (List ℕ)
  pub faults : ℕ

-- it took this, and no call failed
pub record Takes (old new : SinkState) (text : List ℕ) : Type 0 where
  pub written : Appends old.taken new.taken text
  pub still : new.faults ≡ old.faults

-- a call failed, so a byte of this or more was not taken
pub record FailsAt (old new : SinkState) (text : List ℕ) : Type 0 where
  pub front : AppendsFront old.taken new.taken 0 text
  pub rose : Rose old.faults new.faults

-- what a failure leaves written
abbrev pub FailsBy : Fault → List ℕ → SinkState → SinkState → Type 0
FailsBy NoMemory text old new = new ≡ old
FailsBy Write text old new = FailsAt old new text

-- what is written of some lines: they, or nothing where none are shown
abbrev pub shown : Kept → List ℕ → List ℕ
shown k text = if k.is_shown then text else []

-- the lines are written, none is left, and what is known of the turns stays
pub record AreLinesWritten (k : Kept) (text : List ℕ) (after : Kept) (old new : SinkState)
    : Type 0 where
  pub lines : after.lines.items ≡ []
  pub taken : Takes old new (shown k text)
  pub context : after.context ≡ k.context
  pub made : (turns : List ℕ) → IsMade k.made turns → IsMade after.made turns
  pub waits : after.waits ≡ k.waits

-- so it is where nothing fails
pub record Writes (k : Kept) (text : List ℕ) (after : Kept) (old new : SinkState)
    : Type 0 where
  pub alike : IsAlike k after
  pub written : after.fault ≡ None → AreLinesWritten k text after old new
  pub failed : IfSome after.fault (λ fault. FailsBy fault (shown k text) old new)

-- ---- the end of a turn

-- how a turn ended at which the worker stands so
abbrev pub ended_by : Local → Bool → Ended
ended_by l waits = record { is_event_over = is_between l.spot; is_lost_at_lock = waits }

-- its lines are written, and whose turn comes next goes by how it ended; once something failed,
-- nothing changes
pub record EndsTurns (m : Facts) (k : Kept) (value : ℕ → LockValue) (before : ℕ) (l : Local)
    (after : Kept) (old new : SinkState) : Type 0 where
  pub over : k.fault ≢ None → (after ≡ k) × (new ≡ old)
  pub writes : k.fault ≡ None → Writes k
      (k.lines.items ++ lines_of k.labels m k.context (Rests value before l)) after old new
  pub choice : k.fault ≡ None → after.fault ≡ None
      → Goes k.choice (ended_by l k.waits) after.choice

-- what becomes of a log by what it hears
abbrev pub Hears : Facts → Kept → SinkState → Happening → Kept → SinkState → Type 0
Hears m k old (Rests value before l) after new = EndsTurns m k value before l after old new
Hears m k old h after new = Notes m k h after × (new ≡ old)

-- ---- the begin of a round, and its end

-- the answers that take no step at the very begin of a round, worker after worker
abbrev pub first_lines : RoundLabels → List Local → List ℕ
first_lines labels locals = flat_map (λ l. quiet_lines labels l 0) locals

-- they are written; once something failed, nothing changes
pub record Begun (k : Kept) (locals : List Local) (after : Kept) (old new : SinkState)
    : Type 0 where
  pub over : k.fault ≢ None → (after ≡ k) × (new ≡ old)
  pub writes : k.fault ≡ None
      → Writes k (k.lines.items ++ first_lines k.labels locals) after old new
  pub choice : after.choice ≡ k.choice

-- whose turn comes next
pub record Picks (k : Kept) (unfinished : List ℕ) (worker : ℕ) (after : Kept) : Type 0 where
  pub fault : k.fault ≡ None
  pub choice : Chooses k.choice unfinished worker after.choice
  pub rest : after ≡ record k { choice = after.choice }

-- why a round is ended before its time
abbrev pub IsHalt : Kept → List ℕ → Halt → Type 0
IsHalt k unfinished (Failed fault) = k.fault ≡ Some fault
IsHalt k unfinished (Unfit misfit) = (k.fault ≡ None) × Refuses k.choice unfinished misfit

-- the round is ended before its time
pub record Halts (k : Kept) (unfinished : List ℕ) (halt : Halt) (after : Kept) : Type 0 where
  pub halt_is : IsHalt k unfinished halt
  pub rest : after ≡ record k { choice = after.choice }

-- each worker is finished, and nothing is left to be said
pub record IsOverAll (k after : Kept) : Type 0 where
  pub fault : k.fault ≡ None
  pub choice : IsOver k.choice
  pub rest : after ≡ record k { choice = after.choice }
