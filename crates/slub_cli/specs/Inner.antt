-- What the parts of a run promise.
use Rattle.std.specs.Prelude.{IsSome, ◌≡◌, ℕ, ◌+◌, List, [], ◌∷◌, ◌++◌, Bool, false, Option, Some, None, IfSome, Result, Ok, Err, codes, ◌⊎◌, ⊤}
use Rattle.std.specs.Io.KnownBytes.{Appends, IsAtEnd}
use Rattle.slub_edges.specs.Edges.{Rose, AppendsFront}
use Rattle.slub_object_layout.specs.declared.layout.Layout.{Layout as SlabLayout}
use Rattle.slub_object_layout.specs.declared.layout.LayoutRefusal.{LayoutRefusal}
use Rattle.slub_object_layout.specs.declared.layout.Spec.{Spec}
use Rattle.slub_command.specs.declared.command.Command.{Command}
use Rattle.slub_command.specs.declared.command.Command.TheVariants.{Replay, Layout, Load}
use Rattle.slub_slabinfo_text.specs.Texts.{layout_lines}
use Rattle.slub_lists.specs.State.{State}
use Rattle.slub_trace.specs.declared.trace.Trace.{Trace}
use Rattle.slub_trace_reader.specs.declared.reading.Why.{Why}
use Rattle.slub_trace_reader.specs.Reads.{IsBadIn, IsTooLong, Spells}
use Rattle.slub_slabinfo_text.specs.declared.journal.Done.{Done}
use Rattle.slub_slabinfo_text.specs.declared.journal.Total.{Total}
use Rattle.slub_slabinfo_text.specs.declared.journal.Journal.{Journal}
use Rattle.slub_slabinfo_text.specs.Lawful.{IsTotal}
use Rattle.slub_slabinfo_text.specs.Text.{text_of}
use Rattle.slub_law_replay.specs.declared.way.Way.{Way}
use Rattle.slub_law_replay.specs.declared.way.Way.TheVariants.{Schedule}
use Rattle.slub_law_replay.specs.Runs.{DoesAt, EndsSpent, IsReadyMachine, MachineState, RunsItems, SpendsAt, machine_of}
use Rattle.slub_cli.specs.declared.stop.Stop.{Stop}
use Rattle.slub_cli.specs.declared.stop.Stop.TheVariants.{BadWords, BadLine, TooLong, ReadFault, WriteFault, NoMemory, TurnsSpent}
use Rattle.slub_cli.specs.declared.status.Status.{Status}
use Rattle.slub_cli.specs.declared.status.Status.TheVariants as ends
use Rattle.slub_cli.specs.Run.{AreBadWords, Call, IsAsked, IsBadLine, IsDone, IsJournalOf, IsLayoutAnswer, IsLoadJournal, IsReplayJournal, SpendsNextRound, answer_status, done_status, last_begins, last_in, text_in, way_of}
use Rattle.slub_trace_reader.specs.Faults.{fault_line, bad_line}

-- ---- what the sink tells

-- if the sink told the text of the journal before, since whenever, it tells the text after
abbrev pub GrowsText : Bool → Option (List ℕ) → Option (List ℕ) → Trace → Journal → Journal → Type 0
GrowsText replies old new trace before after =
    (start : Option (List ℕ)) → Appends start old (text_of replies trace before) →
    Appends start new (text_of replies trace after)

-- the same up to a front of the last entry, which isn't the whole
abbrev pub GrowsFront : Bool → Option (List ℕ) → Option (List ℕ) → Trace → Journal → Journal
    → Type 0
GrowsFront replies old new trace before after =
    (start : Option (List ℕ)) → Appends start old (text_of replies trace before) →
    AppendsFront start new (last_begins replies trace after) (text_of replies trace after)

-- what the sink tells after doing that may have stopped: at a write fault a front of the last
-- entry, which isn't the whole
abbrev pub Tells : {A : Type 0} → Bool → Option (List ℕ) → Option (List ℕ) → Trace
    → Journal → Journal → Result A Stop → Type 0
Tells replies old new trace before after (Err WriteFault) =
    GrowsFront replies old new trace before after
Tells replies old new trace before after _ = GrowsText replies old new trace before after

-- the text of what was done was taken, or at a write fault a front of it, past where the last
-- entry's text begins and not the whole
abbrev pub TookText : {A : Type 0} → Bool → Option (List ℕ) → Option (List ℕ) → Option Trace
    → Journal → Result A Stop → Type 0
TookText replies old new trace journal (Err WriteFault) =
    AppendsFront old new (last_in replies trace journal) (text_in replies trace journal)
TookText replies old new trace journal _ = Appends old new (text_in replies trace journal)

-- ---- what was done

-- the journal is for the machine of the trace
pub record IsMachineOf (trace : Trace) (journal : Journal) : Type 0 where
  pub frames : journal.frames ≡ trace.frames
  pub cpus : journal.cpus ≡ trace.cpus
  pub tid : journal.tid ≡ trace.tid

-- the machine of the journal stays
pub record SameMachine (old new : Journal) : Type 0 where
  pub frames : new.frames ≡ old.frames
  pub cpus : new.cpus ≡ old.cpus
  pub tid : new.tid ≡ old.tid

-- the journal has this item more
pub record Puts (done : Done) (old new : Journal) : Type 0 where
  pub items : new.items ≡ old.items ++ done ∷ []
  pub total : new.total ≡ old.total
  pub machine : SameMachine old new

-- the journal has one item more, which was done from this machine to that
pub record Adds (way : Way) (m : MachineState) (trace : Trace) (number : ℕ) (after : MachineState)
    (old new : Journal) : Type 0 where
  pub answer : Done
  pub does : DoesAt way m trace number answer after
  pub ready : IsReadyMachine after trace (number + 1)
  pub puts : Puts answer old new

-- nothing was put in
pub record IsSame (old new : Journal) : Type 0 where
  pub items : new.items ≡ old.items
  pub total : new.total ≡ old.total
  pub machine : SameMachine old new

-- an item that was done is put in, but for want of memory
abbrev pub PutsItem : Done → Journal → Journal → Result (Unit {0}) Stop → Type 0
PutsItem done old new (Ok x) = Puts done old new
PutsItem done old new (Err WriteFault) = Puts done old new
PutsItem done old new (Err NoMemory) = IsSame old new
PutsItem done old new _ = ⊥

-- doing an item adds it and gives the machine after it, but for want of memory and of turns
abbrev pub DoesItem : Way → MachineState → Trace → ℕ → Journal → Journal
    → Result MachineState Stop → Type 0
DoesItem way m trace number old new (Ok after) = Adds way m trace number after old new
DoesItem way m trace number old new (Err WriteFault) =
    (after : MachineState) × Adds way m trace number after old new
DoesItem way m trace number old new (Err NoMemory) = IsSame old new
DoesItem way m trace number old new (Err TurnsSpent) =
    IsSame old new × SpendsAt way m trace number
DoesItem way m trace number old new _ = ⊥

-- all items of the trace were done, by some way, and left this machine
abbrev pub LeavesMachine : Trace → Journal → MachineState → Type 0
LeavesMachine trace journal m =
    (way : Way) × RunsItems way (machine_of trace) trace trace.items journal.items m

-- the total is put in
pub record AddsTotal (s : State) (old new : Journal) : Type 0 where
  pub total : Total
  pub sums : IsTotal s old.items total
  pub there : new.total ≡ Some total
  pub items : new.items ≡ old.items
  pub machine : SameMachine old new

-- the total is there, or there was no memory for it
abbrev pub Totals : State → Journal → Journal → Result (Unit {0}) Stop → Type 0
Totals s old new (Ok x) = AddsTotal s old new
Totals s old new (Err WriteFault) = AddsTotal s old new
Totals s old new (Err NoMemory) = IsSame old new
Totals s old new _ = ⊥

-- ---- why it ended

-- a read that failed stopped it, or else the source's count of faults is as it was
abbrev pub StopsAtReadFault : {A : Type 0} → ℕ → ℕ → Result A Stop → Type 0
StopsAtReadFault old new (Err ReadFault) = ⊤
StopsAtReadFault old new _ = new ≡ old

-- a write that failed stopped it, or else the sink's count of faults is as it was
abbrev pub StopsAtWriteFault : {A : Type 0} → ℕ → ℕ → Result A Stop → Type 0
StopsAtWriteFault old new (Err WriteFault) = ⊤
StopsAtWriteFault old new _ = new ≡ old

-- doing items stops for three causes
abbrev pub IsItemStop : ℕ → ℕ → Journal → Stop → Type 0
IsItemStop old new journal WriteFault = Rose old new
IsItemStop old new journal NoMemory = journal.total ≡ None
IsItemStop old new journal TurnsSpent = journal.total ≡ None
IsItemStop old new journal _ = ⊥

-- an item whose turns are spent stopped it, the one after the journal's last; or else another cause
abbrev pub StopsSpent : {A : Type 0} → Way → Trace → Journal → Result A Stop → Type 0
StopsSpent way trace journal (Err TurnsSpent) = EndsSpent way trace journal
StopsSpent way trace journal _ = ⊤

-- why no trace was read: what the source told before, what it tells after, and its counts of faults
abbrev pub IsReadStop : Option (List ℕ) → Option (List ℕ) → ℕ × ℕ → Stop → Type 0
IsReadStop told left read (BadLine text) =
    (line : ℕ) × (why : Why) × (text.items ≡ bad_line line why)
    × IsAtEnd left × IsBadIn told line why
IsReadStop told left read TooLong = IfSome told IsTooLong
IsReadStop told left read ReadFault = Rose read.0 read.1
IsReadStop told left read NoMemory = ⊤
IsReadStop told left read _ = ⊥

-- a trace was read, and no other is spelt; or why none was
abbrev pub ReadsInput : Option (List ℕ) → Option (List ℕ) → ℕ × ℕ → Result Trace Stop → Type 0
ReadsInput told left read (Ok trace) = IsAtEnd left × Spells told trace
ReadsInput told left read (Err stop) = IsReadStop told left read stop

-- a layout was printed, or its refusal; at a write fault a front of it was, and not the whole
abbrev pub PrintsLayout : Option (List ℕ) → Option (List ℕ) → ℕ × ℕ → Spec → ℕ
    → Result Status Stop → Type 0
PrintsLayout old new write spec cpus (Ok status) =
    (answer : Result SlabLayout LayoutRefusal) × IsLayoutAnswer spec cpus answer
    × (status ≡ answer_status answer) × Appends old new (layout_lines answer)
PrintsLayout old new write spec cpus (Err WriteFault) =
    (answer : Result SlabLayout LayoutRefusal) × IsLayoutAnswer spec cpus answer
    × Rose write.0 write.1 × AppendsFront old new 0 (layout_lines answer)
PrintsLayout old new write spec cpus (Err NoMemory) = new ≡ old
PrintsLayout old new write spec cpus _ = ⊥

-- what doing a trace came to, with the sink's counts of faults: everything was done, or why it
-- ended early
abbrev pub Loads : ℕ × ℕ → Way → Option Trace → Journal → Result Status Stop → Type 0
Loads write way trace journal (Ok status) =
    IsDone trace journal × (status ≡ done_status trace journal)
Loads write way trace journal (Err WriteFault) = IsSome trace × Rose write.0 write.1
Loads write way trace journal (Err NoMemory) = journal.total ≡ None
Loads write way trace journal (Err TurnsSpent) = SpendsNextRound way trace journal
Loads write way trace journal _ = ⊥

-- the same of a replay, which reads its trace
abbrev pub Replays : Call → Way → Option Trace → Journal → Result Status Stop → Type 0
Replays c way trace journal (Err (BadLine text)) =
    (trace ≡ None) × (line : ℕ) × (why : Why) × (text.items ≡ bad_line line why)
    × IsBadLine c line why
Replays c way trace journal (Err TooLong) = (trace ≡ None) × IfSome c.told IsTooLong
Replays c way trace journal (Err ReadFault) = (trace ≡ None) × Rose c.read.0 c.read.1
Replays c way trace journal result = Loads c.write way trace journal result

-- the whole of a replay
pub record Replayed (c : Call) (way : Way) (replies : Bool) (trace : Option Trace)
    (journal : Journal) (result : Result Status Stop) : Type 0 where
  pub end : Replays c way trace journal result
  pub lawful : IsReplayJournal c way trace journal
  pub told : TookText replies c.old c.new trace journal result

-- the whole of a load: what the sink told before, what it tells after, and its counts of faults
pub record Loaded (old new : Option (List ℕ)) (write : ℕ × ℕ) (seed events workers : ℕ)
    (trace : Option Trace) (journal : Journal) (result : Result Status Stop) : Type 0 where
  pub end : Loads write (Schedule seed) trace journal result
  pub lawful : IsLoadJournal seed events workers trace journal
  pub told : TookText false old new trace journal result

-- what it came to where no command was read
abbrev pub Refuses : Call → Option Trace → Journal → Result Status Stop → Type 0
Refuses c trace journal (Err BadWords) = AreBadWords c.words × (trace ≡ None)
Refuses c trace journal (Err NoMemory) = (trace ≡ None) × (journal.total ≡ None)
Refuses c trace journal _ = ⊥

-- what was asked came to this, and the sink took this of it
abbrev pub Works : Call → Option Command → Option Trace → Journal → Result Status Stop → Type 0
Works c None trace journal result = Refuses c trace journal result × (c.new ≡ c.old)
Works c (Some (Replay how seed replies)) trace journal result =
    Replays c (way_of how seed) trace journal result
    × TookText replies c.old c.new trace journal result
Works c (Some (Layout spec cpus)) trace journal result =
    PrintsLayout c.old c.new c.write spec cpus result × (trace ≡ None) × (journal.total ≡ None)
Works c (Some (Load seed events workers)) trace journal result =
    Loads c.write (Schedule seed) trace journal result
    × TookText false c.old c.new trace journal result

-- the whole of the work, for one command that was read of the words
pub record Worked (c : Call) (trace : Option Trace) (journal : Journal)
    (result : Result Status Stop) : Type 0 where
  pub asked : Option Command
  pub is_asked : IsAsked c.words asked
  pub works : Works c asked trace journal result
  pub lawful : IsJournalOf c asked trace journal

-- the line of a stop
abbrev pub stop_line : Stop → List ℕ
stop_line BadWords = fault_line (codes "bad command")
stop_line (BadLine line) = line.items
stop_line TooLong = fault_line (codes "input too long")
stop_line ReadFault = fault_line (codes "read fault")
stop_line WriteFault = []
stop_line NoMemory = fault_line (codes "out of memory")
stop_line TurnsSpent = fault_line (codes "turns spent")

-- it is a line, or none: a bad line of a trace is told by a line of the program's own
abbrev pub HasLine : Stop → Type 0
HasLine (BadLine line) = (number : ℕ) × (why : Why) × (line.items ≡ bad_line number why)
HasLine _ = ⊤

-- the status of a stop
abbrev pub stop_status : Stop → Status
stop_status BadWords = ends.BadWords
stop_status (BadLine line) = ends.BadTrace
stop_status TooLong = ends.BadTrace
stop_status ReadFault = ends.ReadFault
stop_status WriteFault = ends.WriteFault
stop_status NoMemory = ends.NoMemory
stop_status TurnsSpent = ends.TurnsSpent

-- the line of a stop was written and no write failed, or a front of it that isn't the whole
abbrev pub WroteLine : Option (List ℕ) → Option (List ℕ) → ℕ × ℕ → Stop → Status → Type 0
WroteLine old new write stop status =
    ((status ≡ stop_status stop) × Appends old new (stop_line stop) × (write.1 ≡ write.0))
    ⊎ ((status ≡ ends.WriteFault) × Rose write.0 write.1 × AppendsFront old new 0 (stop_line stop))

-- how a run that came to this end finishes
abbrev pub Finishes : Option (List ℕ) → Option (List ℕ) → ℕ × ℕ → Result Status Stop → Status
    → Type 0
Finishes old new write (Ok done) status = (status ≡ done) × (new ≡ old) × (write.1 ≡ write.0)
Finishes old new write (Err stop) status = WroteLine old new write stop status
