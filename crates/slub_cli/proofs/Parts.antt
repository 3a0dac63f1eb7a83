-- What the parts of the work promise, from what their calls do.
use Rattle.std.proofs.Common.{◌≡◌, ℕ, List, Bool, Some, None, Ok, Err, Result, refl, sym, inl, inr, subst}
use Rattle.std.specs.Prelude.{Option, IfOk, IsOk, IsErrOf}
use Rattle.std.proofs.KnownBytes.{Appends-nil}
use Rattle.slub_object_layout.specs.declared.layout.Layout.{Layout as SlabLayout}
use Rattle.slub_object_layout.specs.declared.layout.LayoutRefusal.{LayoutRefusal}
use Rattle.slub_object_layout.specs.declared.layout.LayoutRefusal.TheVariants as refusal
use Rattle.slub_object_layout.specs.declared.layout.Spec.{Spec}
use Rattle.slub_object_layout.specs.Layout.{IsAccepted, IsAlign, IsLayout, IsSize, IsSupported}
use Rattle.slub_command.specs.declared.command.How.{How}
use Rattle.slub_command.specs.declared.command.Command.TheVariants.{Replay}
use Rattle.slub_command.specs.Command.{IsCommand}
use Rattle.slub_trace.specs.declared.trace.Trace.{Trace}
use Rattle.slub_trace_reader.specs.declared.reading.TraceFault.{TraceFault}
use Rattle.slub_trace_reader.specs.declared.reading.TraceFault.TheVariants as fault
use Rattle.slub_trace_reader.specs.Reads.{Reads}
use Rattle.slub_slabinfo_text.specs.declared.journal.Journal.{Journal}
use Rattle.slub_slabinfo_text.specs.Journal.{IsEmpty}
use Rattle.slub_cli.specs.declared.stop.Stop.{Stop}
use Rattle.slub_cli.specs.declared.stop.Stop.TheVariants.{BadWords, BadLine, TooLong, ReadFault, WriteFault, NoMemory, TurnsSpent}
use Rattle.slub_cli.specs.declared.status.Status.{Status}
use Rattle.slub_trace.specs.Sound.{IsSound}
use Rattle.slub_trace_reader.specs.Load.{load_of}
use Rattle.slub_law_replay.specs.declared.way.Way.{Way}
use Rattle.slub_law_replay.specs.declared.way.Way.TheVariants.{Schedule}
use Rattle.slub_law_replay.specs.Runs.{IsLawful, MachineState}
use Rattle.slub_items.specs.declared.machine.Stopped.{Stopped}
use Rattle.slub_items.specs.declared.machine.Stopped.TheVariants as stopped
use Rattle.slub_items.specs.Stopped.{IsStopped}
use Rattle.slub_cli.specs.Run.{Call, IsLayoutAnswer, IsLoadOf, IsReplayJournal, way_of}
use Rattle.slub_cli.specs.Inner.{DoesItem, IsItemStop, IsReadStop, Loads, Replayed, Replays, StopsAtReadFault, StopsAtWriteFault, StopsSpent, Tells, TookText, Worked}
use Rattle.slub_cli.specs.Stop.{IsStopOf, item_stop}

-- a fault of the reader stops the reading
pub read_stop : (told left : Option (List ℕ)) (read : ℕ × ℕ) (why : TraceFault) (e : Stop) → Reads told left read.0 read.1 (Err why) → IsStopOf why e → IsReadStop told left read e
read_stop told left read fault.ReadFault e reads is = rw is reads
read_stop told left read fault.TooLong e reads is = rw is reads.0
read_stop told left read (fault.BadLine line why) e reads (inl is) = rw is tt
read_stop told left read (fault.BadLine line why) e reads (inr (text, is, made)) = rw is (line, why, made, reads.1, reads.0)
read_stop told left read fault.NoMemory e reads is = rw is tt

-- and no other read failed
pub read_stop_faults : (told left : Option (List ℕ)) (old new : ℕ) (why : TraceFault) (e : Stop) → Reads told left old new (Err why) → IsStopOf why e → StopsAtReadFault {A = Trace} old new (Err e)
read_stop_faults told left old new fault.ReadFault e reads is = rw is tt
read_stop_faults told left old new fault.TooLong e reads is = rw is reads.1
read_stop_faults told left old new (fault.BadLine line why) e reads (inl is) = rw is reads.2
read_stop_faults told left old new (fault.BadLine line why) e reads (inr (text, is, made)) = rw is reads.2
read_stop_faults told left old new fault.NoMemory e reads is = rw is reads

-- a replay for which no trace was read came to that stop
unread_end : (c : Call) (way : Way) (trace : Option Trace) (j : Journal) (e : Stop) → IsReadStop c.told c.left c.read e → trace ≡ None → j.total ≡ None → Replays c way trace j (Err e)
unread_end c way trace j BadWords h unread none = absurd h
unread_end c way trace j (BadLine text) h unread none = (unread, h.0, h.1, h.2, (h.3, h.4))
unread_end c way trace j TooLong h unread none = (unread, h)
unread_end c way trace j ReadFault h unread none = (unread, h)
unread_end c way trace j WriteFault h unread none = absurd h
unread_end c way trace j NoMemory h unread none = none
unread_end c way trace j TurnsSpent h unread none = absurd h

-- and nothing was written
unread_told : (replies : Bool) (old : Option (List ℕ)) (trace : Option Trace) (j : Journal) (told left : Option (List ℕ)) (read : ℕ × ℕ) (e : Stop) → IsReadStop told left read e → trace ≡ None → TookText {A = Status} replies old old trace j (Err e)
unread_told replies old trace j told left read WriteFault h unread = absurd h
unread_told replies old trace j told left read BadWords h unread = rw unread (Appends-nil old)
unread_told replies old trace j told left read (BadLine text) h unread = rw unread (Appends-nil old)
unread_told replies old trace j told left read TooLong h unread = rw unread (Appends-nil old)
unread_told replies old trace j told left read ReadFault h unread = rw unread (Appends-nil old)
unread_told replies old trace j told left read NoMemory h unread = rw unread (Appends-nil old)
unread_told replies old trace j told left read TurnsSpent h unread = absurd h

pub unread_replays : (c : Call) (way : Way) (replies : Bool) (trace : Option Trace) (j : Journal) (e : Stop) → IsReadStop c.told c.left c.read e → c.new ≡ c.old → trace ≡ None → IsEmpty j → Replayed c way replies trace j (Err e)
unread_replays c way replies trace j e h same unread empty = record {
  end = unread_end c way trace j e h unread empty.total;
  lawful = rw unread empty;
  told = subst (λ (new : Option (List ℕ)). TookText {A = Status} replies c.old new trace j (Err e)) (sym same) (unread_told replies c.old trace j c.told c.left c.read e h unread);
}

-- a trace that was done came to that stop
pub trace_stop : (write : ℕ × ℕ) (way : Way) (trace : Trace) (j : Journal) (e : Stop) → IsItemStop write.0 write.1 j e → StopsSpent {A = Unit {0}} way trace j (Err e) → Loads write way (Some trace) j (Err e)
trace_stop write way trace j WriteFault stops spent = (refl, stops)
trace_stop write way trace j NoMemory stops spent = stops
trace_stop write way trace j TurnsSpent stops spent = (spent, stops)
trace_stop write way trace j _ stops spent = absurd stops

-- whatever it was to give
pub faults_as : (A B : Type 0) (old new : ℕ) (e : Stop) → StopsAtWriteFault {A = A} old new (Err e) → StopsAtWriteFault {A = B} old new (Err e)
faults_as A B old new WriteFault h = h
faults_as A B old new _ h = h

pub spent_as : (A B : Type 0) (way : Way) (trace : Trace) (j : Journal) (e : Stop) → StopsSpent {A = A} way trace j (Err e) → StopsSpent {A = B} way trace j (Err e)
spent_as A B way trace j TurnsSpent h = h
spent_as A B way trace j _ h = h

-- so did its replay
pub replay_stop : (c : Call) (way : Way) (trace : Option Trace) (j : Journal) (e : Stop) → Loads c.write way trace j (Err e) → Replays c way trace j (Err e)
replay_stop c way trace j WriteFault h = h
replay_stop c way trace j NoMemory h = h
replay_stop c way trace j TurnsSpent h = h
replay_stop c way trace j _ h = absurd h

-- what was asked is a replay, and this was one by its way
pub replay_worked : (c : Call) (way : Way) (how : How) (seed : ℕ) (replies : Bool) (trace : Option Trace) (j : Journal) (r : Result Status Stop) → way ≡ way_of how seed → IsCommand c.words (Replay how seed replies)
    → Replayed c way replies trace j r → Worked c trace j r
replay_worked c way how seed replies trace j r is asks whole = record {
  asked = Some (Replay how seed replies);
  is_asked = asks;
  works = (subst (λ (w : Way). Replays c w trace j r) is whole.end, whole.told);
  lawful = subst (λ (w : Way). IsReplayJournal c w trace j) is whole.lawful;
}

-- what was made is the load, and the journal is lawful for it
pub made_load : (seed events workers : ℕ) (trace : Trace) (j : Journal) → trace ≡ load_of seed events workers → IsSound trace → IsLawful (Schedule seed) trace j → IsLoadOf seed events workers trace j
made_load seed events workers trace j is sound lawful = record {
  made = is;
  sound = sound;
  lawful = lawful;
}

-- what a call of the layout answers is the layout, or why there is none
pub answered : (spec : Spec) (cpus : ℕ) (r : Result SlabLayout LayoutRefusal) → IfOk r (IsLayout spec cpus) → (IsOk r → IsAccepted spec) → (IsErrOf r refusal.BadSize → ¬ IsSize spec.size)
    → (IsErrOf r refusal.BadAlign → IsSize spec.size × ¬ IsAlign spec.align) → (IsErrOf r refusal.BadFlags → IsSize spec.size × IsAlign spec.align × ¬ IsSupported spec.flags) → IsLayoutAnswer spec cpus r
answered spec cpus (Ok layout) solved accepted size align flags = (accepted refl, solved)
answered spec cpus (Err refusal.BadSize) solved accepted size align flags = size refl
answered spec cpus (Err refusal.BadAlign) solved accepted size align flags = align refl
answered spec cpus (Err refusal.BadFlags) solved accepted size align flags = flags refl

-- an item that was not done leaves the journal
pub not_done : (way : Way) (m : MachineState) (trace : Trace) (number : ℕ) (j : Journal) (e : Stopped) → IsStopped way m trace number e → DoesItem way m trace number j j (Err (item_stop e))
not_done way m trace number j (stopped.NoMemory machine) is = record { items = refl; total = refl; machine = record { frames = refl; cpus = refl; tid = refl } }
not_done way m trace number j stopped.TurnsSpent is = (record { items = refl; total = refl; machine = record { frames = refl; cpus = refl; tid = refl } }, is)

-- and tells nothing
pub not_told : (replies : Bool) (old : Option (List ℕ)) (trace : Trace) (j : Journal) (e : Stopped) → Tells {A = MachineState} replies old old trace j j (Err (item_stop e))
not_told replies old trace j (stopped.NoMemory machine) = λ start h. h
not_told replies old trace j stopped.TurnsSpent = λ start h. h

-- and no write failed
pub not_stopped : (faults : ℕ) (j : Journal) (e : Stopped) → j.total ≡ None → IsItemStop faults faults j (item_stop e)
not_stopped faults j (stopped.NoMemory machine) none = none
not_stopped faults j stopped.TurnsSpent none = none

pub not_faulted : (faults : ℕ) (e : Stopped) → StopsAtWriteFault {A = MachineState} faults faults (Err (item_stop e))
not_faulted faults (stopped.NoMemory machine) = refl
not_faulted faults stopped.TurnsSpent = refl
