-- For private clauses: what the state of a reading says, and what comes of a part of it.
use Rattle.std.specs.Prelude.{◌≡◌, ⊤, ℕ, ◌+◌, ◌≤◌, List, length, Result, Ok, Err}
use Rattle.slub_recording.specs.declared.fault.RecordingFault.{RecordingFault}
use Rattle.slub_recording.specs.declared.fault.RecordingFault.TheVariants.{ReadFault, TooLong, TraceDat, PerfData, BadLine, NoKmemEvent, NoMemory}
use Rattle.slub_recording.specs.declared.line.Said.{Said}
use Rattle.slub_recording.specs.declared.recording.Recording.{Recording}
use Rattle.slub_recording.specs.declared.state.State.{State}
use Rattle.slub_recording.specs.Recording.{Above, Recorded, recorded, after, read_from}
use Rattle.slub_common.specs.Lines.{cut_lines}
use Rattle.slub_recording.specs.Says.{says}

-- what the lines above say
abbrev pub above : State → Above
above s = record { lines = s.lines; time = s.time; recorded = recorded s.recording }

-- nothing is counted oftener than lines are, and there are few of them
pub record IsModest (a : Above) : Type 0 where
  pub few : a.lines ≤ 268435456
  pub events : length a.recorded.events ≤ a.lines
  pub sites : length a.recorded.sites ≤ a.lines
  pub names : length a.recorded.names ≤ a.lines
  pub back : a.recorded.back ≤ a.lines
  pub others : a.recorded.others ≤ a.lines

-- what is read of bytes below lines that say this
abbrev pub read_below : Above → List ℕ → Result Recorded RecordingFault
read_below a bytes = read_from a (cut_lines bytes).0 (cut_lines bytes).1

-- a fault is what is read, or want of memory
abbrev pub IsFault : Result Recorded RecordingFault → RecordingFault → Type 0
IsFault read ReadFault = ⊥
IsFault read TooLong = ⊥
IsFault read TraceDat = read ≡ Err TraceDat
IsFault read PerfData = read ≡ Err PerfData
IsFault read (BadLine line why) = read ≡ Err (BadLine line why)
IsFault read NoKmemEvent = read ≡ Err NoKmemEvent
IsFault read NoMemory = ⊤

-- an answer is what is read, or want of memory
abbrev pub IsAnswer : Result Recorded RecordingFault → Result Recording RecordingFault → Type 0
IsAnswer read (Ok recording) = read ≡ Ok (recorded recording)
IsAnswer read (Err fault) = IsFault read fault

-- a line of this text leads from what the lines above say to this
abbrev pub Takes : Above → List ℕ → Above → Type 0
Takes a text b = (s : Said) × (says text ≡ Ok s) × (b ≡ after a s)

-- a line of this text is bad below these, and a fault names it, or is want of memory
abbrev pub Stops : Above → List ℕ → RecordingFault → Type 0
Stops a text ReadFault = ⊥
Stops a text TooLong = ⊥
Stops a text TraceDat = ⊥
Stops a text PerfData = ⊥
Stops a text (BadLine line why) = (says text ≡ Err why) × (line ≡ a.lines + 1)
Stops a text NoKmemEvent = ⊥
Stops a text NoMemory = ⊤
