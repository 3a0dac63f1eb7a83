-- What a run promises: the table of statuses, and the text.
use Rattle.std.specs.Prelude.{◌≡◌, ◌⊎◌, ℕ, List, Option, IfSome, Result, Ok, Err, codes}
use Rattle.std.specs.Io.KnownBytes.{Appends, IsAtEnd}
use Rattle.slub_edges.specs.Edges.{Rose, AppendsFront}
use Rattle.slub_recording.specs.declared.fault.RecordingFault.{RecordingFault}
use Rattle.slub_recording.specs.declared.fault.RecordingFault.TheVariants as read
use Rattle.slub_recording.specs.declared.recording.Recording.{Recording}
use Rattle.slub_recording.specs.Reads.{IsTooLong, Spells}
use Rattle.slub_recording.specs.Recording.{recorded}
use Rattle.slub_recording.specs.Texts.{fault_text}
use Rattle.slub_recorded.specs.declared.convert.Converted.{Converted}
use Rattle.slub_recorded.specs.declared.convert.ConvertFault.{ConvertFault}
use Rattle.slub_recorded.specs.declared.convert.ConvertFault.TheVariants as fault
use Rattle.slub_recorded.specs.declared.convert.Options.{Options}
use Rattle.slub_recorded.specs.declared.status.Status.{Status}
use Rattle.slub_recorded.specs.declared.status.Status.TheVariants.{Fine, BadWords, BadInput, ReadFault, WriteFault, NoMemory}
use Rattle.slub_recorded.specs.declared.stop.Stop.{Stop}
use Rattle.slub_recorded.specs.declared.told.Note.{Note}
use Rattle.slub_recorded.specs.declared.tunes.Tune.{Tune}
use Rattle.slub_recorded.specs.Converted.{IsConverted, IsFault}
use Rattle.slub_recorded.specs.Stop.{convert_text, stop_line, stop_status}
use Rattle.slub_trace_reader.specs.Faults.{fault_line}
use Rattle.slub_recorded.specs.Words.{AreBadWords, IsRequest, tunes_asked}

-- what a call of `run` had, and what it left of its source
pub record Call : Type 0 where
  pub words : List (List ℕ)
  -- the bytes that the source tells, before and after
  pub told : Option (List ℕ)
  pub left : Option (List ℕ)
  -- the source's count of faults, before and after
  pub old : ℕ
  pub new : ℕ

-- ---- the statuses, each with its cause and what is written

-- the source was read to its end, and its bytes spell this recording and no other
pub record IsRead (c : Call) (recording : Recording) : Type 0 where
  pub at_end : IsAtEnd c.left
  pub spelled : Spells c.told (Ok (recorded recording))

-- the bytes spell a recording, and this is the text of a trace that it was turned into
pub record IsTrace (c : Call) (text : List ℕ) : Type 0 where
  pub options : Options
  pub asked : IsRequest c.words options
  pub recording : Recording
  pub read : IsRead c recording
  pub notes : List Note
  pub converted : IsConverted recording options (tunes_asked c.words) notes text

-- the words ask for something
abbrev pub Asks : Call → Type 0
Asks c = (options : Options) × IsRequest c.words options

-- the bytes spell no recording, for this reason: they were read to their end, or are too many
abbrev pub IsUnread : Call → RecordingFault → Type 0
IsUnread c read.ReadFault = ⊥
IsUnread c read.NoMemory = ⊥
IsUnread c read.TooLong = IfSome c.told IsTooLong
IsUnread c why = Spells c.told (Err why) × IsAtEnd c.left

-- a reason for which a recording has no trace: any that has its cause, but want of memory
abbrev pub IsUnfit : Recording → Options → List Tune → ConvertFault → Type 0
IsUnfit recording options tunes fault.NoMemory = ⊥
IsUnfit recording options tunes why = IsFault recording options tunes why

-- the bytes spell a recording that has no trace as the words ask for it, for this reason
pub record IsUnfitFor (c : Call) (why : ConvertFault) : Type 0 where
  pub options : Options
  pub asked : IsRequest c.words options
  pub recording : Recording
  pub read : IsRead c recording
  pub unfit : IsUnfit recording options (tunes_asked c.words) why

-- the bytes spell no recording, or one that has no trace; and this is the line that says so
abbrev pub IsBadInputLine : Call → List ℕ → Type 0
IsBadInputLine c line =
    ((why : RecordingFault) × (line ≡ fault_line (fault_text why)) × IsUnread c why)
    ⊎ ((why : ConvertFault) × (line ≡ fault_line (convert_text why)) × IsUnfitFor c why)

-- the row of each status: why a run ends with it, and its text
abbrev pub IsTextOf : Call → Status → List ℕ → Type 0
IsTextOf c Fine text = IsTrace c text
IsTextOf c BadWords line = AreBadWords c.words × (line ≡ fault_line (codes "bad command"))
IsTextOf c BadInput line = Asks c × IsBadInputLine c line
IsTextOf c ReadFault line = Asks c × (line ≡ fault_line (codes "read fault"))
IsTextOf c NoMemory line = Asks c × (line ≡ fault_line (codes "out of memory"))
IsTextOf c WriteFault line = ⊥

-- the source's count of faults rose at a read fault, and is else as it was
abbrev pub TellsReads : Call → Status → Type 0
TellsReads c ReadFault = Rose c.old c.new
TellsReads c _ = c.new ≡ c.old

-- a run that came to this status has this text
pub record Ends (c : Call) (status : Status) (text : List ℕ) : Type 0 where
  pub text_is : IsTextOf c status text
  pub reads : TellsReads c status

-- ---- the promise

-- what the sink told before and tells after, and its counts of faults: the text of the status was
-- taken, and no write failed
pub record Wrote (c : Call) (old new : Option (List ℕ)) (write : ℕ × ℕ) (status : Status)
    : Type 0 where
  pub text : List ℕ
  pub ends : Ends c status text
  pub taken : Appends old new text
  pub still : write.1 ≡ write.0

-- a write failed: a front of the text was taken with which the run was to end, and not the whole
pub record WroteFront (c : Call) (old new : Option (List ℕ)) (write : ℕ × ℕ) (status : Status)
    : Type 0 where
  pub status_is : status ≡ WriteFault
  pub meant : Status
  pub text : List ℕ
  pub ends : Ends c meant text
  pub taken : AppendsFront old new 0 text
  pub failed : Rose write.0 write.1

-- what `run` promises of each call and its status
abbrev pub IsRunOf : Call → Option (List ℕ) → Option (List ℕ) → ℕ × ℕ → Status → Type 0
IsRunOf c old new write status =
    Wrote c old new write status ⊎ WroteFront c old new write status

-- ---- its parts

-- the status and the text of a run before a byte of it is written
abbrev pub end_status : Result Converted Stop → Status
end_status (Ok converted) = Fine
end_status (Err stop) = stop_status stop

abbrev pub end_text : Result Converted Stop → List ℕ
end_text (Ok converted) = converted.text.items
end_text (Err stop) = stop_line stop

-- the text was written and no write failed, or a front of it that isn't the whole
abbrev pub WritesOut : Option (List ℕ) → Option (List ℕ) → ℕ × ℕ → Status → List ℕ → Status
    → Type 0
WritesOut old new write meant text status =
    ((status ≡ meant) × Appends old new text × (write.1 ≡ write.0))
    ⊎ ((status ≡ WriteFault) × Rose write.0 write.1 × AppendsFront old new 0 text)
