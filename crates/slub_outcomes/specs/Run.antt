-- What a run promises: the table of statuses, and the text.
use Rattle.std.specs.Prelude.{◌≡◌, ◌⊎◌, ℕ, Bool, List, if◌then◌else◌, Option, IfSome, Result, Ok, Err, codes}
use Rattle.std.specs.Io.KnownBytes.{Appends, IsAtEnd}
use Rattle.slub_edges.specs.Edges.{Rose, AppendsFront}
use Rattle.slub_trace.specs.Sound.{IsSound}
use Rattle.slub_trace.specs.declared.trace.Trace.{Trace}
use Rattle.slub_trace_reader.specs.declared.reading.Why.{Why}
use Rattle.slub_trace_reader.specs.Reads.{IsBadIn, IsTooLong, Spells}
use Rattle.slub_outcomes.specs.declared.count.Counted.{Counted}
use Rattle.slub_outcomes.specs.declared.run.Finished.{Finished}
use Rattle.slub_outcomes.specs.declared.span.Span.{Span}
use Rattle.slub_outcomes.specs.declared.status.Status.{Status}
use Rattle.slub_outcomes.specs.declared.status.Status.TheVariants.{Fine, BadWords, BadTrace, ReadFault, WriteFault, NoMemory, TurnsSpent}
use Rattle.slub_outcomes.specs.declared.stop.Stop.{Stop}
use Rattle.slub_outcomes.specs.declared.words.Request.{Request}
use Rattle.slub_outcomes.specs.Replays.{AreCounted}
use Rattle.slub_outcomes.specs.Span.{IsSpan}
use Rattle.slub_outcomes.specs.Stop.{stop_line, stop_status}
use Rattle.slub_trace_reader.specs.Faults.{fault_line, bad_line}
use Rattle.slub_outcomes.specs.Table.{table_text}
use Rattle.slub_outcomes.specs.Words.{AreBadWords, IsRequest}

-- what a call of `run` had, and what it left of its source
pub record Call : Type 0 where
  pub words : List (List ℕ)
  -- the bytes that the source tells, before and after
  pub told : Option (List ℕ)
  pub left : Option (List ℕ)
  -- the source's count of faults, before and after
  pub read : ℕ × ℕ

-- ---- the statuses, each with its cause and what is written

-- the source was read to its end, and its bytes spell this sound trace and no other
pub record IsRead (c : Call) (trace : Trace) : Type 0 where
  pub at_end : IsAtEnd c.left
  pub spelled : Spells c.told trace
  pub sound : IsSound trace

-- some seed spent the turns of a round, or none did
abbrev pub done_status : Bool → Status
done_status is_spent = if is_spent then TurnsSpent else Fine

-- the trace was replayed with each seed that was asked for, and this is the table
pub record IsTable (c : Call) (status : Status) (text : List ℕ) : Type 0 where
  pub request : Request
  pub asked : IsRequest c.words request
  pub trace : Trace
  pub read : IsRead c trace
  pub span : Span
  pub is_span : IsSpan request.round trace.items span
  pub counted : Counted
  pub counts : AreCounted trace span request.from request.seeds counted
  pub status_is : status ≡ done_status counted.is_spent
  pub text_is : text ≡ table_text counted.outcomes.items request

-- the words ask for something
abbrev pub Asks : Call → Type 0
Asks c = (request : Request) × IsRequest c.words request

-- the bytes were read to their end and are no trace, or there are too many; and this is the line
-- that says so
abbrev pub IsBadInputLine : Call → List ℕ → Type 0
IsBadInputLine c line =
    ((number : ℕ) × (why : Why) × (line ≡ bad_line number why)
    × IsAtEnd c.left × IsBadIn c.told number why)
    ⊎ ((line ≡ fault_line (codes "input too long")) × IfSome c.told IsTooLong)

-- the row of each status: why a run ends with it, and its text
abbrev pub IsTextOf : Call → Status → List ℕ → Type 0
IsTextOf c Fine text = IsTable c Fine text
IsTextOf c TurnsSpent text = IsTable c TurnsSpent text
IsTextOf c BadWords line = AreBadWords c.words × (line ≡ fault_line (codes "bad command"))
IsTextOf c BadTrace line = Asks c × IsBadInputLine c line
IsTextOf c ReadFault line = Asks c × (line ≡ fault_line (codes "read fault"))
IsTextOf c NoMemory line = Asks c × (line ≡ fault_line (codes "out of memory"))
IsTextOf c WriteFault line = ⊥

-- the source's count of faults rose at a read fault, and is else as it was
abbrev pub TellsReads : Call → Status → Type 0
TellsReads c ReadFault = Rose c.read.0 c.read.1
TellsReads c _ = c.read.1 ≡ c.read.0

-- a run that came to this status has this text
pub record Ends (c : Call) (status : Status) (text : List ℕ) : Type 0 where
  pub text_is : IsTextOf c status text
  pub reads : TellsReads c status

-- ---- the promise

-- what the sink told before and tells after, and its counts of faults: the text of the status was
-- taken, and no write failed
pub record Wrote (c : Call) (old new : Option (List ℕ)) (write : ℕ × ℕ) (status : Status)
    : Type 0 where
  pub text : List ℕ
  pub ends : Ends c status text
  pub taken : Appends old new text
  pub still : write.1 ≡ write.0

-- a write failed: a front of the text was taken with which the run was to end, and not the whole
pub record WroteFront (c : Call) (old new : Option (List ℕ)) (write : ℕ × ℕ) (status : Status)
    : Type 0 where
  pub status_is : status ≡ WriteFault
  pub meant : Status
  pub text : List ℕ
  pub ends : Ends c meant text
  pub taken : AppendsFront old new 0 text
  pub failed : Rose write.0 write.1

-- what `run` promises of each call and its status
abbrev pub IsRunOf : Call → Option (List ℕ) → Option (List ℕ) → ℕ × ℕ → Status → Type 0
IsRunOf c old new write status =
    Wrote c old new write status ⊎ WroteFront c old new write status

-- ---- its parts

-- the status and the text of a run before a byte of it is written
abbrev pub end_status : Result Finished Stop → Status
end_status (Ok finished) = finished.status
end_status (Err stop) = stop_status stop

abbrev pub end_text : Result Finished Stop → List ℕ
end_text (Ok finished) = finished.text.items
end_text (Err stop) = stop_line stop

-- the text was written and no write failed, or a front of it that isn't the whole
abbrev pub WritesOut : Option (List ℕ) → Option (List ℕ) → ℕ × ℕ → Status → List ℕ → Status
    → Type 0
WritesOut old new write meant text status =
    ((status ≡ meant) × Appends old new text × (write.1 ≡ write.0))
    ⊎ ((status ≡ WriteFault) × Rose write.0 write.1 × AppendsFront old new 0 text)
