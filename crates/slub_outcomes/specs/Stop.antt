-- Why a run stops early.
use Rattle.std.specs.Prelude.{◌≡◌, ◌⊎◌, ℕ, List, [], ◌∷◌, ◌++◌, codes}
use Rattle.std.specs.Fmt.{decimal}
use Rattle.std.specs.declared.alloc.Global.{Global}
use Rattle.std.specs.declared.vec.Vec.{Vec}
use Rattle.slub_trace_reader.specs.declared.reading.TraceFault.{TraceFault}
use Rattle.slub_trace_reader.specs.declared.reading.TraceFault.TheVariants as fault
use Rattle.slub_trace_reader.specs.declared.reading.Why.{Why}
use Rattle.slub_trace_reader.specs.Faults.{why_text, fault_line, bad_line}
use Rattle.slub_outcomes.specs.declared.stop.Stop.{Stop}
use Rattle.slub_outcomes.specs.declared.stop.Stop.TheVariants.{BadWords, BadLine, TooLong, ReadFault, NoMemory}
use Rattle.slub_outcomes.specs.declared.status.Status.{Status}
use Rattle.slub_outcomes.specs.declared.status.Status.TheVariants as ends

-- a fault of the reader stops the run under the like name, with the line made that tells a bad one;
-- that may find no memory
abbrev pub IsStopOf : TraceFault → Stop → Type 0
IsStopOf fault.ReadFault stop = stop ≡ ReadFault
IsStopOf fault.TooLong stop = stop ≡ TooLong
IsStopOf (fault.BadLine line why) stop =
    (stop ≡ NoMemory)
    ⊎ ((text : Vec ℕ Global) × (stop ≡ BadLine text) × (text.items ≡ bad_line line why))
IsStopOf fault.NoMemory stop = stop ≡ NoMemory

-- the line of a stop
abbrev pub stop_line : Stop → List ℕ
stop_line BadWords = fault_line (codes "bad command")
stop_line (BadLine line) = line.items
stop_line TooLong = fault_line (codes "input too long")
stop_line ReadFault = fault_line (codes "read fault")
stop_line NoMemory = fault_line (codes "out of memory")

-- the status of a stop
abbrev pub stop_status : Stop → Status
stop_status BadWords = ends.BadWords
stop_status (BadLine line) = ends.BadTrace
stop_status TooLong = ends.BadTrace
stop_status ReadFault = ends.ReadFault
stop_status NoMemory = ends.NoMemory

-- the number with which the program ends
abbrev pub status_number : Status → ℕ
status_number ends.Fine = 0
status_number ends.BadWords = 2
status_number ends.BadTrace = 3
status_number ends.ReadFault = 4
status_number ends.WriteFault = 5
status_number ends.NoMemory = 6
status_number ends.TurnsSpent = 7
