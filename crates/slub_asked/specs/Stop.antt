-- Why a run stops early.
use Rattle.std.specs.Prelude.{◌≡◌, ◌⊎◌, ℕ, List, [], ◌∷◌, ◌++◌, codes}
use Rattle.std.specs.Fmt.{decimal}
use Rattle.std.specs.declared.alloc.Global.{Global}
use Rattle.std.specs.declared.vec.Vec.{Vec}
use Rattle.slub_picks.specs.declared.faults.Bad.{Bad}
use Rattle.slub_picks.specs.declared.status.Status.{Status}
use Rattle.slub_picks.specs.declared.status.Status.TheVariants as ends
use Rattle.slub_picks.specs.Faults as picks
use Rattle.slub_trace_reader.specs.declared.reading.TraceFault.{TraceFault}
use Rattle.slub_trace_reader.specs.declared.reading.TraceFault.TheVariants as fault
use Rattle.slub_trace_reader.specs.declared.reading.Why.{Why}
use Rattle.slub_trace_reader.specs.Faults.{why_text, fault_line, bad_line}
use Rattle.slub_asked.specs.declared.stop.Stop.{Stop}
use Rattle.slub_asked.specs.declared.stop.Stop.TheVariants.{BadWords, BadLine, TooLong, ReadFault, WriteFault, NoMemory, TurnsSpent, BadPicks}

-- a fault of the reader stops the run under the like name, with the line made that tells a bad one;
-- that may find no memory
abbrev pub IsStopOf : TraceFault → Stop → Type 0
IsStopOf fault.ReadFault stop = stop ≡ ReadFault
IsStopOf fault.TooLong stop = stop ≡ TooLong
IsStopOf (fault.BadLine line why) stop =
    (stop ≡ NoMemory)
    ⊎ ((text : Vec ℕ Global) × (stop ≡ BadLine text) × (text.items ≡ bad_line line why))
IsStopOf fault.NoMemory stop = stop ≡ NoMemory

-- picks that don't fit stop the run with the line that tells of it, or there was no memory for it
abbrev pub IsBadStopOf : Bad → Stop → Type 0
IsBadStopOf bad stop =
    (stop ≡ NoMemory)
    ⊎ ((text : Vec ℕ Global) × (stop ≡ BadPicks text) × (text.items ≡ picks.bad_line bad))

-- the line of a stop; none of a failed write
abbrev pub stop_line : Stop → List ℕ
stop_line BadWords = fault_line (codes "bad command")
stop_line (BadLine line) = line.items
stop_line TooLong = fault_line (codes "input too long")
stop_line ReadFault = fault_line (codes "read fault")
stop_line WriteFault = []
stop_line NoMemory = fault_line (codes "out of memory")
stop_line TurnsSpent = fault_line (codes "turns spent")
stop_line (BadPicks line) = line.items

-- the status of a stop
abbrev pub stop_status : Stop → Status
stop_status BadWords = ends.BadWords
stop_status (BadLine line) = ends.BadTrace
stop_status TooLong = ends.BadTrace
stop_status ReadFault = ends.ReadFault
stop_status WriteFault = ends.WriteFault
stop_status NoMemory = ends.NoMemory
stop_status TurnsSpent = ends.TurnsSpent
stop_status (BadPicks line) = ends.BadPicks
