-- Why a run stops early.
use Rattle.std.specs.Prelude.{◌≡◌, ◌⊎◌, ℕ, List, ◌++◌, codes}
use Rattle.std.specs.Fmt.{decimal}
use Rattle.std.specs.declared.alloc.Global.{Global}
use Rattle.std.specs.declared.vec.Vec.{Vec}
use Rattle.slub_recording.specs.declared.fault.RecordingFault.{RecordingFault}
use Rattle.slub_recording.specs.declared.fault.RecordingFault.TheVariants as read
use Rattle.slub_recording.specs.declared.recording.Recording.{Recording}
use Rattle.slub_recording.specs.Texts.{fault_text}
use Rattle.slub_recorded.specs.declared.convert.ConvertFault.{ConvertFault}
use Rattle.slub_recorded.specs.declared.convert.ConvertFault.TheVariants as fault
use Rattle.slub_recorded.specs.declared.convert.Options.{Options}
use Rattle.slub_recorded.specs.declared.stop.Stop.{Stop}
use Rattle.slub_recorded.specs.declared.stop.Stop.TheVariants.{BadWords, BadInput, ReadFault, NoMemory}
use Rattle.slub_recorded.specs.declared.status.Status.{Status}
use Rattle.slub_recorded.specs.declared.status.Status.TheVariants as ends
use Rattle.slub_recorded.specs.declared.tunes.Tune.{Tune}
use Rattle.slub_recorded.specs.Converted.{IsFault}
use Rattle.slub_trace_reader.specs.Faults.{fault_line}

-- why there is no trace, in words
abbrev pub convert_text : ConvertFault → List ℕ
convert_text fault.NoMemory = codes "out of memory"
convert_text (fault.TooManyCpus cpus) =
    decimal cpus ++ codes " CPUs: at most 16; --cpus N puts CPU c to c modulo N"
convert_text (fault.NoSuchGroup group groups) =
    codes "no group " ++ decimal group ++ codes ": there are " ++ decimal groups
convert_text (fault.TooManyObjects objects) = decimal objects ++ codes " objects: at most 1048576"
convert_text (fault.TooLong bytes) = decimal bytes ++ codes " bytes of trace: at most 16777216"

-- the run stops with this line, which may find no memory
abbrev pub StopsWith : List ℕ → Stop → Type 0
StopsWith line stop =
    (stop ≡ NoMemory) ⊎ ((text : Vec ℕ Global) × (stop ≡ BadInput text) × (text.items ≡ line))

-- a fault of the reader stops the run: under the like name, or with its line
abbrev pub IsReadStop : RecordingFault → Stop → Type 0
IsReadStop read.ReadFault stop = stop ≡ ReadFault
IsReadStop read.NoMemory stop = stop ≡ NoMemory
IsReadStop why stop = StopsWith (fault_line (fault_text why)) stop

-- a fault of the conversion stops the run: under the like name, or with its line
abbrev pub IsConvertStop : ConvertFault → Stop → Type 0
IsConvertStop fault.NoMemory stop = stop ≡ NoMemory
IsConvertStop why stop = StopsWith (fault_line (convert_text why)) stop

-- a fault that has its cause stops the run
abbrev pub StopsFor : Recording → Options → List Tune → Stop → Type 0
StopsFor recording options tunes stop =
    (why : ConvertFault) × IsFault recording options tunes why × IsConvertStop why stop

-- the line of a stop
abbrev pub stop_line : Stop → List ℕ
stop_line BadWords = fault_line (codes "bad command")
stop_line (BadInput line) = line.items
stop_line ReadFault = fault_line (codes "read fault")
stop_line NoMemory = fault_line (codes "out of memory")

-- the status of a stop
abbrev pub stop_status : Stop → Status
stop_status BadWords = ends.BadWords
stop_status (BadInput line) = ends.BadInput
stop_status ReadFault = ends.ReadFault
stop_status NoMemory = ends.NoMemory

-- the number with which the program ends
abbrev pub number_of : Status → ℕ
number_of ends.Fine = 0
number_of ends.BadWords = 2
number_of ends.BadInput = 3
number_of ends.ReadFault = 4
number_of ends.WriteFault = 5
number_of ends.NoMemory = 6
