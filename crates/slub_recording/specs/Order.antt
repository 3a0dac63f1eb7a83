-- In which order events stand.
use Rattle.std.specs.Prelude.{ℕ, List, Option, Some, None, Result, Ok, Err, map}
use Rattle.std.specs.List.{filter_map}
use Rattle.slub_recording.specs.declared.event.KmemEvent.{KmemEvent}
use Rattle.slub_recording.specs.declared.fault.LineFault.{LineFault}
use Rattle.slub_recording.specs.declared.line.Said.{Said}
use Rattle.slub_recording.specs.declared.line.Said.TheVariants.{Passed, Cpus, Buffer, Lost, Other, Kmem}
use Rattle.slub_recording.specs.Says.{says}

-- the CPU and the pointer of a line that is an event of the four kinds
abbrev pub point_of : Result Said LineFault → Option (ℕ × ℕ)
point_of (Err why) = None
point_of (Ok Passed) = None
point_of (Ok (Cpus cpus)) = None
point_of (Ok (Buffer overwritten cpus)) = None
point_of (Ok (Lost count)) = None
point_of (Ok (Other time)) = None
point_of (Ok (Kmem cpu time pointer act)) = Some (cpu, pointer)

-- those of lines, in their order
abbrev pub points_of : List (List ℕ) → List (ℕ × ℕ)
points_of texts = filter_map (λ text. point_of (says text)) texts

-- those of events, in their order
abbrev pub points_in : List KmemEvent → List (ℕ × ℕ)
points_in events = map (λ (e : KmemEvent). (e.cpu, e.pointer)) events
