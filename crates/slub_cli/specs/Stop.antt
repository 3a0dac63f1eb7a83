-- Why a run stops: a trace that was not read, or an item that was not done.
use Rattle.std.specs.Prelude.{◌≡◌, ℕ, ◌⊎◌}
use Rattle.std.specs.declared.alloc.Global.{Global}
use Rattle.std.specs.declared.vec.Vec.{Vec}
use Rattle.slub_trace_reader.specs.declared.reading.TraceFault.{TraceFault}
use Rattle.slub_trace_reader.specs.declared.reading.TraceFault.TheVariants as fault
use Rattle.slub_items.specs.declared.machine.Stopped.{Stopped}
use Rattle.slub_items.specs.declared.machine.Stopped.TheVariants as stopped
use Rattle.slub_cli.specs.declared.stop.Stop.{Stop}
use Rattle.slub_cli.specs.declared.stop.Stop.TheVariants.{BadLine, TooLong, ReadFault, NoMemory, TurnsSpent}
use Rattle.slub_trace_reader.specs.Faults.{bad_line}

-- a fault of the reader stops the run under the like name, with the line made that tells a bad one;
-- that may find no memory
abbrev pub IsStopOf : TraceFault → Stop → Type 0
IsStopOf fault.ReadFault stop = stop ≡ ReadFault
IsStopOf fault.TooLong stop = stop ≡ TooLong
IsStopOf (fault.BadLine line why) stop =
    (stop ≡ NoMemory)
    ⊎ ((text : Vec ℕ Global) × (stop ≡ BadLine text) × (text.items ≡ bad_line line why))
IsStopOf fault.NoMemory stop = stop ≡ NoMemory

-- so does an item that was not done
abbrev pub item_stop : Stopped → Stop
item_stop (stopped.NoMemory machine) = NoMemory
item_stop stopped.TurnsSpent = TurnsSpent
