-- The end of a run.
use Rattle.std.proofs.Common.{◌≢◌, ℕ, ◌+◌, Option, Result, Ok, Err, List, ◌++◌, length, refl, arith}
use Rattle.std.specs.Io.KnownBytes.{Appends}
use Rattle.std.specs.Prelude.{OnErr}
use Rattle.slub_edges.specs.declared.edges.Failed.{Failed}
use Rattle.slub_edges.specs.Edges.{AppendsFront}
use Rattle.slub_edges.proofs.Told.{AppendsFront-after, AppendsFront-past}
use Rattle.slub_picks.specs.declared.status.Status.{Status}
use Rattle.slub_asked.specs.declared.stop.Stop.{Stop}
use Rattle.slub_asked.specs.declared.stop.Stop.TheVariants.{BadWords, BadLine, TooLong, ReadFault, WriteFault, NoMemory, TurnsSpent, BadPicks}
use Rattle.slub_asked.specs.Ending.{Ends, Writes}
use Rattle.slub_asked.specs.Stop.{stop_line, stop_status}

-- the first text was taken whole, and the second one not
pub front_both : (a b c : Option (List ℕ)) (xs ys : List ℕ) (r : Result (Unit {0}) Failed) → Appends a b xs → OnErr r (AppendsFront b c 0 ys) → OnErr r (AppendsFront a c 0 (xs ++ ys))
front_both a b c xs ys (Ok x) first second = tt
front_both a b c xs ys (Err e) first second = AppendsFront-past a c 0 (length xs + 0) (xs ++ ys) (omega arith) (AppendsFront-after a b c 0 xs ys first second)

-- a stop that isn't a failed write
pub ends_stopped : (old new : Option (List ℕ)) (write : ℕ × ℕ) (back : List ℕ) (stop : Stop) (status : Status) → stop ≢ WriteFault → Writes old new write (stop_line stop ++ back) (stop_status stop) status → Ends old new write back (Err stop) status
ends_stopped old new write back BadWords status other writes = writes
ends_stopped old new write back (BadLine line) status other writes = writes
ends_stopped old new write back TooLong status other writes = writes
ends_stopped old new write back ReadFault status other writes = writes
ends_stopped old new write back WriteFault status other writes = absurd (other refl)
ends_stopped old new write back NoMemory status other writes = writes
ends_stopped old new write back TurnsSpent status other writes = writes
ends_stopped old new write back (BadPicks line) status other writes = writes
