-- The fault line is given to the sink as a line.
use Rattle.std.proofs.Common.{◌≡◌, ℕ, ◌++◌, List, Option, Some, None, Result, Ok, Err, IfErr, refl, subst, sym, inl, inr}
use Rattle.std.specs.Prelude.{Bool, codes}
use Rattle.std.specs.Fmt.{decimal}
use Rattle.slub_object_layout.specs.declared.layout.Spec.{Spec}
use Rattle.slub_command.specs.declared.command.Command.{Command}
use Rattle.slub_command.specs.declared.command.Command.TheVariants.{Replay, Layout, Load}
use Rattle.slub_trace.specs.declared.trace.Trace.{Trace}
use Rattle.slub_trace_reader.specs.declared.reading.Why.{Why}
use Rattle.slub_trace_reader.specs.Faults.{bad_line, fault_line, why_text}
use Rattle.slub_law_replay.specs.declared.way.Way.{Way}
use Rattle.slub_law_replay.specs.declared.way.Way.TheVariants.{Schedule}
use Rattle.slub_slabinfo_text.specs.declared.journal.Journal.{Journal}
use Rattle.slub_slabinfo_text.proofs.Given.{AreLines, EndsLine}
use Rattle.slub_cli.specs.declared.status.Status.{Status}
use Rattle.slub_cli.specs.declared.stop.Stop.{Stop}
use Rattle.slub_cli.specs.declared.stop.Stop.TheVariants.{BadWords, BadLine, TooLong, ReadFault, WriteFault, NoMemory, TurnsSpent}
use Rattle.slub_cli.specs.Run.{Call, way_of}
use Rattle.slub_cli.specs.Inner.{HasLine, Loads, PrintsLayout, Refuses, Replays, Worked, Works, stop_line}

fault-ends : (why : List ℕ) → EndsLine (fault_line why)
fault-ends why = (codes "slub: " ++ why, refl)

-- the line of a stop is one, or there is none
pub stop-lines : (stop : Stop) → HasLine stop → AreLines (stop_line stop)
stop-lines BadWords has = inr (fault-ends (codes "bad command"))
stop-lines (BadLine line) (number, why, is) = subst AreLines (sym is) (inr (fault-ends (codes "line " ++ decimal number ++ codes ": " ++ why_text why)))
stop-lines TooLong has = inr (fault-ends (codes "input too long"))
stop-lines ReadFault has = inr (fault-ends (codes "read fault"))
stop-lines WriteFault has = inl refl
stop-lines NoMemory has = inr (fault-ends (codes "out of memory"))
stop-lines TurnsSpent has = inr (fault-ends (codes "turns spent"))

-- ---- the work stops with such a line

replays-line : (c : Call) (way : Way) (trace : Option Trace) (journal : Journal) (stop : Stop) → Replays c way trace journal (Err stop) → HasLine stop
replays-line c way trace journal (BadLine line) bad = (bad.1, bad.2, bad.3)
replays-line c way trace journal _ bad = tt

loads-line : (write : ℕ × ℕ) (way : Way) (trace : Option Trace) (journal : Journal) (stop : Stop) → Loads write way trace journal (Err stop) → HasLine stop
loads-line write way trace journal (BadLine line) bad = absurd bad
loads-line write way trace journal _ bad = tt

prints-line : (old new : Option (List ℕ)) (write : ℕ × ℕ) (spec : Spec) (cpus : ℕ) (stop : Stop) → PrintsLayout old new write spec cpus (Err stop) → HasLine stop
prints-line old new write spec cpus (BadLine line) bad = absurd bad
prints-line old new write spec cpus _ bad = tt

refuses-line : (c : Call) (trace : Option Trace) (journal : Journal) (stop : Stop) → Refuses c trace journal (Err stop) → HasLine stop
refuses-line c trace journal (BadLine line) bad = absurd bad
refuses-line c trace journal _ bad = tt

works-line : (c : Call) (asked : Option Command) (trace : Option Trace) (journal : Journal) (stop : Stop) → Works c asked trace journal (Err stop) → HasLine stop
works-line c None trace journal stop works = refuses-line c trace journal stop works.0
works-line c (Some (Replay how seed replies)) trace journal stop works = replays-line c (way_of how seed) trace journal stop works.0
works-line c (Some (Layout spec cpus)) trace journal stop works = prints-line c.old c.new c.write spec cpus stop works.0
works-line c (Some (Load seed events workers)) trace journal stop works = loads-line c.write (Schedule seed) trace journal stop works.0

pub worked-line : (c : Call) (trace : Option Trace) (journal : Journal) (r : Result Status Stop) → Worked c trace journal r → IfErr r HasLine
worked-line c trace journal (Ok status) worked = tt
worked-line c trace journal (Err stop) worked = works-line c worked.asked trace journal stop worked.works
