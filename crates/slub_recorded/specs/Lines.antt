-- The lines of the trace of a recording.
use Rattle.std.specs.Prelude.{◌≡◌, ℕ, ◌≤◌, Bool, true, false, List, [], ◌∷◌, ◌++◌, map, flat_map, replicate, None, codes, if◌then◌else◌}
use Rattle.slub_object_layout.specs.Name.{IsName}
use Rattle.slub_recorded.specs.declared.rounds.Step.{Step}
use Rattle.slub_recorded.specs.declared.rounds.Step.TheVariants as step
use Rattle.slub_recorded.specs.declared.text.Row.{Row}
use Rattle.slub_recorded.specs.declared.tunes.Tune.{Tune}
use Rattle.slub_recorded.specs.declared.turns.Turn.{Turn}
use Rattle.slub_recorded.specs.declared.turns.Turn.TheVariants as turn
use Rattle.slub_recorded.specs.Text.{name_at}
use Rattle.slub_recorded.specs.Tunes.{tunes_lines, version_of}
use Rattle.slub_trace.specs.declared.trace.Trace.{Trace}
use Rattle.slub_trace_reader.specs.declared.line.Line.{Line}
use Rattle.slub_trace_reader.specs.declared.line.Line.TheVariants.{Passed, Slubtrace, Machine, Cache, Slabinfo, Round, Alloc, Free, Done, End}
use Rattle.slub_trace_reader.specs.Grammar.{IsTrace}
use Rattle.slub_trace_reader.specs.Words.{flags_in}

-- a cache of this name whose objects have the size of its slot, aligned to a word
abbrev pub row_line : Row → Line
row_line row =
    Cache row.name row.slot 8 (flags_in (if row.reclaim then codes "R" else codes "-"))

-- an allocation or a free by a worker
abbrev pub turn_line : List Row → ℕ → Turn → Line
turn_line rows worker (turn.Alloc cpu cache object) = Alloc worker cpu (name_at rows cache) object
turn_line rows worker (turn.Free cpu object) = Free worker cpu object

-- a round ends, and another begins
abbrev pub cut_lines : ℕ → Bool → List Line
cut_lines workers true = Done ∷ Slabinfo ∷ Round workers ∷ []
cut_lines workers false = Done ∷ Round workers ∷ []

abbrev pub step_lines : List Row → ℕ → Step → List Line
step_lines rows workers (step.Does worker turn) = turn_line rows worker turn ∷ []
step_lines rows workers (step.Cut slabinfo) = cut_lines workers slabinfo

-- rounds of so many workers, between what stands above and below them
abbrev pub round_lines : List Row → ℕ → List Step → List Line → List Line
round_lines rows workers steps below =
    Round workers ∷ (flat_map (step_lines rows workers) steps ++ (Done ∷ below))

-- the lines below the comments
unfoldable pub body_lines : ℕ → List Row → List Tune → ℕ → List Step → List Line
body_lines cpus rows tunes workers steps =
    Machine 4096 cpus None
    ∷ (map row_line rows ++ (flat_map (tunes_lines tunes) rows
    ++ round_lines rows workers steps (Slabinfo ∷ End ∷ [])))

-- all lines, so many comments among them
abbrev pub trace_lines : ℕ → ℕ → List Row → List Tune → ℕ → List Step → List Line
trace_lines comments cpus rows tunes workers steps =
    Slubtrace (version_of tunes)
    ∷ (replicate comments Passed ++ body_lines cpus rows tunes workers steps)

-- the bytes spell a trace of these lines
pub record IsTraceOf (bytes : List ℕ) (lines : List Line) : Type 0 where
  pub trace : Trace
  pub is : IsTrace bytes trace
  pub has : is.lines ≡ lines

-- a name and a number of 32 bits
abbrev pub IsRow : Row → Type 0
IsRow row = IsName row.name × (row.slot ≤ 4294967295)
