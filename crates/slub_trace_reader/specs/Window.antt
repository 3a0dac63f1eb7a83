-- For private clauses: the lines in front of the bytes of a window.
use Rattle.std.specs.Prelude.{◌≡◌, ℕ, ◌≤◌, List, [], ◌∷◌, ◌++◌, length, Option}
use Rattle.std.specs.Io.KnownBytes.{Consumes, IsAtEnd}
use Rattle.slub_edges.specs.declared.reading.ReadAllFault.{ReadAllFault}
use Rattle.slub_edges.specs.declared.reading.ReadAllFault.TheVariants as end
use Rattle.slub_edges.specs.Edges.{Rose}
use Rattle.slub_edges.specs.Window.{IsOver}
use Rattle.slub_trace_reader.specs.declared.line.Line.{Line}
use Rattle.slub_trace_reader.specs.declared.reading.TraceFault.{TraceFault}
use Rattle.slub_trace_reader.specs.declared.reading.TraceFault.TheVariants.{ReadFault, TooLong, BadLine, NoMemory}
use Rattle.slub_trace_reader.specs.declared.reading.Why.{Why}
use Rattle.slub_trace_reader.specs.Above.{Above, start, after_all}
use Rattle.slub_trace_reader.specs.Faults.{Next, Cut, Nothing, IsFirstBad}
use Rattle.slub_trace_reader.specs.Grammar.{AreLines}
use Rattle.slub_trace_reader.specs.Parsing.{StopsFront, Tells}

-- why a source gave no more
abbrev pub fault_of : ReadAllFault → TraceFault
fault_of end.Failed = ReadFault
fault_of end.TooLong = TooLong
fault_of end.NoMemory = NoMemory

-- ---- lines

-- lines stand in front of the bytes, this follows them, and they lead from what the lines above
-- say to this
pub record Leads (a : Above) (bytes rest : List ℕ) (b : Above) : Type 0 where
  pub lines : List Line
  pub front : List ℕ
  pub whole : bytes ≡ front ++ rest
  pub are : AreLines a front lines
  pub says : b ≡ after_all a lines

-- good lines stand in front of the bytes, and a fault names the line behind them, or is want of
-- memory
pub record StopsBehind (a : Above) (bytes : List ℕ) (fault : TraceFault) : Type 0 where
  pub below : Above
  pub rest : List ℕ
  pub good : Leads a bytes rest below
  pub stops : StopsFront below rest fault

-- what the bytes behind the last line feed are
abbrev pub next_of : List ℕ → Next
next_of [] = Nothing
next_of (b ∷ bs) = Cut (b ∷ bs)

-- all bytes that the source gave are counted, and are lines that say this, and these behind them
pub record Stands (told left : Option (List ℕ)) (rest : List ℕ) (count : ℕ) (a : Above) : Type 0
  where
    pub all : List ℕ
    pub read : Consumes told left all
    pub counted : count ≡ length all
    pub leads : Leads start all rest a

-- ---- the whole source

-- the source was read to its end, and its bytes are lines that say this, with `end`
pub record IsRead (told left : Option (List ℕ)) (a : Above) : Type 0 where
  pub all : List ℕ
  pub read : Consumes told left all
  pub at_end : IsAtEnd left
  pub short : length all ≤ 16777216
  pub tells : Tells all a

-- the source was read to its end, and this is the first bad line of its bytes
pub record IsReadBad (told left : Option (List ℕ)) (line : ℕ) (why : Why) : Type 0 where
  pub all : List ℕ
  pub read : Consumes told left all
  pub at_end : IsAtEnd left
  pub short : length all ≤ 16777216
  pub bad : IsFirstBad all line why

-- why no lines were read
abbrev pub StopsLines : Option (List ℕ) → Option (List ℕ) → ℕ → ℕ → TraceFault → Type 0
StopsLines told left old new (BadLine line why) = IsReadBad told left line why × (new ≡ old)
StopsLines told left old new NoMemory = new ≡ old
StopsLines told left old new TooLong = IsOver 16777216 told left 0 × (new ≡ old)
StopsLines told left old new ReadFault = Rose old new
