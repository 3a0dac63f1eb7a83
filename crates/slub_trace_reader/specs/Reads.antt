-- What comes of reading a trace.
use Rattle.std.specs.Prelude.{◌≡◌, ℕ, ◌<◌, ◌≤◌, List, length, Option, IfSome, Result, Ok, Err}
use Rattle.std.specs.Io.KnownBytes.{IsAtEnd}
use Rattle.slub_edges.specs.Edges.{Rose}
use Rattle.slub_trace.specs.declared.trace.Trace.{Trace}
use Rattle.slub_trace_reader.specs.declared.reading.TraceFault.{TraceFault}
use Rattle.slub_trace_reader.specs.declared.reading.TraceFault.TheVariants.{ReadFault, TooLong, BadLine, NoMemory}
use Rattle.slub_trace_reader.specs.declared.reading.Why.{Why}
use Rattle.slub_trace_reader.specs.Faults.{IsFirstBad}
use Rattle.slub_trace_reader.specs.Grammar.{IsTrace}

-- bytes, those that the source tells where it tells them, spell this trace and no other
pub record Spells (told : Option (List ℕ)) (trace : Trace) : Type 0 where
  pub bytes : List ℕ
  pub all_told : IfSome told (λ all. all ≡ bytes)
  pub spells : IsTrace bytes trace
  pub only : (other : Trace) → IsTrace bytes other → other ≡ trace

-- the bytes are not too many, and no trace
abbrev pub IsNoTrace : List ℕ → Type 0
IsNoTrace bytes = (length bytes ≤ 16777216) × ((trace : Trace) → IsTrace bytes trace → ⊥)

-- the bytes are no trace, and this is the first bad line of them and why it is bad, and no other
pub record IsBadAt (bytes : List ℕ) (line : ℕ) (why : Why) : Type 0 where
  pub none : IsNoTrace bytes
  pub first : IsFirstBad bytes line why
  pub only : (number : ℕ) (other : Why) → IsFirstBad bytes number other → (number ≡ line)
      × (other ≡ why)

-- bytes, those that the source tells where it tells them, are no trace for this
pub record IsBadIn (told : Option (List ℕ)) (line : ℕ) (why : Why) : Type 0 where
  pub bytes : List ℕ
  pub all_told : IfSome told (λ all. all ≡ bytes)
  pub bad : IsBadAt bytes line why

-- the bytes are too many
abbrev pub IsTooLong : List ℕ → Type 0
IsTooLong bytes = 16777216 < length bytes

-- what is told and left are the bytes to come before and after, old and new the counts of faults;
-- no read failed but at ReadFault
abbrev pub Reads : Option (List ℕ) → Option (List ℕ) → ℕ → ℕ → Result Trace TraceFault → Type 0
Reads told left old new (Ok trace) = Spells told trace × IsAtEnd left × (new ≡ old)
Reads told left old new (Err (BadLine line why)) =
    IsBadIn told line why × IsAtEnd left × (new ≡ old)
Reads told left old new (Err TooLong) = IfSome told IsTooLong × (new ≡ old)
Reads told left old new (Err ReadFault) = Rose old new
Reads told left old new (Err NoMemory) = new ≡ old
