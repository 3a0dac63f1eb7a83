-- For proofs and private clauses: what comes of parsing.
use Rattle.std.specs.Prelude.{◌≡◌, ℕ, ◌+◌, List, ◌∷◌, ◌++◌, ⊤}
use Rattle.slub_object_layout.specs.Name.{IsName}
use Rattle.slub_trace_reader.specs.declared.line.Line.{Line}
use Rattle.slub_trace_reader.specs.declared.line.Line.TheVariants.{Alloc, Free, Write, Read}
use Rattle.slub_trace_reader.specs.declared.place.Place.TheVariants.{After}
use Rattle.slub_trace_reader.specs.declared.reading.TraceFault.{TraceFault}
use Rattle.slub_trace_reader.specs.declared.reading.TraceFault.TheVariants.{ReadFault, TooLong, BadLine, NoMemory}
use Rattle.slub_trace_reader.specs.Above.{Above, start, after, after_all, place_of}
use Rattle.slub_trace_reader.specs.Faults.{Next, Finished, IsFirstReason}
use Rattle.slub_trace_reader.specs.Grammar.{IsLine, IsNamed, IsOneLine, AreLines}
use Rattle.slub_trace_reader.specs.Lines.{Says}

-- a fault names the next line, or is want of memory
abbrev pub StopsAt : Above → Next → TraceFault → Type 0
StopsAt a next (BadLine line why) = (line ≡ a.count + 1) × IsFirstReason a next why
StopsAt a next NoMemory = ⊤
StopsAt a next TooLong = ⊥
StopsAt a next ReadFault = ⊥

-- a line of this text leads from what the lines above say to this
abbrev pub Takes : Above → List ℕ → Above → Type 0
Takes a text b = (line : Line) × IsLine a text line × (b ≡ after a line)

-- a line stands in front of the bytes, this follows its line feed, and the line leads to this
abbrev pub TakesFront : Above → List ℕ → List ℕ → Above → Type 0
TakesFront a bytes rest b =
    (text : List ℕ) × (bytes ≡ text ++ 10 ∷ rest) × IsOneLine text × Takes a text b

-- a line stands in front of the bytes, and a fault names it, or is want of memory
abbrev pub StopsFront : Above → List ℕ → TraceFault → Type 0
StopsFront a bytes (BadLine line why) =
    (text rest : List ℕ) × (bytes ≡ text ++ 10 ∷ rest) × IsOneLine text
    × StopsAt a (Finished text) (BadLine line why)
StopsFront a bytes NoMemory = ⊤
StopsFront a bytes TooLong = ⊥
StopsFront a bytes ReadFault = ⊥

-- ---- lines that are told and taken in one go

-- the word is a name, and stands at this place of the names
abbrev pub IsPlaceOf : List (List ℕ) → List ℕ → ℕ → Type 0
IsPlaceOf names word place = IsName word × IsNamed word names × (place ≡ place_of word names)

-- one of the names stands in front, with a space behind it, and this follows
abbrev pub IsNameFront : List (List ℕ) → List ℕ → ℕ → List ℕ → Type 0
IsNameFront names bytes place rest =
    (name : List ℕ) × (bytes ≡ name ++ 32 ∷ rest) × IsPlaceOf names name place

-- an alloc line with these numbers, and a name at this place of the names, stands in front, and
-- this follows its line feed
abbrev pub IsAllocFront : List (List ℕ) → List ℕ → ℕ → ℕ → ℕ → ℕ → List ℕ → Type 0
IsAllocFront names bytes worker cpu cache object rest =
    (text name : List ℕ) × (bytes ≡ text ++ 10 ∷ rest) × IsOneLine text
    × Says text (Alloc worker cpu name object) × IsNamed name names
    × (cache ≡ place_of name names)

-- a free line with these numbers stands in front, and this follows its line feed
abbrev pub IsFreeFront : List ℕ → ℕ → ℕ → ℕ → List ℕ → Type 0
IsFreeFront bytes worker cpu object rest =
    (text : List ℕ) × (bytes ≡ text ++ 10 ∷ rest) × IsOneLine text
    × Says text (Free worker cpu object)

-- a write line with these numbers stands in front, and this follows its line feed
abbrev pub IsWriteFront : List ℕ → ℕ → ℕ → ℕ → ℕ → List ℕ → Type 0
IsWriteFront bytes worker object word value rest =
    (text : List ℕ) × (bytes ≡ text ++ 10 ∷ rest) × IsOneLine text
    × Says text (Write worker object word value)

-- a read line with these numbers stands in front, and this follows its line feed
abbrev pub IsReadFront : List ℕ → ℕ → ℕ → ℕ → List ℕ → Type 0
IsReadFront bytes worker object word rest =
    (text : List ℕ) × (bytes ≡ text ++ 10 ∷ rest) × IsOneLine text
    × Says text (Read worker object word)

-- all lines say this, and the last is `end`
pub record Tells (bytes : List ℕ) (a : Above) : Type 0 where
  pub lines : List Line
  pub are : AreLines start bytes lines
  pub says : a ≡ after_all start lines
  pub ended : a.place ≡ After
