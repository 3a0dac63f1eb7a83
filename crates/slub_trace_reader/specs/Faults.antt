-- Why bytes are no trace: the first bad line, and the first reason that it is bad for.
use Rattle.std.specs.Prelude.{◌≡◌, ◌≢◌, ℕ, ◌+◌, ◌<◌, List, [], ◌∷◌, ◌++◌, codes}
use Rattle.std.specs.Fmt.{decimal}
use Rattle.slub_trace_reader.specs.declared.line.Line.{Line}
use Rattle.slub_trace_reader.specs.declared.place.Place.TheVariants.{After}
use Rattle.slub_trace_reader.specs.declared.reading.Why.{Why}
use Rattle.slub_trace_reader.specs.declared.reading.Why.TheVariants.{Unfinished, AfterEnd, Form, Range, TooManyRounds, UnknownCache, ObjectTwice, UnknownObject, ReadBeforeWrite, NoEnd}
use Rattle.slub_trace_reader.specs.Above.{Above, start, after_all}
use Rattle.slub_trace_reader.specs.Grammar.{MayStand, InRange, HasRoom, HasCache, IsFresh, IsKnown, IsWritten, IsOneLine, AreLines}
use Rattle.slub_trace_reader.specs.Lines.{IsPassed, Says}

-- what follows some lines: a line with its line feed, last bytes that have none, or nothing
pub data Next : Type 0 where
  Finished : (text : List ℕ) → Next
  Cut : (text : List ℕ) → Next
  Nothing : Next

-- the bytes go on so
abbrev pub GoesOn : List ℕ → Next → Type 0
GoesOn bytes (Finished text) = (rest : List ℕ) × (bytes ≡ text ++ 10 ∷ rest) × IsOneLine text
GoesOn bytes (Cut text) = (bytes ≡ text) × (text ≢ []) × IsOneLine text
GoesOn bytes Nothing = bytes ≡ []

-- a line of a form of its place for which something doesn't hold
abbrev pub IsFormWithout : Above → List ℕ → (Line → Type 0) → Type 0
IsFormWithout a text Holds =
    (line : Line) × Says text line × MayStand line a.version a.place × ¬ Holds line

-- a finished line is bad for this reason
abbrev pub IsBad : Above → List ℕ → Why → Type 0
IsBad a text Unfinished = ⊥
IsBad a text AfterEnd = (a.place ≡ After) × ¬ IsPassed text
IsBad a text Form = (line : Line) → Says text line → MayStand line a.version a.place → ⊥
IsBad a text Range = IsFormWithout a text (InRange a)
IsBad a text TooManyRounds = IsFormWithout a text (HasRoom a)
IsBad a text UnknownCache = IsFormWithout a text (HasCache a)
IsBad a text ObjectTwice = IsFormWithout a text (IsFresh a)
IsBad a text UnknownObject = IsFormWithout a text (IsKnown a)
IsBad a text ReadBeforeWrite = IsFormWithout a text (IsWritten a)
IsBad a text NoEnd = ⊥

-- what follows lines that say this is bad for this reason
abbrev pub HasReason : Above → Next → Why → Type 0
HasReason a (Finished text) why = IsBad a text why
HasReason a (Cut text) why = why ≡ Unfinished
HasReason a Nothing why = (why ≡ NoEnd) × (a.place ≢ After)

-- the order in which reasons are tried
abbrev pub rank : Why → ℕ
rank Unfinished = 0
rank AfterEnd = 1
rank Form = 2
rank Range = 3
rank TooManyRounds = 4
rank UnknownCache = 5
rank ObjectTwice = 6
rank UnknownObject = 7
rank ReadBeforeWrite = 8
rank NoEnd = 9

-- it is bad for this reason, and for none before it
pub record IsFirstReason (a : Above) (next : Next) (why : Why) : Type 0 where
  pub holds : HasReason a next why
  pub first : (other : Why) → rank other < rank why → HasReason a next other → ⊥

-- the lines above are good, and what follows them, in this line, is bad for this reason first
pub record IsFirstBad (bytes : List ℕ) (number : ℕ) (why : Why) : Type 0 where
  pub above : List Line
  pub front : List ℕ
  pub rest : List ℕ
  pub next : Next
  pub whole : bytes ≡ front ++ rest
  pub good : AreLines start front above
  pub follows : GoesOn rest next
  pub below : number ≡ (after_all start above).count + 1
  pub reason : IsFirstReason (after_all start above) next why

-- the text of a reason
abbrev pub why_text : Why → List ℕ
why_text Unfinished = codes "unfinished line"
why_text AfterEnd = codes "text after end"
why_text Form = codes "bad form"
why_text Range = codes "out of range"
why_text TooManyRounds = codes "too many rounds"
why_text UnknownCache = codes "unknown cache"
why_text ObjectTwice = codes "object twice"
why_text UnknownObject = codes "unknown object"
why_text ReadBeforeWrite = codes "read before write"
why_text NoEnd = codes "no end"

-- a line of the program's own
abbrev pub fault_line : List ℕ → List ℕ
fault_line why = codes "slub: " ++ why ++ 10 ∷ []

-- `slub: line N: WHY`
abbrev pub bad_line : ℕ → Why → List ℕ
bad_line line why = fault_line (codes "line " ++ decimal line ++ codes ": " ++ why_text why)
