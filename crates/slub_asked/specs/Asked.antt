-- What a run was asked for, or why it does nothing.
use Rattle.std.specs.Prelude.{◌≡◌, ℕ, List, Option, IfSome, Result, Ok, Err}
use Rattle.std.specs.Io.KnownBytes.{IsAtEnd}
use Rattle.slub_edges.specs.Edges.{Rose}
use Rattle.slub_picks.specs.declared.words.Request.{Request}
use Rattle.slub_picks.specs.Words.{AreBadWords, IsRequest}
use Rattle.slub_trace.specs.Sound.{IsSound}
use Rattle.slub_trace.specs.declared.trace.Trace.{Trace}
use Rattle.slub_trace_reader.specs.declared.reading.Why.{Why}
use Rattle.slub_trace_reader.specs.Reads.{IsBadIn, IsTooLong, Spells}
use Rattle.slub_asked.specs.declared.asked.Asked.{Asked}
use Rattle.slub_asked.specs.declared.stop.Stop.{Stop}
use Rattle.slub_asked.specs.declared.stop.Stop.TheVariants.{BadWords, BadLine, TooLong, ReadFault, NoMemory}
use Rattle.slub_trace_reader.specs.Faults.{bad_line}

-- what a run had, and what it left of its source
pub record Call : Type 0 where
  pub words : List (List ℕ)
  -- the bytes that the source tells, before and after
  pub told : Option (List ℕ)
  pub left : Option (List ℕ)
  -- the source's count of faults, before and after
  pub read : ℕ × ℕ

-- the source was read to its end, and its bytes spell this sound trace and no other
pub record IsRead (c : Call) (trace : Trace) : Type 0 where
  pub at_end : IsAtEnd c.left
  pub spelled : Spells c.told trace
  pub sound : IsSound trace
  pub still : c.read.1 ≡ c.read.0

-- the words ask for something
abbrev pub Asks : Call → Type 0
Asks c = (request : Request) × IsRequest c.words request

-- the bytes were read to their end and are no trace, and this is the line that says why
pub record IsBadLine (c : Call) (text : List ℕ) : Type 0 where
  pub line : ℕ
  pub why : Why
  pub text_is : text ≡ bad_line line why
  pub at_end : IsAtEnd c.left
  pub bad : IsBadIn c.told line why
  pub still : c.read.1 ≡ c.read.0

-- the words ask for this and this trace was read, or why not; where words ask for something, want
-- of memory may stop it
abbrev pub IsAsked : Call → Result Asked Stop → Type 0
IsAsked c (Ok asked) = IsRequest c.words asked.request × IsRead c asked.trace
IsAsked c (Err BadWords) = AreBadWords c.words × (c.read.1 ≡ c.read.0)
IsAsked c (Err (BadLine text)) = Asks c × IsBadLine c text.items
IsAsked c (Err TooLong) = Asks c × IfSome c.told IsTooLong × (c.read.1 ≡ c.read.0)
IsAsked c (Err ReadFault) = Asks c × Rose c.read.0 c.read.1
IsAsked c (Err NoMemory) = c.read.1 ≡ c.read.0
IsAsked c (Err _) = ⊥
