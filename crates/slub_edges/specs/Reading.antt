-- What comes of reading a source to its end.
use Rattle.std.specs.Prelude.{◌≡◌, ℕ, ◌<◌, ◌≤◌, List, length, Option, Result, Ok, Err}
use Rattle.std.specs.declared.vec.Vec.{Vec}
use Rattle.std.specs.declared.alloc.Global.{Global}
use Rattle.std.specs.Io.KnownBytes.{Consumes, IsAtEnd}
use Rattle.slub_edges.specs.declared.reading.ReadAllFault.{ReadAllFault}
use Rattle.slub_edges.specs.declared.reading.ReadAllFault.TheVariants.{Failed, TooLong, NoMemory}
use Rattle.slub_edges.specs.Edges.{Rose}

-- a front of the bytes to come was read, of at most so many
abbrev pub ReadsFront : Option (List ℕ) → Option (List ℕ) → ℕ → Type 0
ReadsFront told left most = (bs : List ℕ) × Consumes told left bs × (length bs ≤ most)

-- what comes of reading at most so many bytes: told and left are the bytes to come before and
-- after, old and new the counts of faults
abbrev pub ReadsAll : Option (List ℕ) → Option (List ℕ) → ℕ → ℕ → ℕ
    → Result (Vec ℕ Global) ReadAllFault → Type 0
ReadsAll told left old new most (Ok bytes) =
    Consumes told left bytes.items × IsAtEnd left × (length bytes.items ≤ most) × (new ≡ old)
ReadsAll told left old new most (Err Failed) = ReadsFront told left most × Rose old new
ReadsAll told left old new most (Err TooLong) =
    (bs : List ℕ) × Consumes told left bs × (most < length bs) × (new ≡ old)
ReadsAll told left old new most (Err NoMemory) = ReadsFront told left most × (new ≡ old)
