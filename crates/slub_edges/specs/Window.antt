-- A window onto a source: the bytes that were read and not yet taken.
use Rattle.std.specs.Prelude.{◌≡◌, ℕ, ◌+◌, ◌<◌, List, ◌++◌, length, slice_range, Option}
use Rattle.std.specs.Io.KnownBytes.{Consumes}
use Rattle.slub_edges.specs.declared.reading.ReadAllFault.{ReadAllFault}
use Rattle.slub_edges.specs.declared.reading.ReadAllFault.TheVariants.{Failed, TooLong, NoMemory}
use Rattle.slub_edges.specs.declared.window.Window.{Window}
use Rattle.slub_edges.specs.Edges.{Rose}

-- the bytes of a window
abbrev pub items : Window → List ℕ
items w = slice_range w.bytes.items w.start w.end

-- how many bytes the source gave, those that were taken too
abbrev pub count_of : Window → ℕ
count_of w = w.count

-- bytes that the source gave came behind those of a window, and were counted
pub record Grows (told left : Option (List ℕ)) (old new : List ℕ) (before count : ℕ) : Type 0 where
  pub more : List ℕ
  pub read : Consumes told left more
  pub behind : new ≡ old ++ more
  pub counted : count ≡ before + length more

-- bytes that the source gave were counted
pub record Counts (told left : Option (List ℕ)) (before count : ℕ) : Type 0 where
  pub more : List ℕ
  pub read : Consumes told left more
  pub counted : count ≡ before + length more

-- the source gave so many bytes that those before and they are more than it may give
pub record IsOver (most : ℕ) (told left : Option (List ℕ)) (before : ℕ) : Type 0 where
  pub more : List ℕ
  pub read : Consumes told left more
  pub over : most < before + length more

-- why reading goes no further: a read failed, too many bytes came, or want of memory; old and new
-- are the counts of faults
abbrev pub StopsRead : ℕ → Option (List ℕ) → Option (List ℕ) → ℕ → ℕ → ℕ → ReadAllFault → Type 0
StopsRead most told left before old new Failed = Rose old new
StopsRead most told left before old new TooLong = IsOver most told left before × (new ≡ old)
StopsRead most told left before old new NoMemory = new ≡ old
