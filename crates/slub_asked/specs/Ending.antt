-- What is written at the end of a run.
use Rattle.std.specs.Prelude.{◌≡◌, ◌⊎◌, ℕ, List, [], ◌++◌, Option, Result, Ok, Err}
use Rattle.std.specs.Io.KnownBytes.{Appends}
use Rattle.slub_edges.specs.Edges.{AppendsFront, Rose}
use Rattle.slub_picks.specs.declared.status.Status.{Status}
use Rattle.slub_picks.specs.declared.status.Status.TheVariants as ends
use Rattle.slub_asked.specs.declared.stop.Stop.{Stop}
use Rattle.slub_asked.specs.declared.stop.Stop.TheVariants.{WriteFault}
use Rattle.slub_asked.specs.Stop.{stop_line, stop_status}

-- the fault line of a run that stopped early; none where it didn't
abbrev pub end_line : Result Status Stop → List ℕ
end_line (Ok status) = []
end_line (Err stop) = stop_line stop

-- the status that a run came to
abbrev pub end_status : Result Status Stop → Status
end_status (Ok status) = status
end_status (Err stop) = stop_status stop

-- a write failed before, and nothing was written
abbrev pub IsLeft : Option (List ℕ) → Option (List ℕ) → ℕ × ℕ → Status → Type 0
IsLeft old new write status =
    (new ≡ old) × (write.1 ≡ write.0) × (status ≡ ends.WriteFault)

-- the text was taken, and no write failed
pub record Wrote (old new : Option (List ℕ)) (write : ℕ × ℕ) (text : List ℕ)
    (meant status : Status) : Type 0 where
  pub status_is : status ≡ meant
  pub taken : Appends old new text
  pub still : write.1 ≡ write.0

-- a write failed: a front of the text was taken, and not the whole
pub record WroteFront (old new : Option (List ℕ)) (write : ℕ × ℕ) (text : List ℕ)
    (status : Status) : Type 0 where
  pub status_is : status ≡ ends.WriteFault
  pub taken : AppendsFront old new 0 text
  pub failed : Rose write.0 write.1

-- the text was written, but for a write that failed
abbrev pub Writes : Option (List ℕ) → Option (List ℕ) → ℕ × ℕ → List ℕ → Status → Status → Type 0
Writes old new write text meant status =
    Wrote old new write text meant status ⊎ WroteFront old new write text status

-- the end of a run in a page with this back was written, where no write had failed
abbrev pub Ends : Option (List ℕ) → Option (List ℕ) → ℕ × ℕ → List ℕ → Result Status Stop → Status
    → Type 0
Ends old new write back (Err WriteFault) status = IsLeft old new write status
Ends old new write back end status =
    Writes old new write (end_line end ++ back) (end_status end) status
