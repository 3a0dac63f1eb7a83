-- Where a part doesn't fit its round.
use Rattle.std.specs.Prelude.{◌≡◌, ◌<◌, ◌≤◌, ℕ, ◌+◌, Bool, false, nat_le, List, ◌++◌, length, take, Some, slice_get, ⊤}
use Rattle.slub_picks.specs.declared.list.Entry.{Entry}
use Rattle.slub_picks.specs.declared.list.Reach.{Reach}
use Rattle.slub_picks.specs.declared.list.Reach.TheVariants.{Turns, Event, End}
use Rattle.slub_picks.specs.declared.walk.Misfit.{Misfit}
use Rattle.slub_picks.specs.declared.walk.Misfit.TheVariants.{NoWorker, NoEvent, PicksEnd}
use Rattle.slub_picks.specs.Turns.{Go, Say, Turn, is_among, unfinished_before}

-- an entry that goes so far needs no turn behind so many
abbrev pub is_full : Reach → ℕ → Bool
is_full (Turns n) made = nat_le n made
is_full Event made = false
is_full End made = false

-- an entry that goes so far needs a turn of a finished worker
abbrev pub needs_more : Reach → ℕ → Type 0
needs_more (Turns n) made = made < n
needs_more Event made = ⊤
needs_more End made = ⊥

-- the entries before one of this place say turns, and the turns behind those are begun for it
pub record IsIn (workers : ℕ) (entries : List Entry) (place : ℕ) (entry : Entry)
    (turns : List Turn) (left : List ℕ) : Type 0 where
  pub there : slice_get entries place ≡ Some entry
  pub done : List Turn
  pub begun : List Turn
  pub turns_are : turns ≡ done ++ begun
  pub say : Say workers (take place entries) done (unfinished_before begun left)
  pub go : Go entry begun

-- an entry, numbered from 1, is of no worker of the round
pub record IsNoWorker (workers : ℕ) (entries : List Entry) (turns : List Turn) (left : List ℕ)
    (number worker : ℕ) : Type 0 where
  pub place : ℕ
  pub number_is : number ≡ place + 1
  pub entry : Entry
  pub is_in : IsIn workers entries place entry turns left
  pub worker_is : worker ≡ entry.worker
  pub beyond : workers ≤ worker

-- an entry, numbered from 1, is to make a turn, and its worker is finished
pub record IsNoEvent (workers : ℕ) (entries : List Entry) (turns : List Turn) (left : List ℕ)
    (number worker : ℕ) : Type 0 where
  pub place : ℕ
  pub number_is : number ≡ place + 1
  pub entry : Entry
  pub is_in : IsIn workers entries place entry turns left
  pub worker_is : worker ≡ entry.worker
  pub within : worker < workers
  pub needs : needs_more entry.reach (length is_in.begun)
  pub finished : is_among worker left ≡ false

-- why the entries don't fit, once these turns are made and these workers are left unfinished
abbrev pub IsMisfit : ℕ → List Entry → List Turn → List ℕ → Misfit → Type 0
IsMisfit workers entries turns left (NoWorker number worker) =
    IsNoWorker workers entries turns left number worker
IsMisfit workers entries turns left (NoEvent number worker) =
    IsNoEvent workers entries turns left number worker
IsMisfit workers entries turns left PicksEnd = Say workers entries turns left
