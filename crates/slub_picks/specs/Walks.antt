-- For contracts of the walk along a part: where it is.
use Rattle.std.specs.Prelude.{◌≡◌, ◌≤◌, ◌<◌, ◌⊎◌, ℕ, ◌+◌, true, false, List, [], ◌++◌, length, take, Option, Some, None, IsSomeAnd, Result, Ok, Err, slice_get, ⊤}
use Rattle.slub_picks.specs.declared.list.Entry.{Entry}
use Rattle.slub_picks.specs.declared.list.Reach.{Reach}
use Rattle.slub_picks.specs.declared.list.Reach.TheVariants.{Turns, Event, End}
use Rattle.slub_picks.specs.declared.walk.Misfit.{Misfit}
use Rattle.slub_picks.specs.declared.walk.Misfit.TheVariants.{NoWorker, NoEvent, PicksEnd}
use Rattle.slub_picks.specs.declared.walk.Walk.{Walk}
use Rattle.slub_picks.specs.Misfits.{is_full, needs_more}
use Rattle.slub_picks.specs.Turns.{Go, Say, Turn, is_among, unfinished_before}

-- of an entry that counts turns, so many are made
abbrev pub Counts : Reach → List Turn → ℕ → Type 0
Counts (Turns n) begun made = (made ≡ length begun) × (made ≤ n)
Counts Event begun made = ⊤
Counts End begun made = ⊤

-- turns are begun for the entry at the walk's place; none where the part is at its end
abbrev pub IsBegun : Option Entry → List Turn → ℕ → Type 0
IsBegun None begun made = begun ≡ []
IsBegun (Some entry) begun made = Go entry begun × Counts entry.reach begun made

-- the walk is along its part, behind these turns; these workers are left unfinished
pub record IsAlong (walk : Walk) (turns : List Turn) (left : List ℕ) : Type 0 where
  pub done : List Turn
  pub begun : List Turn
  pub turns_are : turns ≡ done ++ begun
  pub say : Say walk.workers (take walk.place walk.entries.now) done
      (unfinished_before begun left)
  pub is_begun : IsBegun (slice_get walk.entries.now walk.place) begun walk.made

-- the turn that comes next is of this worker
abbrev pub IsNext : Walk → ℕ → Type 0
IsNext walk worker = IsSomeAnd (slice_get walk.entries.now walk.place) (λ entry.
    (entry.worker ≡ worker) × (worker < walk.workers)
    × (is_full entry.reach walk.made ≡ false))

-- what is seen of an entry at the walk's place
abbrev pub Looks : Walk → Entry → List ℕ → Result (Option ℕ) Misfit → Type 0
Looks walk entry unfinished (Ok (Some worker)) =
    (worker ≡ entry.worker) × (worker < walk.workers)
    × (is_full entry.reach walk.made ≡ false) × (is_among worker unfinished ≡ true)
Looks walk entry unfinished (Ok None) =
    (entry.worker < walk.workers) × ((is_full entry.reach walk.made ≡ true)
    ⊎ ((entry.reach ≡ End) × (is_among entry.worker unfinished ≡ false)))
Looks walk entry unfinished (Err (NoWorker number worker)) =
    (number ≡ walk.place + 1) × (worker ≡ entry.worker) × (walk.workers ≤ worker)
Looks walk entry unfinished (Err (NoEvent number worker)) =
    (number ≡ walk.place + 1) × (worker ≡ entry.worker) × (worker < walk.workers)
    × needs_more entry.reach walk.made × (is_among worker unfinished ≡ false)
Looks walk entry unfinished (Err PicksEnd) = ⊥
