-- Which turns of a round a part says.
use Rattle.std.specs.Prelude.{◌≡◌, ◌<◌, ◌⊎◌, ℕ, ◌==◌, Bool, true, false, not, ◌&&◌, List, [], ◌∷◌, ◌++◌, length, ⊤}
use Rattle.std.specs.List.{list_any}
use Rattle.slub_picks.specs.declared.list.Entry.{Entry}
use Rattle.slub_picks.specs.declared.list.Reach.{Reach}
use Rattle.slub_picks.specs.declared.list.Reach.TheVariants.{Turns, Event, End}
use Rattle.slub_picks.specs.declared.walk.Ended.{Ended}

-- a turn of a round
pub record Turn : Type 0 where
  -- who made it
  pub worker : ℕ
  -- how it ended
  pub ended : Ended
  -- the workers that were unfinished before it
  pub unfinished : List ℕ

-- the worker is among these
abbrev pub is_among : ℕ → List ℕ → Bool
is_among worker workers = list_any (λ other. other == worker) workers

-- the workers that are unfinished before the first of some turns; `left` are so behind the last
abbrev pub unfinished_before : List Turn → List ℕ → List ℕ
unfinished_before [] left = left
unfinished_before (turn ∷ turns) left = turn.unfinished

-- an entry isn't ended by a turn that ended so
abbrev pub goes_on : Reach → Ended → Bool
goes_on (Turns n) ended = true
goes_on Event ended = not ended.is_event_over && not ended.is_lost_at_lock
goes_on End ended = not ended.is_lost_at_lock

-- the turns are of the entry's worker, and none of them ends the entry
abbrev pub Go : Entry → List Turn → Type 0
Go entry [] = ⊤
Go entry (turn ∷ turns) =
    (turn.worker ≡ entry.worker) × (goes_on entry.reach turn.ended ≡ true) × Go entry turns

-- the turns are of the entry's worker, and the last one, and no other, ends the entry
pub record Stop (entry : Entry) (turns : List Turn) : Type 0 where
  pub before : List Turn
  pub last : Turn
  pub turns_are : turns ≡ before ++ last ∷ []
  pub go : Go entry before
  pub worker : last.worker ≡ entry.worker
  pub stops : goes_on entry.reach last.ended ≡ false

-- the turns are all those of an entry that goes so far; `left` are unfinished behind them
abbrev pub Reaches : Reach → Entry → List Turn → List ℕ → Type 0
Reaches (Turns n) entry turns left = Go entry turns × (length turns ≡ n)
Reaches Event entry turns left = Stop entry turns
Reaches End entry turns left =
    Stop entry turns ⊎ (Go entry turns × (is_among entry.worker left ≡ false))

-- the entries, each of a worker of the round, say these turns, one entry after the other
abbrev pub Say : ℕ → List Entry → List Turn → List ℕ → Type 0
Say workers [] turns left = turns ≡ []
Say workers (entry ∷ entries) turns left =
    (front : List Turn) × (rest : List Turn) × (turns ≡ front ++ rest)
    × (entry.worker < workers)
    × Reaches entry.reach entry front (unfinished_before rest left)
    × Say workers entries rest left
