-- What was given and freed so far, in numbers that 64 bits hold.
use Rattle.std.specs.Prelude.{◌≡◌, ℕ, ◌+◌, ◌^◌, ◌<◌, ◌≤◌, List, [], ◌∷◌, ◌++◌, length, take, sum_by, flat_map}
use Rattle.slub_lists.specs.State.{State}
use Rattle.slub_trace.specs.declared.event.Round.{Round}
use Rattle.slub_trace.specs.declared.trace.Trace.{Trace}
use Rattle.slub_trace.specs.Sound.{objects_in}
use Rattle.slub_law_rounds.specs.Round.{IsRound}
use Rattle.slub_slabinfo_text.specs.declared.journal.Done.{Done}
use Rattle.slub_slabinfo_text.specs.declared.journal.Done.TheVariants as done
use Rattle.slub_slabinfo_text.specs.declared.journal.RoundResult.{RoundResult}
use Rattle.slub_slabinfo_text.specs.Lawful.{all_freed, all_given}

-- this came of a round
abbrev pub IsOutcome : RoundResult → Done → Type 0
IsOutcome result answer = answer ≡ done.Round result

-- a round was done lawfully on the lists, and this is what came of it
abbrev pub IsRoundDone : State → Round → Done → State → Type 0
IsRoundDone s round answer after =
    (result : RoundResult) × IsOutcome result answer × IsRound s round result after

-- how many objects are held, of all caches
abbrev pub held_in : State → ℕ
held_in s = sum_by (λ count. count) s.live

-- the items before this number were done: no more was given than numbers are allocated in them, and
-- what of it wasn't freed is held
pub record AreCounted (trace : Trace) (number : ℕ) (dones : List Done) (s : State) : Type 0 where
  pub few : all_given dones ≤ length (flat_map objects_in (take number trace.items))
  pub balanced : held_in s + all_freed dones ≡ all_given dones

-- 64 bits hold what was given and freed in all
pub record AreFew (dones : List Done) : Type 0 where
  pub given : all_given dones < 2 ^ 64
  pub freed : all_freed dones < 2 ^ 64

-- an item more is put behind those that were done before
abbrev pub CountsOn : Trace → ℕ → State → Done → State → Type 0
CountsOn trace number s answer after = (dones : List Done) → AreCounted trace number dones s
    → AreCounted trace (number + 1) (dones ++ answer ∷ []) after
