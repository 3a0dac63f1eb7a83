-- Whose turn comes next: of a round of one worker, by a seed, or by a list of picks.
use Rattle.std.specs.Prelude.{◌≡◌, ◌≤◌, ℕ, ◌%◌, true, List, [], ◌∷◌, ◌++◌, length, slice_index, ⊤}
use Rattle.slub_schedule.specs.Draws.{next, number_from}
use Rattle.slub_picks.specs.declared.walk.Ended.{Ended}
use Rattle.slub_picks.specs.declared.walk.Misfit.{Misfit}
use Rattle.slub_picks.specs.declared.walk.Misfit.TheVariants.{PicksEnd}
use Rattle.slub_picks.specs.declared.walk.Walk.{Walk}
use Rattle.slub_picks.specs.Misfits.{IsMisfit}
use Rattle.slub_picks.specs.Turns.{Say, Turn, is_among}
use Rattle.slub_picks.specs.Walks.{IsAlong, IsNext}
use Rattle.slub_round_log.specs.declared.choice.Choice.{Choice}
use Rattle.slub_round_log.specs.declared.choice.Choice.TheVariants.{Alone, Seed, Part}

-- the same part, for as many workers
pub record IsOfPart (walk after : Walk) : Type 0 where
  pub entries : after.entries.now ≡ walk.entries.now
  pub workers : after.workers ≡ walk.workers

-- a walk comes to this worker
pub record ComesTo (walk : Walk) (unfinished : List ℕ) (worker : ℕ) (after : Walk) : Type 0 where
  pub part : IsOfPart walk after
  pub among : is_among worker unfinished ≡ true
  pub is_next : IsNext after worker
  pub along : (turns : List Turn) → IsAlong walk turns unfinished → IsAlong after turns unfinished

-- of these workers, which are unfinished, the turn of this one comes next
abbrev pub Chooses : Choice → List ℕ → ℕ → Choice → Type 0
Chooses Alone unfinished worker after = (worker ≡ slice_index unfinished 0) × (after ≡ Alone)
Chooses (Seed x) unfinished worker after =
    (worker ≡ slice_index unfinished (number_from x % length unfinished)) × (after ≡ Seed (next x))
Chooses (Part walk) unfinished worker after =
    (there : Walk) × (after ≡ Part there) × ComesTo walk unfinished worker there

-- a walk goes on behind a turn that ended so
pub record GoesOn (walk : Walk) (ended : Ended) (after : Walk) : Type 0 where
  pub part : IsOfPart walk after
  pub along : (worker : ℕ) (turns : List Turn) (unfinished left : List ℕ)
      → IsNext walk worker → IsAlong walk turns unfinished
      → IsAlong after
      (turns ++ record { worker = worker; ended = ended; unfinished = unfinished } ∷ []) left

abbrev pub Goes : Choice → Ended → Choice → Type 0
Goes (Part walk) ended after = (there : Walk) × (after ≡ Part there) × GoesOn walk ended there
Goes choice ended after = after ≡ choice

-- no turn is said, since the part doesn't fit; it ends too early where a worker is unfinished
abbrev pub Refuses : Choice → List ℕ → Misfit → Type 0
Refuses (Part walk) unfinished misfit =
    ((turns : List Turn) → IsAlong walk turns unfinished
    → IsMisfit walk.workers walk.entries.now turns unfinished misfit)
    × (misfit ≡ PicksEnd → 1 ≤ length unfinished)
Refuses choice unfinished misfit = ⊥

-- where each worker is finished, no turn is left to be said
abbrev pub IsOver : Choice → Type 0
IsOver (Part walk) = (turns : List Turn) → IsAlong walk turns []
    → Say walk.workers walk.entries.now turns []
IsOver choice = ⊤
