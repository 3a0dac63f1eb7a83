-- A round of the machine that is watched.
use Rattle.std.specs.Prelude.{◌≡◌, ℕ, ◌-◌, ◌^◌, ◌<◌, List, Option, None, Some, slice_get}
use Rattle.slub_trace.specs.declared.event.Round.{Round}
use Rattle.slub_trace.specs.declared.trace.Item.TheVariants as item
use Rattle.slub_trace.specs.declared.trace.Trace.{Trace}
use Rattle.slub_trace.specs.Sound.{IsSound}
use Rattle.slub_lists.specs.State.{State}
use Rattle.slub_slabinfo_text.specs.declared.journal.RoundResult.{RoundResult}
use Rattle.slub_core.specs.Local.{Local}
use Rattle.slub_core.specs.Facts.{Facts}
use Rattle.slub_core.specs.Run.{System}
use Rattle.slub_turns.specs.Happenings.{Happening}
use Rattle.slub_rounds.specs.Rounds.{DoesRoundBySteps, SpendsTurnsBySteps}
use Rattle.slub_rounds.specs.Watched.{EndsWatched, SpendsWatched, HaltsWatched}
use Rattle.slub_law_replay.specs.Runs.{IsReadyMachine, MachineState}
use Rattle.slub_law_replay.specs.Ways.{ids_before}
use Rattle.slub_items.specs.declared.watched.Unwatched.{Unwatched}
use Rattle.slub_items.specs.declared.watched.Unwatched.TheVariants.{NoMemory, TurnsSpent, Halted}

-- the machine stands before the item of this number, which is this round
pub record IsDue (m : MachineState) (trace : Trace) (number : ℕ) (round : Round) : Type 0 where
  pub sound : IsSound trace
  pub ready : IsReadyMachine m trace number
  pub here : slice_get trace.items number ≡ Some (item.Round round)
  pub few : number < 2 ^ 64 - 1

-- the ids after it stand beside the lists, where ids stood there before; else they are given besides
abbrev pub AreGiven
    : Option (List ℕ) → List ℕ → Option (List ℕ) → Option (List ℕ) → Type 0
AreGiven None ids_after left others = (left ≡ None) × (others ≡ Some ids_after)
AreGiven (Some ids) ids_after left others = (left ≡ Some ids_after) × (others ≡ None)

-- it is done by steps, and watched, from the ids beside the lists, or from new ones that aren't kept
abbrev pub DoesWatched : {W : Type 0} → (Facts → W → List Local → W → Type 0)
    → (Facts → W → System → ℕ → W → Type 0) → (Facts → W → Happening → W → Type 0)
    → (Facts → W → System → W → Type 0) → W → W → State → Option (List ℕ) → Round → RoundResult
    → State → Option (List ℕ) → Option (List ℕ) → Type 0
DoesWatched begins_round chooses hears is_done watch after s ids round result t left others =
    (ids_after : List ℕ)
    × DoesRoundBySteps (λ m first picks last.
    EndsWatched begins_round chooses hears is_done watch after m first picks last)
    s (ids_before s ids) round result t ids_after
    × AreGiven ids ids_after left others

-- why it wasn't: for want of memory, and what was given is as it was; or all turns were made; or the
-- watcher had the round end
abbrev pub IsUnwatched : {G W H : Type 0} → (Facts → W → List Local → W → Type 0)
    → (Facts → W → System → ℕ → W → Type 0) → (Facts → W → Happening → W → Type 0)
    → (Facts → W → System → H → W → Type 0) → G → State → List ℕ → Round → W → W
    → Unwatched G H → Type 0
IsUnwatched begins_round chooses hears halts given s ids round watch after (NoMemory left) =
    (left ≡ given) × (after ≡ watch)
IsUnwatched begins_round chooses hears halts given s ids round watch after TurnsSpent =
    SpendsTurnsBySteps (λ m first picks last.
    SpendsWatched begins_round chooses hears watch after m first picks last) s ids round
IsUnwatched begins_round chooses hears halts given s ids round watch after (Halted why) =
    SpendsTurnsBySteps (λ m first picks last.
    HaltsWatched begins_round chooses hears halts watch why after m first picks last) s ids round
