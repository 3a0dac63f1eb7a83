-- A round that ends with a trim.
use Rattle.std.specs.Prelude.{◌≡◌, ℕ, List, [], ◌∷◌, ◌++◌, Some, None}
use Rattle.slub_trace.specs.declared.event.Act.TheVariants.{Trim}
use Rattle.slub_trace.specs.declared.event.Event.{Event}
use Rattle.slub_trace.specs.declared.event.Round.{Round}
use Rattle.slub_lists.specs.State.{State}
use Rattle.slub_lists.specs.Alloc.{checked_of, named}
use Rattle.slub_lists.specs.Shrink.{busy_of}
use Rattle.slub_slabinfo_text.specs.declared.journal.RoundResult.{RoundResult}
use Rattle.slub_slabinfo_text.specs.Lawful.{DoesRound}

-- the last event trims a cache that isn't checked, and then no object of it is held or on the board
pub record EndsTrimmed (s : State) (round : Round) (result : RoundResult) (cache : ℕ)
    (after : State) : Type 0 where
  pub does : DoesRound s round result after
  pub first : List Event
  pub last : Event
  pub place : ℕ
  pub events : round.events ≡ first ++ last ∷ []
  pub trims : last.act ≡ Trim place
  pub of_cache : named after place ≡ Some cache
  pub unchecked : checked_of after cache ≡ None
  pub idle : busy_of after cache ≡ 0
