-- What an item leaves of the transaction ids beside the lists.
use Rattle.std.specs.Prelude.{◌≡◌, ℕ, List, Option, MatchOption, slice_get}
use Rattle.std.specs.Option.{option_map}
use Rattle.slub_lists.specs.State.{State}
use Rattle.slub_open_close.specs.Growth.{ids_after}
use Rattle.slub_trace.specs.declared.trace.Trace.{Trace}
use Rattle.slub_slabinfo_text.specs.declared.journal.Done.{Done}

-- the ids, where there are some, are those that the item of this number leaves
abbrev pub LeavesIdsAt
    : Trace → State → ℕ → Done → Option (List ℕ) → Option (List ℕ) → Type 0
LeavesIdsAt trace s number done ids left =
    MatchOption (slice_get trace.items number) ⊥
    (λ item. left ≡ option_map (ids_after trace s item done) ids)
