-- The text of the replies that count.
use Rattle.std.specs.Prelude.{ℕ, Bool, true, false, if◌then◌else◌, nat_le, nat_lt, List, [], ◌∷◌, ◌++◌, drop, flat_map, codes, slice_get}
use Rattle.std.specs.Option.{option_map_or}
use Rattle.std.specs.List.{list_any, zip}
use Rattle.slub_trace.specs.Kinds.{is_no_memory}
use Rattle.slub_trace.specs.declared.trace.Item.{Item}
use Rattle.slub_trace.specs.declared.trace.Item.TheVariants as item
use Rattle.slub_trace.specs.declared.trace.Trace.{Trace}
use Rattle.slub_slabinfo_text.specs.declared.journal.Done.{Done}
use Rattle.slub_slabinfo_text.specs.declared.journal.Done.TheVariants as done
use Rattle.slub_slabinfo_text.specs.Lines.{event_text}
use Rattle.slub_outcomes.specs.declared.span.Span.{Span}

-- the lines of the replies of a round of two or more workers; none of anything else
abbrev pub several_text : List (List ℕ) → Item → Done → List ℕ
several_text names (item.Round round) (done.Round result) =
    if nat_lt 1 round.workers
    then flat_map (event_text true names) (zip round.events result.replies) else []
several_text names _ _ = []

-- those of the items that count
abbrev pub replies_text : Span → Trace → List Done → List ℕ
replies_text span trace dones =
    flat_map (λ pair. several_text trace.names pair.0 pair.1)
    (drop span.first (zip trace.items dones))

-- the lines of the replies of the item of this number, if it counts
abbrev pub counted_text : Span → Trace → ℕ → Done → List ℕ
counted_text span trace number done =
    if nat_le span.first number
    then option_map_or (λ item. several_text trace.names item done)
    (slice_get trace.items number) []
    else []

-- behind them `turns spent`, where they were
abbrev pub end_text : Bool → List ℕ
end_text true = codes "turns spent" ++ 10 ∷ []
end_text false = []

-- a reply of the item is that no memory was there
abbrev pub lacks_memory : Done → Bool
lacks_memory (done.Round result) = list_any is_no_memory result.replies
lacks_memory _ = false
