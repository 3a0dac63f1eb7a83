-- Which items of a trace are done, and of which the replies count.
use Rattle.std.specs.Prelude.{◌≡◌, ◌<◌, ◌⊎◌, ℕ, ◌+◌, Bool, true, false, List, length, take, count_by, Option, Some, None, IsSomeAnd, slice_get}
use Rattle.slub_trace.specs.declared.trace.Item.{Item}
use Rattle.slub_trace.specs.declared.trace.Item.TheVariants.{Round}
use Rattle.slub_outcomes.specs.declared.span.Span.{Span}

-- a `round` line begins it
abbrev pub is_round : Item → Bool
is_round (Round round) = true
is_round _ = false

-- the item at this place is the round that the n-th `round` line begins
abbrev pub IsRoundAt : ℕ → List Item → ℕ → Type 0
IsRoundAt n items place =
    IsSomeAnd (slice_get items place) (λ item. is_round item ≡ true)
    × (count_by is_round (take place items) + 1 ≡ n)

-- every item is done, and every one counts. Or one round counts, and nothing behind it is done;
-- where the trace has fewer rounds, every item is done, and none counts
abbrev pub IsSpan : Option ℕ → List Item → Span → Type 0
IsSpan None items span = (span.first ≡ 0) × (span.end ≡ length items)
IsSpan (Some n) items span =
    (IsRoundAt n items span.first × (span.end ≡ span.first + 1))
    ⊎ ((count_by is_round items < n) × (span.first ≡ length items) × (span.end ≡ length items))
