-- How a run ends.
use Rattle.std.proofs.Common.{◌≡◌, ◌≤◌, ◌<◌, ℕ, Bool, true, false, List, length, Option, Some, None, refl, sym, subst, arith, inl, inr, IfSome}
use Rattle.std.specs.Prelude.{IsSomeAnd, slice_get}
use Rattle.std.proofs.lemmas.Option.{slice_get_within}
use Rattle.slub_trace.specs.declared.trace.Item.{Item}
use Rattle.slub_outcomes.specs.declared.span.Span.{Span}
use Rattle.slub_outcomes.specs.declared.status.Status.{Status}
use Rattle.slub_outcomes.specs.Run.{Call, Ends, IsRunOf, IsTable, WritesOut, done_status}
use Rattle.slub_outcomes.specs.Span.{IsSpan, is_round}
use Rattle.slub_outcomes.specs.Words.{IsRoundSaid, Word}

-- a round that is named is named from 1 on
pub round-least : (value : Option Word) (round : Option ℕ) → IsRoundSaid value round → IfSome round (λ n. 1 ≤ n)
round-least value None said = tt
round-least None (Some n) said = absurd (let never : ⊥ = cc in never)
round-least (Some word) (Some n) said = said.least_of

-- a place that has an item is below the length
place-below : (items : List Item) (place : ℕ) → IsSomeAnd (slice_get items place) (λ item. is_round item ≡ true) → place < length items
place-below items place h = by (slice_get items place) refl h
  where
    by : (found : Option Item) → slice_get items place ≡ found → IsSomeAnd found (λ item. is_round item ≡ true) → place < length items
    by None is h = absurd h
    by (Some item) is h = slice_get_within items place item is

-- no more items are done than the trace has
pub span-within : (round : Option ℕ) (items : List Item) (span : Span) → IsSpan round items span → span.end ≤ length items
span-within None items span is = omega (arith, is.1)
span-within (Some n) items span is = elim is [
  | inl one ↦ (let below = place-below items span.first one.0.0 in omega (arith, below, one.1))
  | inr none ↦ omega (arith, none.2)
]

-- where everything was done, the status is one of two
pub done-ends : (c : Call) (status : Status) (text : List ℕ) (is_spent : Bool) → status ≡ done_status is_spent → IsTable c status text → c.read.1 ≡ c.read.0 → Ends c status text
done-ends c status text true is table same =
    subst (λ (s : Status). Ends c s text) (sym is) (record { text_is = subst (λ (s : Status). IsTable c s text) is table; reads = same })
done-ends c status text false is table same =
    subst (λ (s : Status). Ends c s text) (sym is) (record { text_is = subst (λ (s : Status). IsTable c s text) is table; reads = same })

-- once its text was written
pub written : (c : Call) (old new : Option (List ℕ)) (write : ℕ × ℕ) (meant : Status) (text : List ℕ) (status : Status) → Ends c meant text → WritesOut old new write meant text status → IsRunOf c old new write status
written c old new write meant text status ends wrote = elim wrote [
  | inl whole ↦ inl (record { text = text; ends = subst (λ (s : Status). Ends c s text) (sym whole.0) ends; taken = whole.1; still = whole.2 })
  | inr front ↦ inr (record { status_is = front.0; meant = meant; text = text; ends = ends; taken = front.2; failed = front.1 })
]
