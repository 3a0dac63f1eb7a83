-- The outcomes of many seeds, counted.
use Rattle.std.specs.Prelude.{◌≡◌, ◌≤◌, ◌<◌, ◌⊎◌, ℕ, true, List, length, map, sum_by, count_by, All, Option, Some}
use Rattle.std.specs.Option.{option_map}
use Rattle.std.specs.List.{AllAdjacentBelow, IsDistinct, list_any, position_from}
use Rattle.std.specs.Str.{bytes_eq}
use Rattle.slub_outcomes.specs.declared.tally.Seeds.{Seeds}
use Rattle.slub_outcomes.specs.declared.tally.Outcome.{Outcome}

-- the seeds whose text is this one: how many, and the least of them. The first of the texts is that
-- of the seed `from`, the next one that of the next seed, and so on
abbrev pub seeds_of : ℕ → List (List ℕ) → List ℕ → Option Seeds
seeds_of from texts text =
    option_map (λ least. record { count = count_by (bytes_eq text) texts; least = least })
    (position_from (bytes_eq text) from texts)

-- the texts of outcomes
abbrev pub texts_of : List Outcome → List (List ℕ)
texts_of outcomes = map (λ outcome. outcome.replies) outcomes

-- one stands before the other: more seeds have it, or as many and its least seed isn't greater
abbrev pub Precedes : Outcome → Outcome → Type 0
Precedes one other =
    (other.seeds.count < one.seeds.count)
    ⊎ ((one.seeds.count ≡ other.seeds.count) × (one.seeds.least ≤ other.seeds.least))

-- the outcomes of seeds with these texts, from the seed `from` on
pub record AreOutcomes (from : ℕ) (texts : List (List ℕ)) (outcomes : List Outcome) : Type 0 where
  -- no text has two
  pub once : IsDistinct bytes_eq (texts_of outcomes)
  -- and each has one
  pub each : All (λ text. list_any (bytes_eq text) (texts_of outcomes) ≡ true) texts
  -- it tells how many seeds have its text, and the least of them
  pub seeds : All (λ outcome. seeds_of from texts outcome.replies ≡ Some outcome.seeds) outcomes
  pub ordered : AllAdjacentBelow Precedes outcomes (length outcomes)
  -- each seed is counted once
  pub adds_up : sum_by (λ outcome. outcome.seeds.count) outcomes ≡ length texts
