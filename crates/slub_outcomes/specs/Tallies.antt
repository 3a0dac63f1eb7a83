-- For proofs and private clauses: what a tally holds.
use Rattle.std.specs.Prelude.{◌≡◌, ℕ, List, length, sum_by}
use Rattle.std.specs.HashMap.{IsUnique, get, values}
use Rattle.std.specs.Str.{bytes_eq}
use Rattle.slub_outcomes.specs.declared.tally.Outcome.{Outcome}
use Rattle.slub_outcomes.specs.declared.tally.Seeds.{Seeds}
use Rattle.slub_outcomes.specs.declared.tally.Tally.{Tally}
use Rattle.slub_outcomes.specs.Tally.{seeds_of}

-- how many seeds it has counted
abbrev pub counted : Tally → ℕ
counted tally = sum_by (λ seeds. seeds.count) (values tally.seeds)

-- an entry as an outcome
abbrev pub outcome_of : List ℕ × Seeds → Outcome
outcome_of entry = record { replies = entry.0; seeds = entry.1 }

-- it is that of seeds with these texts, from the seed `from` on
pub record IsTallyOf (from : ℕ) (texts : List (List ℕ)) (tally : Tally) : Type 0 where
  -- it has each text, with its seeds, and no other
  pub seeds : (text : List ℕ) → get bytes_eq tally.seeds text ≡ seeds_of from texts text
  pub unique : IsUnique bytes_eq tally.seeds
  pub all : counted tally ≡ length texts
