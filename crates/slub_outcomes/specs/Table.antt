-- The text of outcomes.
use Rattle.std.specs.Prelude.{ℕ, ◌-◌, ◌==◌, if◌then◌else◌, List, [], ◌∷◌, ◌++◌, length, take, flat_map, codes}
use Rattle.std.specs.Fmt.{decimal}
use Rattle.slub_outcomes.specs.declared.tally.Outcome.{Outcome}
use Rattle.slub_outcomes.specs.declared.words.Request.{Request}

-- a byte as it stands on one line: `; ` for a line feed (10)
abbrev pub on_line : ℕ → List ℕ
on_line c = if c == 10 then codes "; " else c ∷ []

-- the lines of a text on one; the last line feed is left out
abbrev pub one_line : List ℕ → List ℕ
one_line text = flat_map on_line (take (length text - 1) text)

-- `seeds COUNT least SEED: REPLIES`
abbrev pub outcome_line : Outcome → List ℕ
outcome_line outcome =
    codes "seeds " ++ decimal outcome.seeds.count ++ codes " least " ++ decimal outcome.seeds.least
    ++ codes ": " ++ one_line outcome.replies ++ 10 ∷ []

-- `outcomes K of N seeds, from F on`
abbrev pub last_line : ℕ → Request → List ℕ
last_line kinds request =
    codes "outcomes " ++ decimal kinds ++ codes " of " ++ decimal request.seeds
    ++ codes " seeds, from " ++ decimal request.from ++ codes " on" ++ 10 ∷ []

-- a line for each, and the last one
abbrev pub table_text : List Outcome → Request → List ℕ
table_text outcomes request =
    flat_map outcome_line outcomes ++ last_line (length outcomes) request
