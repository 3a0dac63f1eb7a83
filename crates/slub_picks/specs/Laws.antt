-- What follows of picks.
use Rattle.std.specs.Prelude.{◌≤◌, ◌<◌, ℕ, List, [], map, All}
use Rattle.slub_picks.specs.declared.list.Part.{Part}
use Rattle.slub_picks.specs.declared.made.Made.{Made}
use Rattle.slub_picks.specs.List.{IsPart}
use Rattle.slub_picks.specs.Made.{IsMade, part_text, runs_of}
use Rattle.slub_picks.specs.Turns.{Say, Turn}

-- the workers of turns
abbrev pub workers_of : List Turn → List ℕ
workers_of turns = map (λ turn. turn.worker) turns

-- each turn is of a worker of the round
abbrev pub AreOf : ℕ → List Turn → Type 0
AreOf workers turns = All (λ turn. turn.worker < workers) turns

-- the part that is written of a round's turns says them
abbrev pub PartsSayTurns : Type 0
PartsSayTurns =
    (workers : ℕ) (turns : List Turn) (made : Made) → 1 ≤ workers → workers ≤ 16
    → AreOf workers turns → IsMade made (workers_of turns)
    → (part : Part) × IsPart (part_text (runs_of made)) part × Say workers part.entries turns []
