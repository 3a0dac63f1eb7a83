-- The turns that were made, and the part that says them in its shortest form.
use Rattle.std.specs.Prelude.{◌≡◌, ◌≢◌, ◌≤◌, ◌⊎◌, ℕ, ◌==◌, if◌then◌else◌, List, [], ◌∷◌, ◌++◌, replicate, flat_map, codes, ⊤}
use Rattle.std.specs.Fmt.{decimal}
use Rattle.slub_picks.specs.declared.made.Made.{Made}
use Rattle.slub_picks.specs.declared.made.Run.{Run}

-- the workers of the turns of runs
abbrev pub turns_of : List Run → List ℕ
turns_of runs = flat_map (λ run. replicate run.count run.worker) runs

-- two runs next to each other can't be one: another worker makes the second, or the first has as
-- many turns as an entry can have
abbrev pub Differ : Run → Run → Type 0
Differ one other = (one.worker ≢ other.worker) ⊎ (4294967295 ≤ one.count)

-- the run has as many turns as an entry can have
abbrev pub Fits : Run → Type 0
Fits run = (1 ≤ run.count) × (run.count ≤ 4294967295)

-- each run fits, and no two can be one
abbrev pub AreShort : List Run → Type 0
AreShort [] = ⊤
AreShort (run ∷ []) = Fits run
AreShort (run ∷ other ∷ runs) = Fits run × Differ run other × AreShort (other ∷ runs)

-- the runs in which the turns were made
abbrev pub runs_of : Made → List Run
runs_of made = made.runs.items

-- these are the workers of the turns that were made, in order
pub record IsMade (made : Made) (turns : List ℕ) : Type 0 where
  pub turns_are : turns_of (runs_of made) ≡ turns
  pub short : AreShort (runs_of made)

-- the entry of a run: its worker (`W`), or its worker, `:` (58) and how many turns (`W:N`)
abbrev pub run_text : Run → List ℕ
run_text run =
    if run.count == 1 then decimal run.worker
    else decimal run.worker ++ 58 ∷ decimal run.count

-- the part of runs: their entries with commas (44) between them; `0:end` where there is none
abbrev pub part_text : List Run → List ℕ
part_text [] = codes "0:end"
part_text (run ∷ runs) = run_text run ++ flat_map (λ other. 44 ∷ run_text other) runs
