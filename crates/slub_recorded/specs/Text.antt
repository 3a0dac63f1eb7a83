-- The text of a trace.
use Rattle.std.specs.Prelude.{ℕ, Bool, List, [], ◌∷◌, ◌++◌, flat_map, codes, slice_get, if◌then◌else◌}
use Rattle.std.specs.Fmt.{decimal}
use Rattle.std.specs.Option.{option_map_or}
use Rattle.slub_recorded.specs.declared.rounds.Step.{Step}
use Rattle.slub_recorded.specs.declared.rounds.Step.TheVariants.{Does, Cut}
use Rattle.slub_recorded.specs.declared.text.Row.{Row}
use Rattle.slub_recorded.specs.declared.tunes.Tune.{Tune}
use Rattle.slub_recorded.specs.declared.turns.Turn.{Turn}
use Rattle.slub_recorded.specs.declared.turns.Turn.TheVariants.{Alloc, Free}
use Rattle.slub_recorded.specs.Tunes.{tunes_text}

-- the line of a cache: its slot is its size, words are its alignment
abbrev pub row_text : Row → List ℕ
row_text row =
    codes "cache " ++ row.name ++ 32 ∷ decimal row.slot
    ++ (if row.reclaim then codes " 8 R" else codes " 8 -") ++ 10 ∷ []

-- the name of the cache at a place
abbrev pub name_at : List Row → ℕ → List ℕ
name_at rows place = option_map_or (λ row. row.name) (slice_get rows place) []

-- the line of a turn of a worker
abbrev pub turn_text : List Row → ℕ → Turn → List ℕ
turn_text rows worker (Alloc cpu cache object) =
    codes "alloc " ++ decimal worker ++ 32 ∷ decimal cpu ++ 32 ∷ name_at rows cache
    ++ 32 ∷ decimal object ++ 10 ∷ []
turn_text rows worker (Free cpu object) =
    codes "free " ++ decimal worker ++ 32 ∷ decimal cpu ++ 32 ∷ decimal object ++ 10 ∷ []

-- the lines between two rounds of so many workers
abbrev pub cut_text : ℕ → Bool → List ℕ
cut_text workers slabinfo =
    (if slabinfo then codes "done\nslabinfo\nround " else codes "done\nround ")
    ++ decimal workers ++ 10 ∷ []

-- the lines of a step
abbrev pub step_text : List Row → ℕ → Step → List ℕ
step_text rows workers (Does worker turn) = turn_text rows worker turn
step_text rows workers (Cut slabinfo) = cut_text workers slabinfo

-- the machine and the caches
abbrev pub machine_text : ℕ → List Row → List ℕ
machine_text cpus rows =
    codes "machine 4096 " ++ decimal cpus ++ 10 ∷ [] ++ flat_map row_text rows

-- rounds of so many workers
abbrev pub round_text : List Row → ℕ → List Step → List ℕ
round_text rows workers steps =
    codes "round " ++ decimal workers ++ 10 ∷ [] ++ flat_map (step_text rows workers) steps
    ++ codes "done\n"

-- the lines below the comments
unfoldable pub body_text : ℕ → List Row → List Tune → ℕ → List Step → List ℕ
body_text cpus rows tunes workers steps =
    machine_text cpus rows ++ flat_map (tunes_text tunes) rows
    ++ round_text rows workers steps ++ codes "slabinfo\nend\n"
