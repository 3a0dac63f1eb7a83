-- The begin and the end of a round: its workers with their seats, and what is left of them.
use Rattle.std.specs.Prelude.{◌≡◌, ◌≤◌, ℕ, false, List, [], length, map, reverse, vec_capacity, All}
use Rattle.atomic_table.specs.Seated.{TableId}
use Rattle.slub_core.specs.declared.spot.Spot.TheVariants.{Between}
use Rattle.slub_core.specs.Local.{Local}
use Rattle.slub_core.specs.Run.{IsFinished}
use Rattle.slub_workers.specs.declared.workers.Workers.{Workers}
use Rattle.slub_workers.specs.declared.workers.Rest.{Rest}
use Rattle.slub_workers.specs.declared.workers.Ended.{Ended}
use Rattle.slub_workers.specs.Begun.{Begun}
use Rattle.slub_workers.specs.Standing.{Standing}
use Rattle.slub_workers.specs.Ranks.{AreBack}
use Rattle.slub_workers.specs.Rule.{standing_first}
use Rattle.slub_workers.specs.Workers.{MayWorkAt, countdown, worker_in}

-- ---- before the end

-- the first seat knows of no worker, and there is room for so many workers at the end
pub record IsRoom (table : TableId) (count : ℕ) (rest : Rest) : Type 0 where
  pub seat : (rest.root.table_id ≡ table) × (rest.root.me ≡ ([], []))
  pub values : (rest.values.items ≡ []) × (33 ≤ vec_capacity rest.values)
  pub locals : (rest.locals.items ≡ []) × (count ≤ vec_capacity rest.locals)
  pub done : (rest.done.items ≡ []) × (count ≤ vec_capacity rest.done)

-- it sits at this table, and is between two calls
abbrev pub IsIdleAt : TableId → TableId × Standing → Type 0
IsIdleAt table w = (w.0 ≡ table) × (w.1.local.spot ≡ Between)

-- how workers begin at a table, the last one first: each as it came, with no lock, no answer and no
-- step
abbrev pub seated_first : TableId → List Local → List (TableId × Standing)
seated_first table ls = reverse (map (λ l. (table, standing_first l)) ls)

-- all workers of the round have seats at this table, the last one first; each stands as it begins,
-- is between two calls, and hasn't tried
pub record AreSeated (key : Begun) (table : TableId) (ws : Workers) : Type 0 where
  pub first : ws.list.items ≡ seated_first table key.locals
  pub list : All (MayWorkAt key table) ws.list.items
  pub idle : All (IsIdleAt table) ws.list.items
  pub numbers : map worker_in ws.list.items ≡ countdown (length key.locals)
  pub room : IsRoom table (length key.locals) ws.rest

-- ---- the end

abbrev pub HasNotTried : TableId × Standing → Type 0
HasNotTried w = w.1.tried ≡ false

-- the workers of this list, the last one first, as they stand
abbrev pub rising : List (TableId × Standing) → List Local
rising list = map (λ (w : TableId × Standing). w.1.local) (reverse list)

-- so many workers have given their seats at this table back, each between two calls
pub record AreGathered (table : TableId) (count : ℕ) (e : Ended) : Type 0 where
  pub seat : e.root.table_id ≡ table
  pub back : AreBack e.tried 0 e.root.me.0 e.locals.items
  pub all : length e.locals.items ≡ count
  pub values : (e.values.items ≡ []) × (33 ≤ vec_capacity e.values)

-- none of them has tried
abbrev pub AreUntried : Ended → Type 0
AreUntried e = e.tried ≡ false

-- each of their calls has a reply
abbrev pub AreFinished : Ended → Type 0
AreFinished e = All IsFinished e.locals.items

-- these workers have given their seats back, and where none of them has tried it is known so
pub record HaveEnded (table : TableId) (list : List (TableId × Standing)) (e : Ended)
    : Type 0 where
  pub gathered : AreGathered table (length list) e
  pub locals : e.locals.items ≡ rising list
  pub untried : All HasNotTried list → e.tried ≡ false
