-- A worker alone at a table of its own.
use Rattle.std.specs.Prelude.{◌≡◌, List, [], ◌∷◌, length}
use Rattle.atomic_table.specs.Seated.{TableId}
use Rattle.slub_core.specs.declared.spot.Spot.TheVariants.{Between}
use Rattle.slub_workers.specs.declared.workers.Workers.{Workers}
use Rattle.slub_workers.specs.Begun.{Begun}
use Rattle.slub_workers.specs.Ends.{IsRoom}
use Rattle.slub_core.specs.Local.{Local}
use Rattle.slub_workers.specs.Nobody.{nobody}
use Rattle.slub_workers.specs.Rule.{standing_first}
use Rattle.slub_workers.specs.Sits.{MayStand}
use Rattle.slub_workers.specs.Standing.{Standing}

-- the machine that the table was opened with, and how the worker stands
pub record Lone : Type 0 where
  pub key : Begun
  pub standing : Standing

-- the worker in a list of one
abbrev pub standing_of : List (TableId × Standing) → Standing
standing_of [] = nobody
standing_of (w ∷ ws) = w.1

-- the one worker of a machine as it begins: in no call, with no lock, no answer and no step
abbrev pub first_of : List Local → Standing
first_of [] = nobody
first_of (l ∷ ls) = standing_first l

abbrev pub begins_as : Begun → Standing
begins_as key = first_of key.locals

-- there is one worker, which sits at this table and is between two calls
pub record IsAloneIn (key : Begun) (table : TableId) (list : List (TableId × Standing))
    : Type 0 where
  pub one : list ≡ (table, standing_of list) ∷ []
  pub may : MayStand key (standing_of list)
  pub between : (standing_of list).local.spot ≡ Between
  pub number : (standing_of list).local.worker ≡ 0

-- the worker of a machine that has no other
pub record SitsAlone (key : Begun) (table : TableId) (ws : Workers) : Type 0 where
  pub count : length key.locals ≡ 1
  pub alone : IsAloneIn key table ws.list.items
  pub room : IsRoom table 1 ws.rest
