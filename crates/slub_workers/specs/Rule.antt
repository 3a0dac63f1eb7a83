-- The rule over the table: the invariants of the step machine, over the words of the table, what is
-- guarded in its slots and in hand, and what each seat knows of its workers.
use Rattle.std.specs.Prelude.{◌≡◌, ◌≢◌, ℕ, ◌<◌, Bool, false, List, [], ◌∷◌, length, map, replicate, slice_index_or, Contains, All}
use mathlib.Core.Option.{Option, some}
use lib.ListN.{get_elem?}
use Rattle.atomic_table.specs.Table.{State}
use Rattle.slub_core.specs.declared.step.Answer.TheVariants.{Done}
use Rattle.slub_core.specs.Setup.{Setup}
use Rattle.slub_core.specs.Local.{Local}
use Rattle.slub_core.specs.Run.{Pick, System, run}
use Rattle.slub_core.specs.Facts.{Facts, setup_of}
use Rattle.slub_core.specs.declared.guarded.Guarded.{Guarded}
use Rattle.slub_core.specs.declared.guarded.Guarded.TheVariants.{Nothing}
use Rattle.slub_schedule.specs.Schedule.{IsCall}
use Rattle.slub_schedule.specs.Table.{WordTable}
use Rattle.slub_turns.specs.Means.{the_means}
use Rattle.slub_turns.specs.System.{system_of}
use Rattle.slub_turns.specs.Ready.{IsReady}
use Rattle.slub_workers.specs.Begun.{Begun}
use Rattle.slub_workers.specs.Cells.{by_number}
use Rattle.slub_workers.specs.Locks.{locks_of}
use Rattle.slub_workers.specs.Standing.{Standing, Fork, branches, locals_of, one_way}

-- ---- what the round began with

abbrev pub facts_in : Begun → Facts
facts_in key = key.facts

abbrev pub setup_in : Begun → Setup
setup_in key = setup_of key.facts the_means

abbrev pub system_begun : Begun → System
system_begun key = system_of key.table key.guards key.locals

-- a table of these words
abbrev pub table_in : Begun → List ℕ → WordTable
table_in key words = record {
  frames = key.table.frames;
  objects = key.table.objects;
  words = words;
}

-- ---- the workers, memory being refused to some of them

-- the machine is one that a run of turns leads to, and its invariants hold: its words are those of
-- the table, and what its locks guard stands in their slots, or in the hands of those who have them
pub record Stands (key : Begun) (words : List ℕ) (homes : List (Option Guarded))
    (all : List Standing) : Type 0 where
  pub guards : List Guarded
  pub picks : List Pick
  pub ready : IsReady (facts_in key) (table_in key words) guards (locals_of all)
  pub ran : run (setup_in key) (system_begun key) picks
      ≡ system_of (table_in key words) guards (locals_of all)
  -- where no worker has tried, no call was a try
  pub calls : ((k : ℕ) (x : Standing) → get_elem? all k ≡ some x → x.tried ≡ false)
      → All IsCall picks
  pub numbers : (k : ℕ) (x : Standing) → get_elem? all k ≡ some x → x.local.worker ≡ k
  -- a lock that no worker has: what it guards is at home
  pub home : (lock : ℕ) → lock < 33
      → ((k : ℕ) (x : Standing) → get_elem? all k ≡ some x → ¬ Contains (locks_of x.local) lock)
      → get_elem? homes lock ≡ some (some (slice_index_or guards lock Nothing))
  -- what a lock guards that a worker has is in its hand
  pub hand : (k : ℕ) (x : Standing) (lock : ℕ) → get_elem? all k ≡ some x
      → Contains (locks_of x.local) lock
      → slice_index_or x.values lock Nothing ≡ slice_index_or guards lock Nothing
  pub room : (k : ℕ) (x : Standing) → get_elem? all k ≡ some x → length x.values ≡ 33

-- ---- seats

abbrev pub number_in : Fork → ℕ
number_in f = f.granted.local.worker

-- no other in the list has the number
abbrev pub IsAbsent : ℕ → List Fork → Type 0
IsAbsent worker fs = (k : ℕ) (f : Fork) → get_elem? fs k ≡ some f → number_in f ≢ worker

-- each of a seat's workers is the seat's own, and stands at its number among all
abbrev pub Owns : (ℕ → ℕ) → List Fork → ℕ → List Fork → Type 0
Owns owner all seat [] = Unit {0}
Owns owner all seat (f ∷ view) =
    (get_elem? all (number_in f) ≡ some f) × (owner (number_in f) ≡ seat)
    × IsAbsent (number_in f) view × Owns owner all seat view

abbrev pub AreTied : (ℕ → ℕ) → List Fork → List (List Fork) → Type 0
AreTied owner all views =
    (seat : ℕ) (view : List Fork) → get_elem? views seat ≡ some view → Owns owner all seat view

-- ---- the rule

-- whoever is refused memory, the workers stand, at the words that lie in the cells of the table
pub record Holds (key : Begun) (s : State Guarded (List Fork)) : Type 0 where
  pub forks : List Fork
  pub owner : ℕ → ℕ
  pub stand : (refused : ℕ → Bool)
      → Stands key (by_number s.words) s.homes (branches refused forks)
  pub tied : AreTied owner forks s.views
  pub slots : length s.homes ≡ 33
  pub count : length forks ≡ length key.locals

-- before the first turn a worker has no lock, no answer and no step
abbrev pub standing_first : Local → Standing
standing_first l = record {
  local = l;
  values = replicate 33 Nothing;
  tried = false;
  answer = Done;
  steps = 0;
}

abbrev pub first_view : Begun → List Fork
first_view key = map (λ l. one_way (standing_first l)) key.locals
