-- What a worker has between two turns, and what its turn makes of it.
use Rattle.std.specs.Prelude.{ℕ, suc, ◌+◌, ◌%◌, ◌^◌, Bool, true, false, ◌||◌, List, [], ◌∷◌, length, map, slice_index_or, if◌then◌else◌}
use Rattle.std.specs.List.{range_with_len}
use Rattle.slub_core.specs.declared.step.Answer.{Answer}
use Rattle.slub_core.specs.declared.step.Step.{Step}
use Rattle.slub_core.specs.Setup.{Setup}
use Rattle.slub_core.specs.Words.{answer_of}
use Rattle.slub_core.specs.World.{LockValue}
use Rattle.slub_core.specs.World as value
use Rattle.slub_core.specs.Local.{Local}
use Rattle.slub_core.specs.Steps.{step_of, advance_of, begun}
use Rattle.slub_core.specs.declared.guarded.Guarded.{Guarded}
use Rattle.slub_core.specs.declared.guarded.Guarded.TheVariants.{Nothing, Node, Checked, Pool}
use Rattle.slub_core.specs.Values.{values_of, rooms_of}
use Rattle.slub_workers.specs.Locks.{move_of, values_moved}

-- a worker, what the locks guard that it has, by the number of the lock, whether a turn of it was
-- one in which a call that begins is a try, what its last step was answered, and how many steps it
-- has made on the table, of which 2 ^ 64 count as none
pub record Standing : Type 0 where
  pub local : Local
  pub values : List Guarded
  pub tried : Bool
  pub answer : Answer
  pub steps : ℕ

-- a count of steps after so many more
abbrev pub counted : ℕ → ℕ → ℕ
counted steps more = (steps + more) % 2 ^ 64

-- where it stands when it has begun its call, as a try or not, and the step that it makes there
abbrev pub begun_in : Setup → Bool → Standing → Local
begun_in m tries x = begun m tries x.local

abbrev pub step_in : Setup → Bool → Standing → Step
step_in m tries x = step_of m (values_of x.values) (begun_in m tries x)

-- ---- its turn

-- what is guarded, with room for so many slabs where it is a node list
abbrev pub guarded_as : ℕ → LockValue → Guarded
guarded_as room value.Nothing = Nothing
guarded_as room (value.Node frames) = Node (record { frames = frames; room = room })
guarded_as room (value.Checked slabs) = Checked slabs
guarded_as room (value.Pool pool) = Pool pool

-- lock by lock
abbrev pub all_guarded : List ℕ → (ℕ → LockValue) → List Guarded
all_guarded rooms values =
    map (λ lock. guarded_as (slice_index_or rooms lock 0) (values lock))
    (range_with_len 0 (length rooms))

-- what it has in hand once its step found this; `value` is what a lock guards that it took
abbrev pub in_hand : Setup → Bool → Standing → ℕ → Guarded → List Guarded
in_hand m tries x found value = values_moved (move_of (step_in m tries x) found) value x.values

-- after its turn, in which memory is refused or isn't
abbrev pub after_turn : Setup → Bool → Standing → ℕ → Guarded → Bool → Standing
after_turn m tries x found value refused =
    let values = in_hand m tries x found value in
    let c = advance_of m refused (values_of values) (begun_in m tries x)
    (answer_of (step_in m tries x).op found) in
    record {
      local = c.local;
      values = all_guarded (rooms_of values) c.value;
      tried = x.tried || tries;
      answer = answer_of (step_in m tries x).op found;
      steps = counted x.steps 1;
    }

-- ---- memory may be refused

-- where a worker stands in each case: only it knows which it is
pub record Fork : Type 0 where
  pub refused : Standing
  pub granted : Standing

abbrev pub branch : Bool → Fork → Standing
branch refused f = if refused then f.refused else f.granted

-- it stands there in both
abbrev pub one_way : Standing → Fork
one_way x = record { refused = x; granted = x }

abbrev pub fork_after : Setup → Bool → Standing → ℕ → Guarded → Fork
fork_after m tries x found value = record {
  refused = after_turn m tries x found value true;
  granted = after_turn m tries x found value false;
}

-- of all workers, in rising number, where memory is refused to those that are named
abbrev pub branches_from : ℕ → (ℕ → Bool) → List Fork → List Standing
branches_from n refused [] = []
branches_from n refused (f ∷ fs) = branch (refused n) f ∷ branches_from (suc n) refused fs

abbrev pub branches : (ℕ → Bool) → List Fork → List Standing
branches refused fs = branches_from 0 refused fs

abbrev pub locals_of : List Standing → List Local
locals_of xs = map (λ (x : Standing). x.local) xs
