-- What a round says once each call has its reply: boards, calls and replies, and no step.
use Rattle.std.specs.Prelude.{◌≡◌, ℕ, ◌+◌, ◌≤◌, List, [], ◌∷◌, map, sum_by, slice_index, All, None, ◌⊎◌}
use Rattle.slub_core.specs.declared.call.Call.{Call}
use Rattle.slub_core.specs.declared.local.Answered.{Answered}
use Rattle.slub_core.specs.Setup.{Setup}
use Rattle.slub_core.specs.World.{World, pool_of, one_if}
use Rattle.slub_core.specs.Replies.{given_in, freed_in, dry_in, holding, Public, Caused}
use Rattle.slub_core.specs.Accounted.{boarded}

-- a worker's calls in their order: those that have replies, the last one first, and those to come
abbrev pub in_order : List Answered → List Call → List Call
in_order [] todo = todo
in_order (d ∷ ds) todo = in_order ds (d.call ∷ todo)

-- ---- over all workers, by what each was answered

abbrev pub given_over : ℕ → List (List Answered) → ℕ
given_over o dones = sum_by (given_in o) dones

abbrev pub freed_over : ℕ → List (List Answered) → ℕ
freed_over o dones = sum_by (freed_in o) dones

abbrev pub held_over : ℕ → List (List Answered) → ℕ
held_over o dones = sum_by (λ (ds : List Answered). one_if (holding ds o)) dones

-- what causes of replies may rest on, once the round is over
abbrev pub outcome : World → List (List Answered) → Public
outcome after dones = record {
  boarded = λ o. boarded (after.board o);
  freed = λ o. freed_over o dones;
  tid = λ n. (after.cpu n).tid;
}

-- the round leads from one state to another, by these calls and replies of its workers
pub record IsRoundOnWords (m : Setup) (before after : World) (calls : List (List Call))
    (dones : List (List Answered)) : Type 0 where
  -- each call has its reply, and each reply its cause
  pub replies : map (λ (ds : List Answered). in_order ds []) dones ≡ calls
  pub causes : All (Caused m before.board (outcome after dones)) dones
  -- the board is the one before less what was taken from it
  pub board : (o : ℕ) → (after.board o ≡ None) ⊎ (after.board o ≡ before.board o)
  -- each number is on the board, held or freed as often as it was on the board before or was given;
  -- and that is once at most
  pub count : (o : ℕ) → boarded (after.board o) + held_over o dones + freed_over o dones
      ≡ boarded (before.board o) + given_over o dones
  pub once : (o : ℕ) → boarded (before.board o) + given_over o dones ≤ 1
  -- no transaction id falls, and each lack of a run is a NoFrames
  pub tids : (n : ℕ) → (before.cpu n).tid ≤ (after.cpu n).tid
  pub dry : (order : ℕ) → slice_index (pool_of after).dry order
      ≡ slice_index (pool_of before).dry order + sum_by (dry_in m order) dones
