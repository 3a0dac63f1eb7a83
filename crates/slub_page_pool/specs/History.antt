-- Histories of a pool: what was done to it, and which frames are out.
use Rattle.std.specs.Prelude.{ℕ, ◌-◌, ◌^◌, ◌<◌, ◌≤◌, ◌≡◌, ◌==◌, Bool, false, List, [], ◌∷◌, ◌++◌, Option, None, Some, All, count_by, slice_index}
use Rattle.std.specs.List.{range_with_len}
use Rattle.slub_common.specs.Times.{times}
use Rattle.slub_page_pool.specs.FreeFrames.{FreeFrames, opening}
use Rattle.slub_page_pool.specs.Block.{Takes, TakesOrNotes, CanPut, Puts, less_run}

-- a call of `take` or `take_or_note` with its answer, or a call of `put`
pub data Act : Type 0 where
  took : (order : ℕ) (answer : Option ℕ) → Act
  noted : (order : ℕ) (answer : Option ℕ) → Act
  returned : (frame order : ℕ) → Act

-- the call may be made, and it leaves the new pool; a noted take is one whose count has not come
-- to its end
abbrev pub Does : FreeFrames → Act → FreeFrames → Type 0
Does old (took order answer) new = (order ≤ 10) × Takes old order answer new
Does old (noted order answer) new =
    (order ≤ 10) × (slice_index old.dry order < 2 ^ 64 - 1) × TakesOrNotes old order answer new
Does old (returned frame order) new = CanPut old frame order × Puts old frame order new

-- the calls, one after another, lead to the new pool
abbrev pub Reaches : FreeFrames → List Act → FreeFrames → Type 0
Reaches old [] new = new ≡ old
Reaches old (act ∷ acts) new = (next : FreeFrames) × Does old act next × Reaches next acts new

-- the frames that are out after a take of `order`
abbrev pub out_with : List ℕ → ℕ → Option ℕ → List ℕ
out_with out order None = out
out_with out order (Some frame) = range_with_len frame (2 ^ order) ++ out

-- the frames that are out after one more call
abbrev pub out_after : List ℕ → Act → List ℕ
out_after out (took order answer) = out_with out order answer
out_after out (noted order answer) = out_with out order answer
out_after out (returned frame order) = less_run out frame order

-- the frames that are out after these calls, where those of `out` were out before
abbrev pub frames_out : List ℕ → List Act → List ℕ
frames_out out [] = out
frames_out out (act ∷ acts) = frames_out (out_after out act) acts

-- each frame from 1 to frames - 1 is free or out, once, and no other frame is
pub record IsPartition (frames : ℕ) (free out : List ℕ) : Type 0 where
  pub once : (g : ℕ) → 1 ≤ g → g < frames → times g (free ++ out) ≡ 1
  pub no_other : All (λ g. (1 ≤ g) × (g < frames)) (free ++ out)

-- every history of a pool of so many frames keeps its frames, each free or out
abbrev pub KeepsFrames : ℕ → Type 0
KeepsFrames frames =
    (acts : List Act) (pool : FreeFrames) → Reaches (opening frames) acts pool
    → IsPartition frames pool.free (frames_out [] acts)

-- and where no frame is out, the pool is as it was opened, but for its counts
abbrev pub ReopensWhenAllBack : ℕ → Type 0
ReopensWhenAllBack frames =
    (acts : List Act) (pool : FreeFrames) → Reaches (opening frames) acts pool
    → frames_out [] acts ≡ [] → pool ≡ record (opening frames) { dry = pool.dry }

-- a take of this order that found no block and was noted
abbrev pub is_dry : ℕ → Act → Bool
is_dry order (noted asked None) = asked == order
is_dry order (noted asked (Some frame)) = false
is_dry order (took asked answer) = false
is_dry order (returned frame asked) = false

-- the counts are of the noted takes that found no block, and of nothing else
abbrev pub CountsDryTakes : ℕ → Type 0
CountsDryTakes frames =
    (acts : List Act) (pool : FreeFrames) (order : ℕ) → Reaches (opening frames) acts pool
    → slice_index pool.dry order ≡ count_by (is_dry order) acts
