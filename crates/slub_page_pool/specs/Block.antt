-- Runs and blocks of free frames, and the steps of a pool.
use Rattle.std.specs.Prelude.{ℕ, ◌+◌, ◌%◌, ◌^◌, ◌<◌, ◌≤◌, ◌≡◌, List, ◌++◌, Option, None, Some, Contains, filter, ◌||◌, nat_lt, nat_le, slice_index, slice_set, ◌-◌, min}
use Rattle.std.specs.List.{range_with_len}
use Rattle.slub_page_pool.specs.FreeFrames.{FreeFrames}

-- 2 ^ order frames from a multiple of 2 ^ order on, all free
pub record IsFreeRun (free : List ℕ) (frame order : ℕ) : Type 0 where
  pub aligned : frame % 2 ^ order ≡ 0
  pub all_free : (g : ℕ) → frame ≤ g → g < frame + 2 ^ order → Contains free g

-- a free run of an order up to 10 that lies in no greater one
pub record IsBlock (free : List ℕ) (frame order : ℕ) : Type 0 where
  pub small : order ≤ 10
  pub run : IsFreeRun free frame order
  pub maximal : (e p : ℕ) → order < p → p ≤ 10 → IsFreeRun free e p → e ≤ frame
      → ¬ (frame < e + 2 ^ p)

-- what a take of `order` chooses: of the blocks of that order or a greater one, the least order
-- (`__rmqueue_smallest`), and then the lowest (profile)
pub record IsTaken (free : List ℕ) (order frame : ℕ) : Type 0 where
  pub found : ℕ
  pub enough : order ≤ found
  pub block : IsBlock free frame found
  pub least : (q e : ℕ) → order ≤ q → q < found → ¬ IsBlock free e q
  pub lowest : (e : ℕ) → e < frame → ¬ IsBlock free e found

-- no block of `order` or a greater order exists
abbrev pub HasNoBlock : List ℕ → ℕ → Type 0
HasNoBlock free order = (p e : ℕ) → order ≤ p → p ≤ 10 → ¬ IsBlock free e p

-- the free frames without the run of `order` at `frame`
abbrev pub less_run : List ℕ → ℕ → ℕ → List ℕ
less_run free frame order = filter (λ g. nat_lt g frame || nat_le (frame + 2 ^ order) g) free

-- the free frames together with that run, in rising order
abbrev pub with_run : List ℕ → ℕ → ℕ → List ℕ
with_run free frame order =
    filter (λ g. nat_lt g frame) free ++ range_with_len frame (2 ^ order)
    ++ filter (λ g. nat_le (frame + 2 ^ order) g) free

-- a take of `order` that answers with the front of the block, or with None where there is no block
abbrev pub Takes : FreeFrames → ℕ → Option ℕ → FreeFrames → Type 0
Takes old order None new = (new ≡ old) × HasNoBlock old.free order
Takes old order (Some frame) new =
    IsTaken old.free order frame × (new ≡ record old { free = less_run old.free frame order })

-- the same, and None is counted, up to 2 ^ 64 - 1
abbrev pub TakesOrNotes : FreeFrames → ℕ → Option ℕ → FreeFrames → Type 0
TakesOrNotes old order None new =
    let count = min (slice_index old.dry order + 1) (2 ^ 64 - 1) in
    (new ≡ record old { dry = slice_set old.dry order count }) × HasNoBlock old.free order
TakesOrNotes old order (Some frame) new = Takes old order (Some frame) new

-- the run of `order` at `frame` can come back: it lies among the frames 1 to frames - 1, and none
-- of it is free
pub record CanPut (pool : FreeFrames) (frame order : ℕ) : Type 0 where
  pub small : order ≤ 10
  pub aligned : frame % 2 ^ order ≡ 0
  pub positive : 1 ≤ frame
  pub inside : frame + 2 ^ order ≤ pool.frames
  pub none_free : (g : ℕ) → frame ≤ g → g < frame + 2 ^ order → ¬ Contains pool.free g

-- the run comes back
abbrev pub Puts : FreeFrames → ℕ → ℕ → FreeFrames → Type 0
Puts old frame order new = new ≡ record old { free = with_run old.free frame order }
