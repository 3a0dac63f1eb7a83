-- How a pool finds its blocks: for each run, which orders have a block in it.
use Rattle.std.specs.Prelude.{ℕ, zero, suc, ◌+◌, ◌-◌, ◌*◌, ◌/◌, ◌^◌, ◌<◌, ◌≤◌, ◌≡◌, ◌⊎◌, ◌==◌, ◌&&◌, Bool, false, if◌then◌else◌, List, length, slice_index, slice_index_or, bit_or}
use Rattle.slub_page_pool.specs.Marks.{AreMarks}

-- of two halves of this order: one block where both are whole, else the blocks of either
unfoldable pub joined : ℕ → ℕ → ℕ → ℕ
joined order left right =
    (if ((left == 2 ^ order) && (right == 2 ^ order)) then 2 ^ (order + 1) else bit_or left right)

-- bit q tells whether the run of this order at this place has a block of order q in it, were there
-- no other run
unfoldable pub orders_in : List Bool → ℕ → ℕ → ℕ
orders_in marks zero place = (if slice_index_or marks place false then 1 else 0)
orders_in marks (suc order) place =
    joined order (orders_in marks order (2 * place)) (orders_in marks order (2 * place + 1))

-- where that is kept: the runs of one order stand side by side, those of a greater order before
-- them
abbrev pub slot : ℕ → ℕ → ℕ
slot order place = 2 ^ (12 - order) + place

-- what is kept of the run of this order at this place: of a single frame its mark
abbrev pub kept_of : List Bool → List ℕ → ℕ → ℕ → ℕ
kept_of marks orders order place =
    (if order == 0 then (if slice_index_or marks place false then 1 else 0)
    else slice_index orders (slot order place))

-- what is kept is right of each run of 4096 frames up to order 10
pub record IsIndex (marks : List Bool) (orders : List ℕ) : Type 0 where
  pub size : length orders ≡ 4096
  pub right : (order place : ℕ) → order ≤ 10 → place < 2 ^ (12 - order)
      → kept_of marks orders order place ≡ orders_in marks order place

-- and of each run that has none of the frames from first to last
pub record IsIndexOutside (marks : List Bool) (orders : List ℕ) (first last : ℕ) : Type 0 where
  pub size : length orders ≡ 4096
  pub right : (order place : ℕ) → order ≤ 10 → place < 2 ^ (12 - order)
      → (place < first / 2 ^ order) ⊎ (last / 2 ^ order < place)
      → kept_of marks orders order place ≡ orders_in marks order place

-- the marks, the tree and the counts of a pool
pub record IsKept (marks : List Bool) (orders dry : List ℕ) : Type 0 where
  pub marks_kept : AreMarks marks dry
  pub index : IsIndex marks orders
