-- The run that a pool gives: the lowest block of the least order that has room.
use Rattle.std.specs.Prelude.{ℕ, zero, suc, ◌+◌, ◌-◌, ◌%◌, ◌^◌, Bool, true, false, not, ◌==◌, ◌&&◌, ◌||◌, nat_lt, if◌then◌else◌, List, [], ◌∷◌, Option, Some, None}
use Rattle.slub_page_pool.specs.FreeFrames.{FreeFrames}

-- ---- the least number with a property

-- of so many numbers from n on
abbrev pub least : (ℕ → Bool) → ℕ → ℕ → Option ℕ
least test zero n = None
least test (suc k) n = if test n then Some n else least test k (suc n)

-- ---- runs and blocks of free frames

abbrev pub has : List ℕ → ℕ → Bool
has [] g = false
has (f ∷ fs) g = (f == g) || has fs g

-- n frames from f on are free
abbrev pub has_all : List ℕ → ℕ → ℕ → Bool
has_all free zero f = true
has_all free (suc n) f = has free f && has_all free n (suc f)

abbrev pub is_run : List ℕ → ℕ → ℕ → Bool
is_run free f order = (f % 2 ^ order == 0) && has_all free (2 ^ order) f

-- it lies in no run of the next order, where there is one
abbrev pub is_block : List ℕ → ℕ → ℕ → Bool
is_block free f order = is_run free f order
    && not (nat_lt order 10 && is_run free (f - f % 2 ^ (order + 1)) (order + 1))

-- ---- the search

-- the lowest block of an order
abbrev pub lowest : List ℕ → ℕ → ℕ → Option ℕ
lowest free frames order = least (λ f. is_block free f order) frames 0

abbrev pub or_else : Option ℕ → Option ℕ → Option ℕ
or_else None other = other
or_else (Some f) other = Some f

-- of so many orders from one on the first that has a block
abbrev pub of_orders : List ℕ → ℕ → ℕ → ℕ → Option ℕ
of_orders free frames zero order = None
of_orders free frames (suc k) order =
    or_else (lowest free frames order) (of_orders free frames k (suc order))

abbrev pub take_of : FreeFrames → ℕ → Option ℕ
take_of pool order = of_orders pool.free pool.frames (11 - order) order
