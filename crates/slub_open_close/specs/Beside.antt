-- What stands beside the lists of a machine, and what it fits.
use Rattle.std.specs.Prelude.{◌≡◌, ℕ, ◌+◌, ◌/◌, ◌%◌, ◌^◌, ◌<◌, ◌≤◌, List, length, replicate, slice_index_or, IsSome}
use Rattle.slub_lists.specs.State.{State}
use Rattle.slub_lists.specs.Alloc.{cache_of}
use Rattle.slub_core.specs.Setup.{Means}
use Rattle.slub_law_opening.specs.Opening as opening
use Rattle.slub_law_opening.specs.Opening.{cpu_at}
use Rattle.slub_open_close.specs.declared.beside.Beside.{Beside}

-- as the definitions of opening have it, whatever the takes, the gifts and the orders are
abbrev pub beside_of : Beside → Means → opening.Beside
beside_of b means =
    record { tids = b.tids.items; links = b.links.items; step = b.step; means = means }

abbrev pub tid_at : Beside → ℕ → ℕ
tid_at b n = slice_index_or b.tids.items n 0

-- it fits the machine (`IsBeside` of `slub_law_opening`, which asks for takes, gifts and orders too)
pub record IsBesideOf (s : State) (b : Beside) : Type 0 where
  pub step : (s.cpus ≤ b.step) × (b.step ≤ 16)
  pub objects : (1 ≤ length s.board) × (length s.board ≤ 1048577)
  pub tids : length b.tids.items ≡ 512
  pub links : length b.links.items ≡ s.frames
  -- the transaction id of CPU c leaves c by the step, and a current slab can be detached
  pub tid : (n : ℕ) → tid_at b n < 2 ^ 32
  pub room : (n : ℕ) → IsSome (cpu_at s n).current → tid_at b n + b.step < 2 ^ 32
  pub remainder : (n : ℕ) → n < 512 → n % 16 < s.cpus → IsSome (cache_of s (n / 16))
      → tid_at b n % b.step ≡ n % 16
  pub link : (frame : ℕ) → slice_index_or b.links.items frame 0 < 2 ^ 16

-- ---- between rounds

-- no slab leads to another
abbrev pub first_links : ℕ → List ℕ
first_links frames = replicate frames 0
