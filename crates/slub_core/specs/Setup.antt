-- What stays while a round runs: the sizes of the machine, its live caches, and where objects lie.
use Rattle.std.specs.Prelude.{◌≡◌, ℕ, ◌+◌, ◌*◌, ◌/◌, ◌<◌, ◌≤◌, ◌==◌, Bool, true, false, List, length, if◌then◌else◌, Option, Some, None, All}
use Rattle.slub_object_layout.specs.declared.layout.Layout.{Layout}
use Rattle.slub_object_layout.specs.Layout.{address_of, IsWithinBounds}
use Rattle.slub_words.specs.Words.{freelist_ptr, steps_from_one}
use Rattle.slub_page_pool.specs.FreeFrames.{FreeFrames, IsPool}
use Rattle.slub_page_pool.specs.Block.{Takes, less_run}
use Rattle.slub_red_zone.specs.State.{CheckedState}
use Rattle.slub_red_zone.specs.Sound.{IsSound}
use Rattle.slub_red_zone.specs.Steps.{Gives}
use Rattle.slub_red_zone.specs.declared.checked.CheckedGive.{CheckedGive}
use Rattle.slub_node_partial.specs.Promotion.{IsPromoted}

-- ---- what is found in a pool, a checked cache and a node list

-- the pool without what a take found
abbrev pub pool_after : FreeFrames → ℕ → Option ℕ → FreeFrames
pool_after pool order None = pool
pool_after pool order (Some frame) = record pool { free = less_run pool.free frame order }

-- the run that a take finds, what a checked cache gives, and the new order of a node list, as
-- functions
pub record Means : Type 0 where
  pub take : FreeFrames → ℕ → Option ℕ
  pub takes : (pool : FreeFrames) (order : ℕ) → IsPool pool → order ≤ 10
      → Takes pool order (take pool order) (pool_after pool order (take pool order))
  pub gave : CheckedState → CheckedGive
  pub give : CheckedState → CheckedState
  pub gives : (s : CheckedState) → IsSound s → Gives s (gave s) (give s)
  pub promote : List ℕ → List ℕ → List ℕ
  pub promotes : (frames counts : List ℕ) → length counts ≡ length frames
      → IsPromoted frames counts (promote frames counts)

-- ---- the machine

pub record Setup : Type 0 where
  -- frame 0 counts; CPUs, and what each change adds to a transaction id
  pub frames : ℕ
  pub cpus : ℕ
  pub step : ℕ
  -- object numbers are below this one; 0 is none
  pub objects : ℕ
  -- how many locks there are, how many CPU words, and as many list words
  pub locks : ℕ
  pub cpu_words : ℕ
  -- the live caches that aren't checked, oldest first; of each live cache its layout, as last
  -- tuned, and whether it is checked
  pub plain : List ℕ
  pub lives : ℕ → Bool
  pub layout : ℕ → Layout
  pub checks : ℕ → Bool
  pub means : Means

-- a live cache that isn't checked, and one that is
abbrev pub IsPlain : Setup → ℕ → Type 0
IsPlain m cache = (cache < 32) × (m.lives cache ≡ true) × (m.checks cache ≡ false)

abbrev pub IsChecked : Setup → ℕ → Type 0
IsChecked m cache = (cache < 32) × (m.lives cache ≡ true) × (m.checks cache ≡ true)

-- the sizes are those of a machine (profile)
pub record IsSetup (m : Setup) : Type 0 where
  pub frames : (2 ≤ m.frames) × (m.frames ≤ 4096)
  pub cpus : (1 ≤ m.cpus) × (m.cpus ≤ 16)
  pub step : (m.cpus ≤ m.step) × (m.step ≤ 16)
  pub objects : m.objects ≤ 1048577
  pub locks : m.locks ≡ 33
  pub cpu_words : m.cpu_words ≡ 512
  pub plain : All (IsPlain m) m.plain
  pub layout : (cache : ℕ) → m.lives cache ≡ true
      → IsWithinBounds (record (m.layout cache) { min_partial = 5; cpu_partial_slabs = 0 })
  pub live : (cache : ℕ) → m.lives cache ≡ true → cache < 32
  pub checked : (cache : ℕ) → m.checks cache ≡ true → m.lives cache ≡ true

-- ---- where things stand

-- the CPU word and the list word of a cache and a CPU have this number among theirs
abbrev pub cpu_number : ℕ → ℕ → ℕ
cpu_number cache cpu = 16 * cache + cpu

-- the number of a cache's node lock
abbrev pub node_lock : ℕ → ℕ
node_lock cache = cache + 1

-- the number of the pool's lock
abbrev pub pool_lock : ℕ
pool_lock = 0

-- the memory word of an object's free pointer, and one of its own words
abbrev pub pointer_at : Setup → ℕ → ℕ → ℕ → ℕ
pointer_at m cache frame index =
    (address_of frame index (m.layout cache) + (m.layout cache).offset) / 8

abbrev pub word_at : Setup → ℕ → ℕ → ℕ → ℕ → ℕ
word_at m cache frame index word = address_of frame index (m.layout cache) / 8 + word

-- a free pointer as it is stored at a memory word, and what is stored there (`freelist_ptr`,
-- hardened)
abbrev pub hardened : ℕ → ℕ → ℕ → ℕ
hardened cache place pointer = freelist_ptr pointer (steps_from_one (cache + 1)) (8 * place)
