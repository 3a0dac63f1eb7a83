-- Each slab, each frame and each lock is in exactly one role.
use Rattle.std.specs.Prelude.{◌≡◌, ◌≢◌, ℕ, ◌+◌, ◌-◌, ◌/◌, ◌%◌, ◌^◌, ◌<◌, ◌≤◌, true, false, ◌&&◌, ◌==◌, nat_lt, cond, List, [], ◌∷◌, length, sum_by, Option, Some, None, ◌⊎◌}
use Rattle.slub_common.specs.Times.{times}
use Rattle.slub_page_pool.specs.FreeFrames.{IsPool}
use Rattle.slub_object_layout.specs.declared.layout.Layout.{Layout}
use Rattle.slub_red_zone.specs.State.{CheckedState}
use Rattle.slub_red_zone.specs.Sound.{IsSound}
use Rattle.slub_words.specs.declared.slab.SlabWord.{SlabWord}
use Rattle.slub_words.specs.declared.board.BoardWord.{BoardWord}
use Rattle.slub_core.specs.declared.local.Hand.{Hand}
use Rattle.slub_core.specs.declared.local.FrameRun.{FrameRun}
use Rattle.slub_core.specs.Setup.{Setup, IsPlain, node_lock, pool_lock}
use Rattle.slub_core.specs.World.{World, Chains, LockValue, Nothing, Node, Checked, Pool, pool_of, frames_in, size_in, objects_at, cache_at, order_at, one_if, sum_below, live, off_list, in_run, covers, Links}
use Rattle.slub_core.specs.Local.{Worker, hand_of}
use Rattle.slub_core.specs.Spots.{has_node, has_pool, is_marked}
use Rattle.slub_object_layout.specs.Layout.{IsSized}

-- ---- slabs

-- how often a slab is one of these
abbrev pub hands_count : ℕ → List Hand → ℕ
hands_count f [] = 0
hands_count f (h ∷ hs) = one_if (h.frame == f) + hands_count f hs

-- how often a slab is in a worker's hand or in its string
abbrev pub home_of : ℕ → Worker → ℕ
home_of f x = hands_count f x.local.hands + times f x.string

-- the roles of a slab: current on a CPU, on a CPU's partial list, on a node list, in a hand or in a
-- string in hand
abbrev pub on_lists : World → Chains → ℕ → ℕ
on_lists w y f = sum_below w.setup.cpu_words (λ n. times f (y.list n))
    + sum_below w.setup.locks (λ n. times f (frames_in (w.value n)))

abbrev pub homes : World → Chains → List Worker → ℕ → ℕ
homes w y xs f = sum_by (home_of f) xs
    + sum_below w.setup.cpu_words (λ n. one_if ((w.cpu n).frame == f)) + on_lists w y f

-- 1 where a slab in hand is marked as listed
abbrev pub marked_of : ℕ → Worker → ℕ
marked_of f x = cond (is_marked x.local.spot) (one_if ((hand_of x.local).frame == f)) 0

-- ---- frames

abbrev pub covered_by : ℕ → Option FrameRun → ℕ
covered_by g None = 0
covered_by g (Some run) = in_run g run.frame run.order

-- how often a frame is free, in the run of a slab, or in a run in hand
abbrev pub frame_roles : World → List Worker → ℕ → ℕ
frame_roles w xs g =
    times g (pool_of w).free + sum_below w.setup.frames (λ f. covers w g f)
    + sum_by (λ (x : Worker). covered_by g x.local.run) xs

-- ---- locks

-- how often a worker has a lock
abbrev pub takes : ℕ → Worker → ℕ
takes n x =
    cond (has_node x.local.spot) (one_if (node_lock x.local.cache == n)) 0
    + cond (has_pool x.local.spot) (one_if (pool_lock == n)) 0

-- ---- what a lock guards

pub record IsCheckedOf (m : Setup) (cache : ℕ) (slabs : CheckedState) : Type 0 where
  pub sound : IsSound slabs
  pub number : slabs.cache ≡ cache
  pub layout : record slabs.layout { min_partial = (m.layout cache).min_partial } ≡ m.layout cache

-- the pool, the slabs of a checked cache, or the node list of an unchecked one
abbrev pub IsGuarded : Setup → ℕ → LockValue → Type 0
IsGuarded m n Nothing = (cache : ℕ) × (n ≡ node_lock cache) × (m.lives cache ≡ false)
IsGuarded m n (Pool pool) = (n ≡ pool_lock) × IsPool pool × (pool.frames ≡ m.frames)
IsGuarded m n (Checked slabs) = (cache : ℕ) × (n ≡ node_lock cache) × (m.lives cache ≡ true)
    × (m.checks cache ≡ true) × IsCheckedOf m cache slabs
IsGuarded m n (Node frames) = (cache : ℕ) × (n ≡ node_lock cache) × (m.lives cache ≡ true)
    × (m.checks cache ≡ false) × (length frames ≤ m.frames - 1)

-- ---- the whole

-- a slab that is to be on a list has an object to give, and is of the list's cache
pub record IsStocked (s : SlabWord) (cache : ℕ) : Type 0 where
  pub owner : s.cache ≡ cache
  pub head : 1 ≤ s.head
  pub unfrozen : s.frozen ≡ false

-- the slabs and the lists by their words and the values of the locks alone
pub record IsShaped (w : World) (y : Chains) : Type 0 where
  -- frame 0 is no slab
  pub no_slab : objects_at w 0 ≡ 0
  pub no_lists : on_lists w y 0 ≡ 0
  -- a marked slab has an object to give, and isn't frozen
  pub marks : (f : ℕ) → (w.slab f).listed ≡ true → (1 ≤ (w.slab f).head)
      × ((w.slab f).frozen ≡ false)
  -- a current slab is frozen, and of the CPU word's cache; a CPU without a slab has no freelist
  pub current : (n : ℕ) → n < w.setup.cpu_words → (w.cpu n).frame ≢ 0
      → ((w.slab (w.cpu n).frame).cache ≡ n / 16) × ((w.slab (w.cpu n).frame).frozen ≡ true)
  pub bare : (n : ℕ) → n < w.setup.cpu_words → (w.cpu n).frame ≡ 0 → (w.cpu n).head ≡ 0
  -- a partial list is the string of its front and its count; its slabs are unmarked
  pub string : (n : ℕ) → n < w.setup.cpu_words → Links w.link (w.list n).front (y.list n) 0
  pub count : (n : ℕ) → n < w.setup.cpu_words → (w.list n).count ≡ length (y.list n)
  pub partial : (n f : ℕ) → n < w.setup.cpu_words → 1 ≤ times f (y.list n)
      → IsStocked (w.slab f) (n / 16) × ((w.slab f).listed ≡ false)
  -- the slabs of a node list
  pub node : (cache f : ℕ) → node_lock cache < w.setup.locks
      → 1 ≤ times f (frames_in (w.value (node_lock cache))) → IsStocked (w.slab f) cache
  -- what isn't in use of a slab is on its own freelist
  pub counted : (f : ℕ) → (w.slab f).inuse + length (y.own f) ≡ (w.slab f).objects
  -- a slab is of a live unchecked cache, of its order or of its least one, at a multiple of its
  -- frames
  pub plain : (f : ℕ) → 1 ≤ (w.slab f).objects → IsPlain w.setup (w.slab f).cache
  pub sized : (f : ℕ) → 1 ≤ (w.slab f).objects
      → IsSized (w.setup.layout (w.slab f).cache) (order_at w f) (w.slab f).objects
  pub aligned : (f : ℕ) → 1 ≤ objects_at w f → f % 2 ^ order_at w f ≡ 0
  -- it lies among the frames
  pub within : (f : ℕ) → 1 ≤ objects_at w f → f < w.setup.frames
  -- or it is in one checked cache's value, and has no word
  pub alone : (f : ℕ) → live (w.slab f)
      + sum_below w.setup.locks (λ n. one_if (nat_lt 0 (size_in (w.value n) f))) ≤ 1
  -- where no slab begins, the word is 0
  pub unslabbed : (f : ℕ) → (w.slab f).objects ≡ 0 → ((w.slab f).head ≡ 0)
      × ((w.slab f).frozen ≡ false) × ((w.slab f).listed ≡ false)
  pub guarded : (n : ℕ) → n < w.setup.locks → IsGuarded w.setup n (w.value n)
  -- a board word is of an object of its slab's cache
  pub board : (o : ℕ) (b : BoardWord) → o < w.setup.objects → w.board o ≡ Some b
      → b.cache ≡ cache_at w b.frame

pub record IsListed (w : World) (y : Chains) (xs : List Worker) : Type 0 where
  -- each live unchecked slab is in one role; it is on no list where it is unfrozen and unmarked and
  -- has no object to give
  pub once : (f : ℕ) → f ≢ 0 → homes w y xs f + off_list (w.slab f) ≡ live (w.slab f)
  -- the marked slabs are those of the node lists, and what is on its way to one or from one
  pub marked : (f : ℕ) → sum_by (marked_of f) xs
      + sum_below w.setup.locks (λ n. times f (frames_in (w.value n))) ≡ one_if (w.slab f).listed
  -- each frame but frame 0 is free, in the run of one slab, or in one run in hand
  pub framed : (g : ℕ) → frame_roles w xs g ≡ one_if (nat_lt 0 g && nat_lt g w.setup.frames)
  -- each lock is free, or one worker has it
  pub locked : (n : ℕ) → n < w.setup.locks → sum_by (takes n) xs + one_if (w.lock n == 0) ≡ 1
  pub shaped : IsShaped w y
