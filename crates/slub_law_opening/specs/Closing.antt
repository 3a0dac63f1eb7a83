-- The lists into which a machine in words closes when no worker of it is in a call.
use Rattle.std.specs.Prelude.{◌≡◌, ℕ, ◌*◌, ◌%◌, ◌^◌, ◌<◌, ◌≤◌, length, Option, Some, None, IfSome, All}
use Rattle.slub_lists.specs.State.{State}
use Rattle.slub_lists.specs.Alloc.{slab_of, own_free, cache_of, checked_of, node_of}
use Rattle.slub_lists.specs.Coherent as plain
use Rattle.slub_red_zone.specs.State.{CheckedState}
use Rattle.slub_core.specs.Setup.{node_lock}
use Rattle.slub_core.specs.World.{LockValue, Nothing, Node, Checked, Pool, world_of}
use Rattle.slub_core.specs.Run.{System}
use Rattle.slub_law_opening.specs.Opening.{Beside, setup_of, link_of, cpu_at}
use Rattle.slub_law_opening.specs.Rests.{IsBetween}
use Rattle.slub_law_opening.specs.Table.{RestsIn}

-- every list has its length
pub record HasLengths (s : State) : Type 0 where
  pub slabs : length s.slabs ≡ s.frames
  pub frees : length s.frees ≡ s.frames
  pub cpu_lists : length s.cpu_lists ≡ 32 * s.cpus
  pub nodes : length s.nodes ≡ 32
  pub checked : length s.checked ≡ 32
  pub memory : length s.memory ≡ 512 * s.frames
  pub gone : length s.gone ≡ length s.board
  pub live : length s.live ≡ 32

-- s and b were opened into the machine, t and d are what it closes into. Of an object that a
-- worker holds still, the lists say which worker
pub record Closes (s : State) (b : Beside) (system : System) (t : State) (d : Beside) : Type 0 where
  -- the sizes, the names and the caches are as they were
  pub stays : setup_of t d ≡ setup_of s b
  pub table : t.table ≡ s.table
  pub lengths : HasLengths t
  -- slabs, freelists, partial lists, free frames, checked slabs, objects and their words, and the
  -- transaction ids
  pub rests : RestsIn t d system
  pub tids : length d.tids ≡ 512
  pub links : length d.links ≡ t.frames
  pub link : (frame : ℕ) → link_of d frame < 2 ^ 16
  -- the counts of objects by cache, and the flags of the checked slabs
  pub live : plain.IsAccounted t
  pub flags : (cache : ℕ) → IfSome (checked_of t cache)
      (λ slabs. IfSome (cache_of t cache) (λ live. live.flags ≡ slabs.flags))

-- two machines on lists differ in nothing but words of frames, the order of names, and what was
-- freed in this round
pub record AreAlike (s t : State) : Type 0 where
  pub pool : s.pool ≡ t.pool
  pub slab : (frame : ℕ) → slab_of s frame ≡ slab_of t frame
  pub own : (frame : ℕ) → own_free s frame ≡ own_free t frame
  pub cpu : (n : ℕ) → n < 512 → cpu_at s n ≡ cpu_at t n
  pub node : (cache : ℕ) → cache < 32 → node_of s cache ≡ node_of t cache
  pub checked : (cache : ℕ) → cache < 32 → checked_of s cache ≡ checked_of t cache
  pub board : (object : ℕ) → plain.held_under s object ≡ plain.held_under t object

-- ---- when it closes

-- what a lock guards of a checked cache
abbrev pub checked_in : LockValue → Option CheckedState
checked_in Nothing = None
checked_in (Node frames) = None
checked_in (Checked slabs) = Some slabs
checked_in (Pool pool) = None

-- no worker is in a call, and what the machine is to have left alone is as it was: words of CPUs
-- that it hasn't, and the flags of checked slabs
pub record MayClose (s : State) (b : Beside) (system : System) : Type 0 where
  pub between : All (IsBetween (setup_of s b)) system.locals
  pub idle : (n : ℕ) → n < 512 → s.cpus ≤ n % 16
      → let w = world_of (setup_of s b) system.value system.words in
      ((w.cpu n).frame ≡ 0) × ((w.list n).count ≡ 0)
  pub flags : (cache : ℕ) → IfSome (checked_in (system.value (node_lock cache)))
      (λ slabs. IfSome (cache_of s cache) (λ live. live.flags ≡ slabs.flags))
