-- `struct kmem_cache`, `kmem_cache_cpu`, `kmem_cache_node` and `slab` as plain lists: what
-- contracts see of the machine.
use Rattle.std.specs.Prelude.{ℕ, List, Option}
use Rattle.slub_page_pool.specs.FreeFrames.{FreeFrames}
use Rattle.slub_cache_create.specs.Table.{Table}
use Rattle.slub_red_zone.specs.State.{CheckedState}
use Rattle.slub_lists.specs.declared.lists.Slab.{Slab}
use Rattle.slub_lists.specs.declared.lists.CpuLists.{CpuLists}
use Rattle.slub_lists.specs.declared.lists.Held.{Held}

-- the machine between two steps
pub record State : Type 0 where
  -- how many frames and CPUs it has; frame 0 counts
  pub frames : ℕ
  pub cpus : ℕ
  pub pool : FreeFrames
  -- by frame: the live slab whose run begins there, and its own freelist, which a checked slab has
  -- not
  pub slabs : List (Option Slab)
  pub frees : List (List ℕ)
  -- the live names and caches
  pub table : Table
  -- by cache number and CPU
  pub cpu_lists : List CpuLists
  -- by cache number: the node's partial list, head first
  pub nodes : List (List ℕ)
  -- by cache number: of a live checked cache, the bytes of its slabs and what each object is
  pub checked : List (Option CheckedState)
  -- the words of the frames, as the holders of objects that are not checked wrote them
  pub memory : List ℕ
  -- by object number: the objects that were given and not freed
  pub board : List (Option Held)
  -- by object number: the objects that were freed in this round, each with the worker that freed it
  pub gone : List (Option Held)
  -- by cache number: how many of its objects are given and not freed
  pub live : List ℕ
