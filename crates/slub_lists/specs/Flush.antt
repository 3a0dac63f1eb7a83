-- `slub_cpu_dead`, `__flush_cpu_slab` of Linux 6.1: emptying a CPU in the midst of a round.
use Rattle.std.specs.Prelude.{◌≡◌, ℕ, ◌+◌, if◌then◌else◌, is_some, length, sum_by, fold}
use Rattle.slub_trace.specs.declared.reply.Reply.{Reply}
use Rattle.slub_trace.specs.declared.reply.Reply.TheVariants.{Flushed}
use Rattle.slub_lists.specs.declared.lists.CpuLists.{CpuLists}
use Rattle.slub_lists.specs.State.{State}
use Rattle.slub_lists.specs.Alloc.{checked_of, lists_of}
use Rattle.slub_lists.specs.Shrink.{flushed, min_partial_of}

-- how many slabs a CPU has of a cache: its current one, and those of its partial list
abbrev pub slabs_on : CpuLists → ℕ
slabs_on lists = (if is_some lists.current then 1 else 0) + length lists.partial

-- how many it has of all caches
abbrev pub slabs_on_cpu : State → ℕ → ℕ
slabs_on_cpu s cpu = sum_by (λ cache. slabs_on (lists_of s cache cpu)) s.table.ages

-- a CPU has nothing of a cache any more; of a checked cache it never has
abbrev pub flushed_of : ℕ → State → ℕ → State
flushed_of cpu s cache =
    if is_some (checked_of s cache) then s else flushed (min_partial_of s cache) cache s cpu

-- it has nothing of any cache, the oldest first (profile)
abbrev pub flushed_cpu : State → ℕ → State
flushed_cpu s cpu = fold (flushed_of cpu) s s.table.ages

-- a CPU is flushed, and the answer is how many slabs it had, discarded since or not
pub record Flushes (s : State) (cpu : ℕ) (reply : Reply) (after : State) : Type 0 where
  pub moved : reply ≡ Flushed (slabs_on_cpu s cpu)
  pub steps : after ≡ flushed_cpu s cpu
