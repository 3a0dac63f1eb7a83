-- `shrink_store`, `__kmem_cache_do_shrink` of Linux 6.1: shrinking a cache in the midst of a round.
use Rattle.std.specs.Prelude.{◌≡◌, ℕ, ◌+◌, MatchOption}
use Rattle.slub_trace.specs.declared.reply.Reply.{Reply}
use Rattle.slub_trace.specs.declared.reply.Reply.TheVariants.{NoSuchCache, Checked, Trimmed}
use Rattle.slub_lists.specs.State.{State}
use Rattle.slub_lists.specs.Alloc.{checked_of, named}
use Rattle.slub_lists.specs.Shrink.{ShrinksCache, slabs_of}

-- a cache that is not checked is shrunk, and the answer is how many slabs of it went, from a CPU or
-- from the node list
abbrev pub TrimsCache : State → ℕ → Reply → State → Type 0
TrimsCache s cache reply after =
    (discarded : ℕ) × (reply ≡ Trimmed discarded) × ShrinksCache s cache after
    × (slabs_of s cache ≡ discarded + slabs_of after cache)

-- the cache that the name at a place names is trimmed; where that isn't live or the cache is
-- checked, nothing changes
abbrev pub Trims : State → ℕ → Reply → State → Type 0
Trims s place reply after =
    MatchOption (named s place) ((reply ≡ NoSuchCache) × (after ≡ s)) (λ cache.
    MatchOption (checked_of s cache) (TrimsCache s cache reply after)
    (λ slabs. (reply ≡ Checked) × (after ≡ s)))
