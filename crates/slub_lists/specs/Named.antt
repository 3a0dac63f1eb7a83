-- `kmem_cache_alloc`, `slab_alloc_node` of Linux 6.1: allocating from the cache that a name names.
use Rattle.std.specs.Prelude.{◌≡◌, ℕ, MatchOption}
use Rattle.slub_object_layout.specs.declared.layout.Layout.{Layout}
use Rattle.slub_trace.specs.declared.reply.Reply.{Reply}
use Rattle.slub_trace.specs.declared.reply.Reply.TheVariants.{NoSuchCache}
use Rattle.slub_lists.specs.State.{State}
use Rattle.slub_lists.specs.Alloc.{Allocates, cache_of, checked_of, named}
use Rattle.slub_lists.specs.Checked.{AllocatesChecked}

-- from a live cache of this layout, checked or not
abbrev pub AllocatesFrom : State → Layout → ℕ → ℕ → ℕ → ℕ → Reply → State → Type 0
AllocatesFrom s layout cache cpu worker object reply after =
    MatchOption (checked_of s cache) (Allocates s layout cache cpu worker object reply after)
    (λ slabs. AllocatesChecked s layout cache slabs worker object reply after)

-- from the live cache that the name at a place names
abbrev pub AllocatesNamed : State → ℕ → ℕ → ℕ → ℕ → Reply → State → Type 0
AllocatesNamed s place cpu worker object reply after =
    MatchOption (named s place) ((reply ≡ NoSuchCache) × (after ≡ s))
    (λ cache. MatchOption (cache_of s cache) ⊥
    (λ live. AllocatesFrom s live.layout cache cpu worker object reply after))
