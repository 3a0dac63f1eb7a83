-- `kmem_cache_free`, `slab_free` of Linux 6.1: freeing what a number names (numbers are profile).
use Rattle.std.specs.Prelude.{◌≡◌, ℕ, None, MatchBool, MatchOption, slice_index_or}
use Rattle.slub_lists.specs.declared.lists.Held.{Held}
use Rattle.slub_trace.specs.declared.reply.Reply.{Reply}
use Rattle.slub_trace.specs.declared.reply.Reply.TheVariants.{NotHeld}
use Rattle.slub_lists.specs.State.{State}
use Rattle.slub_lists.specs.Alloc.{cache_of, checked_of}
use Rattle.slub_lists.specs.Checked.{FreesChecked}
use Rattle.slub_lists.specs.Free.{FreesUnchecked, is_freeable}

-- an object that was given is freed on a CPU, checked or not
abbrev pub FreesHeld : State → ℕ → ℕ → ℕ → Held → Reply → State → Type 0
FreesHeld s cpu worker object held reply after =
    MatchOption (cache_of s held.cache) ⊥ (λ live.
    MatchOption (checked_of s held.cache)
    (FreesUnchecked s live.layout cpu worker object held reply after)
    (λ slabs. FreesChecked s live.layout slabs worker object held reply after))

-- a free answers that the number isn't held, exactly where it names nothing that the worker holds
-- or that is on the board
abbrev pub Frees : State → ℕ → ℕ → ℕ → Reply → State → Type 0
Frees s cpu worker object reply after =
    MatchOption (slice_index_or s.board object None) ((reply ≡ NotHeld) × (after ≡ s)) (λ held.
    MatchBool (is_freeable worker held.worker) (FreesHeld s cpu worker object held reply after)
    ((reply ≡ NotHeld) × (after ≡ s)))
