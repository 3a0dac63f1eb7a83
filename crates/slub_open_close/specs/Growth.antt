-- What an item other than a round leaves of the transaction ids of the CPU words.
use Rattle.std.specs.Prelude.{ℕ, ◌+◌, ◌/◌, ◌==◌, ◌&&◌, if◌then◌else◌, List, map, Option, Some, None, is_some, Ok}
use Rattle.std.specs.List.{range_with_len}
use Rattle.slub_object_layout.specs.declared.layout.Setting.TheVariants.{CpuPartial}
use Rattle.slub_cache_create.specs.Table.{number_of}
use Rattle.slub_trace.specs.declared.create.Created.TheVariants.{New}
use Rattle.slub_lists.specs.State.{State}
use Rattle.slub_law_opening.specs.Opening.{cpu_at}
use Rattle.slub_trace.specs.declared.trace.Item.{Item}
use Rattle.slub_trace.specs.declared.trace.Item.TheVariants as item
use Rattle.slub_trace.specs.declared.trace.Trace.{Trace}
use Rattle.slub_trace.specs.Ranges.{step_of}
use Rattle.slub_slabinfo_text.specs.declared.journal.Done.{Done}
use Rattle.slub_slabinfo_text.specs.declared.journal.Done.TheVariants as done
use Rattle.slub_slabinfo_text.specs.Lawful.{name_at}
use Rattle.slub_open_close.specs.Ids.{first_id, id_at}

-- the words of a cache that is made begin at the first ids of their CPUs (`init_tid`)
abbrev pub with_first : ℕ → ℕ → ℕ → List ℕ → List ℕ
with_first first cpus cache ids =
    map (λ n. if n / 16 == cache then first_id first cpus n else id_at ids n)
    (range_with_len 0 512)

-- each current slab of a cache that is detached changes the word of its CPU once (`flush_slab`)
abbrev pub with_detached : State → ℕ → List ℕ → List ℕ
with_detached s cache ids =
    map (λ n. if (n / 16 == cache) && is_some (cpu_at s n).current
    then id_at ids n + step_of s.cpus else id_at ids n)
    (range_with_len 0 512)

-- the same of a name's cache
abbrev pub with_detached_of : State → Option ℕ → List ℕ → List ℕ
with_detached_of s None ids = ids
with_detached_of s (Some cache) ids = with_detached s cache ids

-- a new cache begins; a shrink, and a tune of what the lists of CPUs hold, detach what is current
-- of their cache; no other item but a round changes the word of a live cache. (A destroy detaches,
-- too, but then the cache's words are nobody's, until one is made that begins anew)
abbrev pub ids_after : Trace → State → Item → Done → List ℕ → List ℕ
ids_after trace s (item.Cache place spec) (done.Created (Ok (New cache))) ids =
    with_first trace.tid s.cpus cache ids
ids_after trace s (item.Shrink place) (done.Shrunk (Ok remain)) ids =
    with_detached_of s (number_of s.table (name_at trace place)) ids
ids_after trace s (item.Tune place (CpuPartial objects)) (done.Tuned (Ok answer)) ids =
    with_detached_of s (number_of s.table (name_at trace place)) ids
ids_after trace s item done ids = ids
