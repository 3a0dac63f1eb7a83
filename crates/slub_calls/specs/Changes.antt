-- How often an act changes which CPU words, and which ids it leaves beside the lists.
use Rattle.std.specs.Prelude.{ℕ, ◌+◌, ◌*◌, ◌/◌, ◌%◌, ◌==◌, ◌&&◌, Bool, if◌then◌else◌, length, map, is_some, slice_set}
use Rattle.std.specs.List.{range_with_len}
use Rattle.std.specs.Option.{option_map_or}
use Rattle.slub_trace.specs.declared.event.Act.{Act}
use Rattle.slub_trace.specs.declared.event.Act.TheVariants as act
use Rattle.slub_trace.specs.declared.reply.Reply.{Reply}
use Rattle.slub_trace.specs.Kinds.{is_given}
use Rattle.slub_lists.specs.declared.lists.Held.{Held}
use Rattle.slub_lists.specs.State.{State}
use Rattle.slub_lists.specs.Alloc.{checked_of, lists_of, named}
use Rattle.slub_lists.specs.Coherent.{held_under}
use Rattle.slub_lists.specs.Free.{is_current, is_freeable}
use Rattle.slub_core.specs.Setup.{cpu_number}
use Rattle.slub_core.specs.World.{one_if}
use Rattle.slub_law_opening.specs.Opening.{Beside, cpu_at, tid_of}

-- ---- an allocation

-- so often it changes the CPU's word of the cache before it is given an object: once where the
-- CPU's freelist is empty and a slab is current, whose own freelist is taken or which goes
-- (`get_freelist`, `deactivate_slab`)
abbrev pub changes_before_giving : State → ℕ → ℕ → ℕ
changes_before_giving s cache cpu = let lists = lists_of s cache cpu in
    one_if ((length lists.free == 0) && is_some lists.current)

-- so often an allocation changes the word: once more for the object that is given. The words of a
-- checked cache never change
abbrev pub changes_of_alloc : State → ℕ → ℕ → Bool → ℕ
changes_of_alloc s cache cpu given = if is_some (checked_of s cache) then 0
    else changes_before_giving s cache cpu + one_if given

-- ---- a free

-- so often a free by this worker changes a CPU word: once where it may free the object, whose slab
-- is current on the CPU. The words of a checked cache never change
abbrev pub changes_of_held : State → ℕ → ℕ → Held → ℕ
changes_of_held s cpu worker held = if is_some (checked_of s held.cache) then 0
    else one_if (is_freeable worker held.worker
    && is_current held.frame (lists_of s held.cache cpu).current)

abbrev pub changes_of_free : State → ℕ → ℕ → ℕ → ℕ
changes_of_free s cpu worker object =
    option_map_or (changes_of_held s cpu worker) (held_under s object) 0

-- the word is the CPU's of the object's cache; where the number names nothing, none is changed
abbrev pub word_of_free : State → ℕ → ℕ → ℕ
word_of_free s cpu object =
    option_map_or (λ (held : Held). cpu_number held.cache cpu) (held_under s object) 0

-- ---- a trim, a flush

-- the words of a cache whose CPUs have a current slab of it
abbrev pub has_slab_of : State → ℕ → ℕ → Bool
has_slab_of s cache n = (n / 16 == cache) && is_some (cpu_at s n).current

-- the words of a CPU that has a current slab of their caches
abbrev pub has_slab_on : State → ℕ → ℕ → Bool
has_slab_on s cpu n = (n % 16 == cpu) && is_some (cpu_at s n).current

-- ---- what stands beside the lists

-- one CPU word was changed so many times, and its transaction id grew by a step each time
abbrev pub grown : Beside → ℕ → ℕ → Beside
grown b n times = record b { tids = slice_set b.tids n (tid_of b n + times * b.step) }

-- each of these CPU words was changed once, and its transaction id grew by the step
abbrev pub grown_where : Beside → (ℕ → Bool) → Beside
grown_where b changed = record b {
  tids = map (λ n. tid_of b n + (if changed n then b.step else 0))
      (range_with_len 0 (length b.tids));
}

-- an act by a worker on a CPU that has this reply leaves this beside the lists. An allocation or a
-- free makes so many changes of one CPU word, if any. A trim changes each word of its cache that
-- has a current slab once, and a flush each such word of its CPU
abbrev pub beside_after : State → Beside → ℕ → ℕ → Act → Reply → Beside
beside_after s b worker cpu (act.Alloc place object) reply =
    option_map_or
    (λ cache. grown b (cpu_number cache cpu) (changes_of_alloc s cache cpu (is_given reply)))
    (named s place) b
beside_after s b worker cpu (act.Free object) reply =
    grown b (word_of_free s cpu object) (changes_of_free s cpu worker object)
beside_after s b worker cpu (act.Write word object value) reply = b
beside_after s b worker cpu (act.Read word object) reply = b
beside_after s b worker cpu (act.Poke object offset byte) reply = b
beside_after s b worker cpu (act.Trim place) reply =
    option_map_or (λ cache. grown_where b (has_slab_of s cache)) (named s place) b
beside_after s b worker cpu act.Flush reply = grown_where b (has_slab_on s cpu)
