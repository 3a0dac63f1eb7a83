-- The steps of a round.
use Rattle.std.specs.Prelude.{◌≡◌, ℕ, ◌+◌, ◌<◌, ◌≤◌, List, length, drop, flat_map, is_some, map, sum_by, if◌then◌else◌, slice_index, slice_index_or, slice_set}
use Rattle.std.specs.List.{Contains, list_any}
use Rattle.std.specs.Option.{option_map_or}
use Rattle.slub_trace.specs.declared.event.Act.{Act}
use Rattle.slub_trace.specs.declared.event.Act.TheVariants.{Alloc, Free, Write, Read, Poke, Trim, Flush}
use Rattle.slub_trace.specs.declared.event.Event.{Event}
use Rattle.slub_trace.specs.declared.damage.Report.{Report}
use Rattle.slub_trace.specs.declared.reply.Reply.{Reply}
use Rattle.slub_lists.specs.State.{State}
use Rattle.slub_slabinfo_text.specs.declared.journal.Found.{Found}
use Rattle.slub_trace.specs.declared.ledger.Ledger.{Ledger}
use Rattle.slub_slabinfo_text.specs.Lawful.{IsUnheld, cache_numbers, lacks, reports_of, title_of}
use Rattle.slub_trace.specs.Kinds.{is_freed, is_given}

-- an act under a number that the machine has, an allocation or a trim of a name of it
abbrev pub IsKnownAct : State → Act → Type 0
IsKnownAct s (Alloc place object) =
    (place < length s.table.kept) × (1 ≤ object) × (object < length s.board)
IsKnownAct s (Free object) = object < length s.board
IsKnownAct s (Write word object value) = (object < length s.board) × (word ≤ 4095)
IsKnownAct s (Read word object) = (object < length s.board) × (word ≤ 4095)
IsKnownAct s (Poke object offset byte) = object < length s.board
IsKnownAct s (Trim place) = place < length s.table.kept
IsKnownAct s Flush = Unit {0}

-- such an act of one of so many workers on a CPU of the machine
pub record IsKnown (s : State) (workers : ℕ) (event : Event) : Type 0 where
  pub worker : event.worker < workers
  pub cpu : event.cpu < s.cpus
  pub act : IsKnownAct s event.act

-- the number that an act names, or 0
abbrev pub object_of : Act → ℕ
object_of (Alloc place object) = object
object_of (Free object) = object
object_of (Write word object value) = object
object_of (Read word object) = object
object_of (Poke object offset byte) = object
object_of _ = 0

-- what an item leaves of the machine: its frames, CPUs, names and numbers
pub record KeepsSizes (s after : State) : Type 0 where
  pub frames : after.frames ≡ s.frames
  pub cpus : after.cpus ≡ s.cpus
  pub kept : after.table.kept ≡ s.table.kept
  pub board : length after.board ≡ length s.board

-- what a round leaves as it was
pub record KeepsCaches (s after : State) : Type 0 where
  pub frames : after.frames ≡ s.frames
  pub cpus : after.cpus ≡ s.cpus
  pub table : after.table ≡ s.table
  pub board : length after.board ≡ length s.board

-- a number that no object has stays so, but for these
abbrev pub KeepsUnheld : State → List ℕ → State → Type 0
KeepsUnheld s objects after =
    (object : ℕ) → IsUnheld s object → ¬ Contains objects object → IsUnheld after object

-- nothing is counted yet
pub record IsBlank (ledger : Ledger) : Type 0 where
  pub given : ledger.given ≡ 0
  pub freed : ledger.freed ≡ 0
  pub orders : length ledger.no_frames ≡ 11
  pub no_frames : (order : ℕ) → order < 11 → slice_index ledger.no_frames order ≡ 0

-- one more reply is counted
pub record Notes (s : State) (event : Event) (reply : Reply) (before after : Ledger) : Type 0 where
  pub given : after.given ≡ before.given + (if is_given reply then 1 else 0)
  pub freed : after.freed ≡ before.freed + (if is_freed reply then 1 else 0)
  pub orders : length after.no_frames ≡ length before.no_frames
  pub no_frames : (order : ℕ) → order < 11 → slice_index after.no_frames order
      ≡ slice_index before.no_frames order + (if lacks s order (event, reply) then 1 else 0)

-- one more reply is counted in the ledger of the event's worker, and in no other
pub record NotesOwn (s : State) (event : Event) (reply : Reply)
    (before after : List Ledger) : Type 0 where
  pub ledger : Ledger
  pub noted : Notes s event reply (slice_index_or before event.worker ledger) ledger
  pub after_is : after ≡ slice_set before event.worker ledger

-- every number of a ledger is below this one
pub record IsBelow (limit : ℕ) (ledger : Ledger) : Type 0 where
  pub given : ledger.given < limit
  pub freed : ledger.freed < limit
  pub no_frames : (order : ℕ) → order < 11 → slice_index ledger.no_frames order < limit

-- ---- damages

-- how much was found of each cache so far, by cache number
abbrev pub told_in : State → List ℕ
told_in s = map (λ slabs. option_map_or (λ slabs. length slabs.reports) slabs 0) s.checked

-- how many slabs of checked caches are listed
abbrev pub listed_in : State → ℕ
listed_in s = sum_by (λ slabs. option_map_or (λ slabs. length slabs.listed) slabs 0) s.checked

-- how many damages can be found at most while so many events are answered: none where no cache is
-- checked, else one of each slab that is listed, and one of the slab that an event lists
abbrev pub most_found : State → ℕ → ℕ
most_found s events = if list_any is_some s.checked then listed_in s + events else 0

-- a report of the cache with this title
abbrev pub found_with : List ℕ → Report → Found
found_with title report = record { title = title; report = report }

-- what was found of a cache after the first so many
abbrev pub found_past : ℕ → State → ℕ → List Found
found_past told s cache =
    map (found_with (title_of s cache)) (drop told (reports_of s cache))

-- what was found of each cache after so many, by cache number
abbrev pub found_since : List ℕ → State → List Found
found_since told s =
    flat_map (λ cache. found_past (slice_index_or told cache 0) s cache) cache_numbers
