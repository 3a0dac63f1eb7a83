-- What an event does to the board, to what was freed, to the table and to the words of the frames.
use Rattle.std.proofs.Common.{◌≡◌, ℕ, ◌+◌, Bool, true, false, cond, eqb, is_some, length, List, [], ◌∷◌, get_or, set, refl, sym, ◌∙◌, ap, Option, Some, None, MatchBool, MatchOption, MatchResult, Result, Ok, Err, inl, inr, ◌⊎◌, ℤ, nat_lt, fold, sum_by, min, ◌-◌, ◌^◌}
use Rattle.std.specs.List.{range_with_len}
use Rattle.std.specs.Option.{option_map_or}
use Rattle.slub_page_pool.specs.FreeFrames.{FreeFrames}
use Rattle.slub_trace.specs.declared.event.Act.{Act}
use Rattle.slub_trace.specs.declared.event.Act.TheVariants.{Alloc, Free, Write, Read, Poke, Trim, Flush}
use Rattle.slub_trace.specs.declared.event.Event.{Event}
use Rattle.slub_object_layout.specs.declared.layout.Layout.{Layout}
use Rattle.slub_object_layout.specs.Layout.{address_of}
use Rattle.slub_cache_create.specs.declared.caches.Cache.{Cache}
use Rattle.slub_red_zone.specs.State.{CheckedState, objects_in, slab_of as checked_slab}
use Rattle.slub_red_zone.specs.Steps.{IsOffset, TakesBack, with_byte, with_word as slab_word}
use Rattle.slub_red_zone.specs.declared.checked.CheckedGive.{CheckedGive}
use Rattle.slub_red_zone.specs.declared.checked.CheckedGive.TheVariants as give
use Rattle.slub_red_zone.specs.declared.checked.Run.{Run as SlabRun}
use Rattle.slub_red_zone.specs.declared.checked.Slot.{Slot}
use Rattle.slub_trace.specs.declared.damage.Damage.{Damage}
use Rattle.slub_lists.specs.declared.lists.Held.{Held}
use Rattle.slub_lists.specs.declared.lists.Run.{Run}
use Rattle.slub_trace.specs.declared.reply.Reply.{Reply}
use Rattle.slub_trace.specs.declared.reply.Reply.TheVariants as reply
use Rattle.slub_lists.specs.State.{State}
use Rattle.slub_lists.specs.Alloc.{AllocatesNew, FindsRun, Gives, batch_of, cache_of, checked_of, from_current, from_free, from_node, from_partial, from_slabs, held_here, lists_of, named, node_of, own_free, retired, stocked, with_held, with_lists, with_new_slab, with_node}
use Rattle.slub_lists.specs.Named.{AllocatesFrom, AllocatesNamed}
use Rattle.slub_lists.specs.Checked.{GivesOrMakes, GivesSlot, IsFreedOrKept, LacksMemory, LacksRun, discarded_where, first_slot, kept_by, slot_of_held, with_checked, with_checked_slab}
use Rattle.slub_lists.specs.Flush.{Flushes, flushed_cpu, flushed_of, slabs_on_cpu}
use Rattle.slub_lists.specs.Free.{FreesUnchecked, discarded, drained, freed, freed_here, inuse_of, is_current, is_freeable, is_frozen, is_spare, moved, put_partial, settled, without_spare, with_freed, with_gone, with_partial, with_taken, without_slab}
use Rattle.slub_lists.specs.Freeing.{Frees, FreesHeld}
use Rattle.slub_lists.specs.Shrink.{ShrinksByKind, ShrinksUnchecked, flushed, flushed_below, min_partial_of, put_away, put_away_slab, put_on_node, swept, swept_slab, taken_down}
use Rattle.slub_lists.specs.Trim.{Trims}
use Rattle.slub_lists.specs.Words.{PokesChecked, Pokes, Reads, Writes, held_by, inside, is_word, known_to, outside, with_word, word_at, word_of}
use Rattle.slub_lists.proofs.Flushing.{rest-flushed}
use Rattle.slub_slabinfo_text.specs.Lawful.{Answers}

-- ---- what stays

pub record Keeps (s after : State) : Type 0 where
  pub board : after.board ≡ s.board
  pub gone : after.gone ≡ s.gone
  pub table : after.table ≡ s.table
  pub memory : after.memory ≡ s.memory
  pub cpus : after.cpus ≡ s.cpus
  pub frames : after.frames ≡ s.frames
  pub dry : after.pool.dry ≡ s.pool.dry

pub keeps_both : (s mid after : State) → Keeps s mid → Keeps mid after → Keeps s after
keeps_both s mid after first second = record {
  board = second.board ∙ first.board;
  gone = second.gone ∙ first.gone;
  table = second.table ∙ first.table;
  memory = second.memory ∙ first.memory;
  cpus = second.cpus ∙ first.cpus;
  frames = second.frames ∙ first.frames;
  dry = second.dry ∙ first.dry;
}

pub keeps_refl : (s : State) → Keeps s s
keeps_refl s = record { board = refl; gone = refl; table = refl; memory = refl; cpus = refl; frames = refl; dry = refl }

-- something is written, and is the machine after
pub keeps_is : (s mid after : State) → after ≡ mid → Keeps s mid → Keeps s after
keeps_is s mid after is keeps = record {
  board = ap (λ (t : State). t.board) is ∙ keeps.board;
  gone = ap (λ (t : State). t.gone) is ∙ keeps.gone;
  table = ap (λ (t : State). t.table) is ∙ keeps.table;
  memory = ap (λ (t : State). t.memory) is ∙ keeps.memory;
  cpus = ap (λ (t : State). t.cpus) is ∙ keeps.cpus;
  frames = ap (λ (t : State). t.frames) is ∙ keeps.frames;
  dry = ap (λ (t : State). t.pool.dry) is ∙ keeps.dry;
}

pub keeps_either : (s one other : State) (b : Bool) → Keeps s one → Keeps s other → Keeps s (cond b one other)
keeps_either s one other true first second = first
keeps_either s one other false first second = second

-- what is there
pub match_some : {A : Type 0} (found : Option A) (P : A → Type 0) (Q : Type 0) → MatchOption found ⊥ P → ((x : A) → found ≡ Some x → P x → Q) → Q
match_some None P Q matches some = absurd matches
match_some (Some x) P Q matches some = some x refl matches

-- what is there, or isn't
pub match_either : {A : Type 0} (found : Option A) (N : Type 0) (P : A → Type 0) (Q : Type 0) → MatchOption found N P → (found ≡ None → N → Q) → ((x : A) → found ≡ Some x → P x → Q) → Q
match_either None N P Q matches none some = none refl matches
match_either (Some x) N P Q matches none some = some x refl matches

-- so it is, or not
pub match_bool : (b : Bool) (P N Q : Type 0) → MatchBool b P N → (b ≡ true → P → Q) → (b ≡ false → N → Q) → Q
match_bool true P N Q matches first other = first refl matches
match_bool false P N Q matches first other = other refl matches

-- ---- what an event does

-- the worker holds the object of the number, whose cache has this layout
pub record Holds (s : State) (worker object : ℕ) (held : Held) (live : Cache) : Type 0 where
  pub here : held_by s worker object ≡ Some held
  pub cache : cache_of s held.cache ≡ Some live

-- one more want of this order is counted, as far as the count goes
abbrev pub counted : List ℕ → ℕ → List ℕ
counted dry order = set dry order (min (get_or dry order 0 + 1) (2 ^ 64 - 1))

pub data Step (s : State) (event : Event) (answer : Reply) (after : State) : Type 0 where
  -- an object of a live cache, which nobody has, comes on the board
  gives : (place object : ℕ) (live : Cache) (held : Held) → event.act ≡ Alloc place object → named s place ≡ Some held.cache → cache_of s held.cache ≡ Some live
      → held.worker ≡ Some event.worker → answer ≡ reply.Given (address_of held.frame held.index live.layout) → sum_by (held_here held.frame held.index) s.board ≡ 0
      → after.board ≡ set s.board object (Some held) → after.gone ≡ s.gone → after.table ≡ s.table → after.memory ≡ s.memory → after.cpus ≡ s.cpus → after.frames ≡ s.frames → after.pool.dry ≡ s.pool.dry → Step s event answer after
  -- none does, for want of a run: it is counted
  lacks : (place object cache : ℕ) (live : Cache) → event.act ≡ Alloc place object → named s place ≡ Some cache → cache_of s cache ≡ Some live → answer ≡ reply.NoFrames
      → after.board ≡ s.board → after.gone ≡ s.gone → after.table ≡ s.table → after.memory ≡ s.memory → after.cpus ≡ s.cpus → after.frames ≡ s.frames → after.pool.dry ≡ counted s.pool.dry live.layout.min_order → Step s event answer after
  -- or for want of memory
  wants : (place object cache : ℕ) (live : Cache) (slabs : CheckedState) → event.act ≡ Alloc place object → named s place ≡ Some cache → cache_of s cache ≡ Some live → checked_of s cache ≡ Some slabs → answer ≡ reply.NoMemory
      → Keeps s after → Step s event answer after
  nameless : (place object : ℕ) → event.act ≡ Alloc place object → named s place ≡ None → answer ≡ reply.NoSuchCache → after ≡ s → Step s event answer after
  -- one that is there goes
  frees : (object : ℕ) (live : Cache) (held : Held) → event.act ≡ Free object → get_or s.board object None ≡ Some held → is_freeable event.worker held.worker ≡ true → cache_of s held.cache ≡ Some live
      → answer ≡ reply.Freed (address_of held.frame held.index live.layout)
      → after.board ≡ set s.board object None → after.gone ≡ set s.gone object (Some (record held { worker = Some event.worker })) → after.table ≡ s.table → after.memory ≡ s.memory → after.cpus ≡ s.cpus → after.frames ≡ s.frames → after.pool.dry ≡ s.pool.dry → Step s event answer after
  -- or is damaged, and stays
  keeps : (object : ℕ) (damage : Damage) (held : Held) (slabs : CheckedState) → event.act ≡ Free object → get_or s.board object None ≡ Some held → is_freeable event.worker held.worker ≡ true
      → checked_of s held.cache ≡ Some slabs → TakesBack slabs (slot_of_held held) (Err damage) slabs → answer ≡ reply.Corrupt damage
      → after ≡ kept_by s object event.worker held → Step s event answer after
  -- what isn't held isn't freed
  refuses : (object : ℕ) → event.act ≡ Free object → (get_or s.board object None ≡ None) ⊎ ((held : Held) × (get_or s.board object None ≡ Some held) × (is_freeable event.worker held.worker ≡ false))
      → answer ≡ reply.NotHeld → after ≡ s → Step s event answer after
  -- a word is written
  writes : (object word value : ℕ) (live : Cache) (held : Held) → event.act ≡ Write word object value → Holds s event.worker object held live → is_word live.layout word ≡ true
      → answer ≡ reply.Wrote → after ≡ with_word s live.layout held word value → Step s event answer after
  writes_none : (object word value : ℕ) (live : Cache) (held : Held) → event.act ≡ Write word object value → Holds s event.worker object held live → is_word live.layout word ≡ false
      → answer ≡ reply.OutOfObject → after ≡ s → Step s event answer after
  writes_not : (object word value : ℕ) → event.act ≡ Write word object value → held_by s event.worker object ≡ None → answer ≡ reply.NotHeld → after ≡ s → Step s event answer after
  -- or read
  reads : (object word : ℕ) (live : Cache) (held : Held) → event.act ≡ Read word object → Holds s event.worker object held live → is_word live.layout word ≡ true
      → answer ≡ reply.Value (word_of s live.layout held word) → after ≡ s → Step s event answer after
  reads_none : (object word : ℕ) (live : Cache) (held : Held) → event.act ≡ Read word object → Holds s event.worker object held live → is_word live.layout word ≡ false
      → answer ≡ reply.OutOfObject → after ≡ s → Step s event answer after
  reads_not : (object word : ℕ) → event.act ≡ Read word object → held_by s event.worker object ≡ None → answer ≡ reply.NotHeld → after ≡ s → Step s event answer after
  -- a byte is poked
  pokes : (object : ℕ) (offset : ℤ) (byte : ℕ) (held : Held) (slabs : CheckedState) → event.act ≡ Poke object offset byte → known_to s event.worker object ≡ Some held → checked_of s held.cache ≡ Some slabs → IsOffset slabs.layout offset
      → answer ≡ reply.Poked → after ≡ with_checked s held.cache (with_byte slabs (slot_of_held held) offset byte) → Step s event answer after
  pokes_not : (object : ℕ) (offset : ℤ) (byte : ℕ) → event.act ≡ Poke object offset byte → (answer ≡ reply.NotHeld) ⊎ ((answer ≡ reply.NotChecked) ⊎ (answer ≡ reply.OutOfSlot)) → after ≡ s → Step s event answer after
  -- a cache is trimmed
  trims : (place cache slabs : ℕ) → event.act ≡ Trim place → named s place ≡ Some cache → checked_of s cache ≡ None → answer ≡ reply.Trimmed slabs → Keeps s after → after.checked ≡ s.checked → Step s event answer after
  trims_checked : (place cache : ℕ) (slabs : CheckedState) → event.act ≡ Trim place → named s place ≡ Some cache → checked_of s cache ≡ Some slabs → answer ≡ reply.Checked → after ≡ s → Step s event answer after
  trims_none : (place : ℕ) → event.act ≡ Trim place → named s place ≡ None → answer ≡ reply.NoSuchCache → after ≡ s → Step s event answer after
  -- or a CPU flushed
  flushes : (slabs : ℕ) → event.act ≡ Flush → answer ≡ reply.Flushed slabs → Keeps s after → after.checked ≡ s.checked → Step s event answer after

-- ---- a slab with an object to give

-- found or not, the machine that follows kept them
abbrev KeepsIn : State → Result State State → Type 0
KeepsIn s (Ok after) = Keeps s after
KeepsIn s (Err after) = Keeps s after

module _ (s : State) (cache cpu batch : ℕ) where
  from-node : (mid : State) → Keeps s mid → (frames : List ℕ) → KeepsIn s (from_node mid cache cpu batch frames)
  from-node mid kept [] = kept
  from-node mid kept (frame ∷ frames) = record { board = kept.board; gone = kept.gone; table = kept.table; memory = kept.memory; cpus = kept.cpus; frames = kept.frames; dry = kept.dry }

  from-partial : (mid : State) → Keeps s mid → (frames : List ℕ) → KeepsIn s (from_partial mid cache cpu batch frames)
  from-partial mid kept [] = from-node mid kept (node_of mid cache)
  from-partial mid kept (frame ∷ frames) = record { board = kept.board; gone = kept.gone; table = kept.table; memory = kept.memory; cpus = kept.cpus; frames = kept.frames; dry = kept.dry }

  from-current : (frame : ℕ) (free : List ℕ) → KeepsIn s (from_current s cache cpu batch frame free)
  from-current frame [] = let rest : State = retired s cache cpu frame in from-partial rest (record { board = refl; gone = refl; table = refl; memory = refl; cpus = refl; frames = refl; dry = refl }) (lists_of rest cache cpu).partial
  from-current frame (index ∷ free) = record { board = refl; gone = refl; table = refl; memory = refl; cpus = refl; frames = refl; dry = refl }

  from-slabs : (current : Option ℕ) → KeepsIn s (from_slabs s cache cpu batch current)
  from-slabs None = from-partial s (keeps_refl s) (lists_of s cache cpu).partial
  from-slabs (Some frame) = from-current frame (own_free s frame)

  from-free : (free : List ℕ) → KeepsIn s (from_free s cache cpu batch free)
  from-free [] = from-slabs (lists_of s cache cpu).current
  from-free (index ∷ free) = keeps_refl s

-- ---- allocation

-- where a run is found nothing is counted
finds-some : (old : FreeFrames) (layout : Layout) (run : Run) (new : FreeFrames) → FindsRun old layout (Some run) new → new.dry ≡ old.dry
finds-some old layout run new (inl wide) = ap (λ (p : FreeFrames). p.dry) wide.2.1
finds-some old layout run new (inr least) = ap (λ (p : FreeFrames). p.dry) least.4.1

-- where none is, the want is
finds-none : (old : FreeFrames) (layout : Layout) (new : FreeFrames) → FindsRun old layout None new → new.dry ≡ counted old.dry layout.min_order
finds-none old layout new finds = ap (λ (p : FreeFrames). p.dry) finds.1.0

module _ (s : State) (event : Event) (place object : ℕ) (answer : Reply) (after : State) (allocates : event.act ≡ Alloc place object)
    (cache : ℕ) (live : Cache) (names : named s place ≡ Some cache) (is_live : cache_of s cache ≡ Some live) where
  abbrev GivesOne : Type 0
  GivesOne = Step s event answer after

  gave : (mid : State) (frame index : ℕ) → Keeps s mid → sum_by (held_here frame index) mid.board ≡ 0 → answer ≡ reply.Given (address_of frame index live.layout)
      → after ≡ with_held mid object (record { frame = frame; index = index; cache = cache; worker = Some event.worker }) → GivesOne
  gave mid frame index kept unheld is now =
      let held : Held = record { frame = frame; index = index; cache = cache; worker = Some event.worker } in
      gives place object live held allocates names is_live refl is (ap (λ (board : List (Option Held)). sum_by (held_here frame index) board) (sym kept.board) ∙ unheld)
      (ap (λ (t : State). t.board) now ∙ ap (λ (board : List (Option Held)). set board object (Some held)) kept.board) (ap (λ (t : State). t.gone) now ∙ kept.gone) (ap (λ (t : State). t.table) now ∙ kept.table) (ap (λ (t : State). t.memory) now ∙ kept.memory) (ap (λ (t : State). t.cpus) now ∙ kept.cpus) (ap (λ (t : State). t.frames) now ∙ kept.frames) (ap (λ (t : State). t.pool.dry) now ∙ kept.dry)

  of-cpu : (mid : State) → Keeps s mid → Gives mid live.layout cache event.cpu event.worker object answer after → GivesOne
  of-cpu mid kept given =
      gave (with_lists mid cache event.cpu (record { current = Some given.frame; free = given.rest; partial = (lists_of mid cache event.cpu).partial })) given.frame given.index
      (record { board = kept.board; gone = kept.gone; table = kept.table; memory = kept.memory; cpus = kept.cpus; frames = kept.frames; dry = kept.dry }) given.unheld given.address given.given

  no-run : (mid : State) (pool : FreeFrames) → Keeps s mid → FindsRun mid.pool live.layout None pool → LacksRun mid pool answer after → GivesOne
  no-run mid pool kept finds none =
      lacks place object cache live allocates names is_live none.0 (ap (λ (t : State). t.board) none.1 ∙ kept.board) (ap (λ (t : State). t.gone) none.1 ∙ kept.gone) (ap (λ (t : State). t.table) none.1 ∙ kept.table)
      (ap (λ (t : State). t.memory) none.1 ∙ kept.memory) (ap (λ (t : State). t.cpus) none.1 ∙ kept.cpus) (ap (λ (t : State). t.frames) none.1 ∙ kept.frames)
      (ap (λ (t : State). t.pool.dry) none.1 ∙ finds-none mid.pool live.layout pool finds ∙ ap (λ (dry : List ℕ). counted dry live.layout.min_order) kept.dry)

  of-new : (bare : State) (pool : FreeFrames) (run : Option Run) → Keeps s bare → FindsRun bare.pool live.layout run pool
      → MatchOption run (LacksRun bare pool answer after) (λ run. Gives (with_new_slab bare cache event.cpu pool run) live.layout cache event.cpu event.worker object answer after) → GivesOne
  of-new bare pool None kept finds none = no-run bare pool kept finds none
  of-new bare pool (Some run) kept finds given =
      of-cpu (with_new_slab bare cache event.cpu pool run) (record { board = kept.board; gone = kept.gone; table = kept.table; memory = kept.memory; cpus = kept.cpus; frames = kept.frames; dry = finds-some bare.pool live.layout run pool finds ∙ kept.dry }) given

  of-stock : (found : Result State State) → KeepsIn s found
      → MatchResult found (λ stocked. Gives stocked live.layout cache event.cpu event.worker object answer after) (λ bare. AllocatesNew bare live.layout cache event.cpu event.worker object answer after)
      → GivesOne
  of-stock (Ok mid) kept given = of-cpu mid kept given
  of-stock (Err bare) kept new = of-new bare new.1 new.0 kept new.2 new.3

  of-slot : (mid : State) (slot : Slot) → Keeps s mid → GivesSlot mid live.layout cache event.worker object slot answer after → GivesOne
  of-slot mid slot kept given = gave mid slot.frame slot.index kept given.unheld given.address given.given

  module _ (first : CheckedState) (was : checked_of s cache ≡ Some first) where
    of-run : (mid : State) (slabs : CheckedState) (pool : FreeFrames) (run : Option Run) → Keeps s mid → FindsRun mid.pool live.layout run pool
        → MatchOption run (LacksRun mid pool answer after) (λ run. LacksMemory mid pool run answer after ⊎ GivesSlot (with_checked_slab mid cache pool run slabs) live.layout cache event.worker object (first_slot run) answer after)
        → GivesOne
    of-run mid slabs pool None kept finds none = no-run mid pool kept finds none
    of-run mid slabs pool (Some run) kept finds (inl none) =
        wants place object cache live first allocates names is_live was none.0
        (keeps_is s _ after none.1 (record { board = kept.board; gone = kept.gone; table = kept.table; memory = kept.memory; cpus = kept.cpus; frames = kept.frames; dry = finds-some mid.pool live.layout run pool finds ∙ kept.dry }))
    of-run mid slabs pool (Some run) kept finds (inr given) =
        of-slot (with_checked_slab mid cache pool run slabs) (first_slot run) (record { board = kept.board; gone = kept.gone; table = kept.table; memory = kept.memory; cpus = kept.cpus; frames = kept.frames; dry = finds-some mid.pool live.layout run pool finds ∙ kept.dry }) given

    of-checked : (mid : State) (slabs : CheckedState) (found : CheckedGive) → Keeps s mid → GivesOrMakes mid live.layout cache slabs event.worker object found answer after → GivesOne
    of-checked mid slabs (give.Given slot) kept given = of-slot mid slot kept given
    of-checked mid slabs give.Empty kept makes = of-run mid slabs makes.1 makes.0 kept makes.2 makes.3

  of-cache : AllocatesFrom s live.layout cache event.cpu event.worker object answer after → GivesOne
  of-cache done = match_either (checked_of s cache) _ _ GivesOne done
      (λ unchecked done. of-stock (stocked s live.layout cache event.cpu) (from-free s cache event.cpu (batch_of live.layout) (lists_of s cache event.cpu).free) done)
      (λ slabs was done. of-checked slabs was (with_checked s cache done.1) done.1 done.0 (record { board = refl; gone = refl; table = refl; memory = refl; cpus = refl; frames = refl; dry = refl }) done.3)

alloc-step : (s : State) (event : Event) (place object : ℕ) (answer : Reply) (after : State) → event.act ≡ Alloc place object
    → AllocatesNamed s place event.cpu event.worker object answer after → Step s event answer after
alloc-step s event place object answer after allocates done = match_either (named s place) _ _ (Step s event answer after) done
    (λ none nothing. nameless place object allocates none nothing.0 nothing.1)
    (λ cache names done. match_some (cache_of s cache) _ (Step s event answer after) done (λ live is_live done. of-cache s event place object answer after allocates cache live names is_live done))

-- ---- freeing

module _ (min_partial cache : ℕ) where
  moved-kept : (s : State) (frame : ℕ) → Keeps s (moved min_partial cache s frame)
  moved-kept s frame = keeps_either s _ _ (is_spare s min_partial cache frame) (record { board = refl; gone = refl; table = refl; memory = refl; cpus = refl; frames = refl; dry = refl }) (record { board = refl; gone = refl; table = refl; memory = refl; cpus = refl; frames = refl; dry = refl })

  all-moved : (s : State) (frames : List ℕ) → Keeps s (fold (moved min_partial cache) s frames)
  all-moved s [] = keeps_refl s
  all-moved s (frame ∷ frames) = keeps_both s (moved min_partial cache s frame) _ (moved-kept s frame) (all-moved (moved min_partial cache s frame) frames)

without_spare-kept : (s : State) (min_partial cache frame : ℕ) → Keeps s (without_spare s min_partial cache frame)
without_spare-kept s min_partial cache frame = keeps_either s (discarded (without_slab s cache frame) frame) s _ (record { board = refl; gone = refl; table = refl; memory = refl; cpus = refl; frames = refl; dry = refl }) (keeps_refl s)

drained-kept : (s : State) (layout : Layout) (cache cpu : ℕ) → Keeps s (drained s layout cache cpu)
drained-kept s layout cache cpu =
    let bare : State = with_partial s cache cpu [] in
    keeps_either s _ s _ (keeps_both s bare _ (record { board = refl; gone = refl; table = refl; memory = refl; cpus = refl; frames = refl; dry = refl }) (all-moved layout.min_partial cache bare (lists_of s cache cpu).partial)) (keeps_refl s)

put-kept : (s : State) (layout : Layout) (cache cpu frame : ℕ) → Keeps s (put_partial s layout cache cpu frame)
put-kept s layout cache cpu frame = let kept = drained-kept s layout cache cpu in record { board = kept.board; gone = kept.gone; table = kept.table; memory = kept.memory; cpus = kept.cpus; frames = kept.frames; dry = kept.dry }

settled-kept : (s : State) (layout : Layout) (cache cpu frame : ℕ) (own : List ℕ) → Keeps s (settled s layout cache cpu frame own)
settled-kept s layout cache cpu frame [] = keeps_either s s _ (is_frozen s frame) (keeps_refl s) (put-kept s layout cache cpu frame)
settled-kept s layout cache cpu frame (index ∷ free) = keeps_either s s _ (is_frozen s frame) (keeps_refl s) (without_spare-kept s layout.min_partial cache frame)

freed-kept : (s : State) (layout : Layout) (cache cpu frame index : ℕ) → Keeps s (freed s layout cache cpu frame index)
freed-kept s layout cache cpu frame index =
    let own : State = with_freed s frame index in
    keeps_either s (freed_here s cache cpu index) _ (is_current frame (lists_of s cache cpu).current) (record { board = refl; gone = refl; table = refl; memory = refl; cpus = refl; frames = refl; dry = refl })
    (keeps_both s own _ (record { board = refl; gone = refl; table = refl; memory = refl; cpus = refl; frames = refl; dry = refl }) (settled-kept own layout cache cpu frame (own_free s frame)))

discarded-kept : (s : State) (frame : ℕ) (run : Option SlabRun) → Keeps s (discarded_where s frame run)
discarded-kept s frame None = keeps_refl s
discarded-kept s frame (Some run) = record { board = refl; gone = refl; table = refl; memory = refl; cpus = refl; frames = refl; dry = refl }

module _ (s : State) (event : Event) (object : ℕ) (held : Held) (answer : Reply) (after : State) (asks : event.act ≡ Free object)
    (was : get_or s.board object None ≡ Some held) (may : is_freeable event.worker held.worker ≡ true) where
  abbrev FreesOne : Type 0
  FreesOne = Step s event answer after

  took : (live : Cache) (last : State) → cache_of s held.cache ≡ Some live → answer ≡ reply.Freed (address_of held.frame held.index live.layout)
      → Keeps (with_taken s object held.cache) last → after ≡ with_gone last object event.worker held → FreesOne
  took live last is_live is kept now =
      frees object live held asks was may is_live is (ap (λ (t : State). t.board) now ∙ kept.board)
      (ap (λ (t : State). t.gone) now ∙ ap (λ (gone : List (Option Held)). set gone object (Some (record held { worker = Some event.worker }))) kept.gone)
      (ap (λ (t : State). t.table) now ∙ kept.table) (ap (λ (t : State). t.memory) now ∙ kept.memory) (ap (λ (t : State). t.cpus) now ∙ kept.cpus) (ap (λ (t : State). t.frames) now ∙ kept.frames) (ap (λ (t : State). t.pool.dry) now ∙ kept.dry)

  freed-unchecked : (live : Cache) → cache_of s held.cache ≡ Some live → FreesUnchecked s live.layout event.cpu event.worker object held answer after → FreesOne
  freed-unchecked live is_live done = took live _ is_live done.0 (freed-kept (with_taken s object held.cache) live.layout held.cache event.cpu held.frame held.index) done.1

  freed-or-kept : (live : Cache) (slabs rest : CheckedState) (found : Result (Unit {0}) Damage) → cache_of s held.cache ≡ Some live → checked_of s held.cache ≡ Some slabs
      → TakesBack slabs (slot_of_held held) found rest → IsFreedOrKept s live.layout rest event.worker object held found answer after → FreesOne
  freed-or-kept live slabs rest (Err damage) is_live checked taken done = keeps object damage held slabs asks was may checked (taken.0, refl) done.0 done.1
  freed-or-kept live slabs rest (Ok x) is_live checked taken done =
      let mid : State = with_checked (with_taken s object held.cache) held.cache done.2 in
      took live _ is_live done.0 (keeps_both (with_taken s object held.cache) mid _ (record { board = refl; gone = refl; table = refl; memory = refl; cpus = refl; frames = refl; dry = refl }) (discarded-kept mid held.frame done.1)) done.4

  held-freed : FreesHeld s event.cpu event.worker object held answer after → FreesOne
  held-freed done = match_some (cache_of s held.cache) _ FreesOne done (λ live is_live done.
      match_either (checked_of s held.cache) _ _ FreesOne done
      (λ unchecked done. freed-unchecked live is_live done)
      (λ slabs checked done. freed-or-kept live slabs done.1 done.0 is_live checked done.2 done.3))

free-step : (s : State) (event : Event) (object : ℕ) (answer : Reply) (after : State) → event.act ≡ Free object
    → Frees s event.cpu event.worker object answer after → Step s event answer after
free-step s event object answer after asks done = match_either (get_or s.board object None) _ _ (Step s event answer after) done
    (λ none nothing. refuses object asks (inl none) nothing.0 nothing.1)
    (λ held was done. match_bool (is_freeable event.worker held.worker) _ _ (Step s event answer after) done
    (λ may done. held-freed s event object held answer after asks was may done)
    (λ other none. refuses object asks (inr (held, was, other)) none.0 none.1))

-- ---- words and bytes

-- what a word that is written leaves
pub record KeepsBut (s after : State) : Type 0 where
  pub board : after.board ≡ s.board
  pub gone : after.gone ≡ s.gone
  pub table : after.table ≡ s.table
  pub cpus : after.cpus ≡ s.cpus
  pub frames : after.frames ≡ s.frames
  pub pool : after.pool ≡ s.pool

pub word-keeps : (s : State) (layout : Layout) (held : Held) (word value : ℕ) → KeepsBut s (with_word s layout held word value)
word-keeps s layout held word value = by (checked_of s held.cache)
  where
    by : (slabs : Option CheckedState)
        → KeepsBut s (option_map_or (λ slabs. with_checked s held.cache (slab_word slabs (slot_of_held held) word value)) slabs (record s { memory = set s.memory (word_at layout held word) value }))
    by None = record { board = refl; gone = refl; table = refl; cpus = refl; frames = refl; pool = refl }
    by (Some slabs) = record { board = refl; gone = refl; table = refl; cpus = refl; frames = refl; pool = refl }

write-step : (s : State) (event : Event) (object word value : ℕ) (answer : Reply) (after : State) → event.act ≡ Write word object value
    → Writes s event.worker object word value answer after → Step s event answer after
write-step s event object word value answer after asks done = match_either (held_by s event.worker object) _ _ (Step s event answer after) done
    (λ none nothing. writes_not object word value asks none nothing.0 nothing.1)
    (λ held here done. match_some (cache_of s held.cache) _ (Step s event answer after) done (λ live is_live done.
    match_bool (is_word live.layout word) _ _ (Step s event answer after) done
    (λ within done. writes object word value live held asks (record { here = here; cache = is_live }) within done.0 done.1)
    (λ past done. writes_none object word value live held asks (record { here = here; cache = is_live }) past done.0 done.1)))

read-step : (s : State) (event : Event) (object word : ℕ) (answer : Reply) (after : State) → event.act ≡ Read word object
    → Reads s event.worker object word answer → after ≡ s → Step s event answer after
read-step s event object word answer after asks done same = match_either (held_by s event.worker object) _ _ (Step s event answer after) done
    (λ none nothing. reads_not object word asks none nothing same)
    (λ held here done. match_some (cache_of s held.cache) _ (Step s event answer after) done (λ live is_live done.
    match_bool (is_word live.layout word) _ _ (Step s event answer after) done
    (λ within done. reads object word live held asks (record { here = here; cache = is_live }) within done same)
    (λ past done. reads_none object word live held asks (record { here = here; cache = is_live }) past done same)))

module _ (s : State) (event : Event) (object : ℕ) (offset : ℤ) (byte : ℕ) (answer : Reply) (after : State) (asks : event.act ≡ Poke object offset byte) where
  byte-step : (held : Held) (slabs : CheckedState) → known_to s event.worker object ≡ Some held → checked_of s held.cache ≡ Some slabs → PokesChecked s slabs held offset byte answer after → Step s event answer after
  byte-step held slabs knows checked (outside out is same) = pokes_not object offset byte asks (inr (inr is)) same
  byte-step held slabs knows checked (inside within done) = match_bool (nat_lt held.index (objects_in (checked_slab slabs held.frame))) _ _ (Step s event answer after) done
      (λ there done. pokes object offset byte held slabs asks knows checked within done.0 done.1)
      (λ none nothing. pokes_not object offset byte asks (inl nothing.0) nothing.1)

  poke-step : Pokes s event.worker object offset byte answer after → Step s event answer after
  poke-step done = match_either (known_to s event.worker object) _ _ (Step s event answer after) done
      (λ none nothing. pokes_not object offset byte asks (inl nothing.0) nothing.1)
      (λ held knows done. match_either (checked_of s held.cache) _ _ (Step s event answer after) done
      (λ none nothing. pokes_not object offset byte asks (inr (inl nothing.0)) nothing.1)
      (λ slabs checked done. byte-step held slabs knows checked done))

-- ---- trimming and flushing

-- what stays, and the slabs of the checked caches too
abbrev Leaves : State → State → Type 0
Leaves s after = Keeps s after × (after.checked ≡ s.checked)

leaves_refl : (s : State) → Leaves s s
leaves_refl s = (keeps_refl s, refl)

leaves_both : (s mid after : State) → Leaves s mid → Leaves mid after → Leaves s after
leaves_both s mid after first second = (keeps_both s mid after first.0 second.0, second.1 ∙ first.1)

leaves_either : (s one other : State) (b : Bool) → Leaves s one → Leaves s other → Leaves s (cond b one other)
leaves_either s one other true first second = first
leaves_either s one other false first second = second

-- what each step leaves, all steps leave
leaves_all : (f : State → ℕ → State) → ((s : State) (n : ℕ) → Leaves s (f s n)) → (s : State) (ns : List ℕ) → Leaves s (fold f s ns)
leaves_all f each s [] = leaves_refl s
leaves_all f each s (n ∷ ns) = leaves_both s (f s n) _ (each s n) (leaves_all f each (f s n) ns)

module _ (min_partial cache : ℕ) where
  put-away-kept : (s : State) (cpu : ℕ) (current : Option ℕ) → Keeps s (option_map_or (put_away_slab s min_partial cache cpu) current s)
  put-away-kept s cpu None = keeps_refl s
  put-away-kept s cpu (Some frame) =
      let down : State = taken_down s cache cpu frame in
      let own : List ℕ = own_free s frame in
      keeps_both s down _ (record { board = refl; gone = refl; table = refl; memory = refl; cpus = refl; frames = refl; dry = refl })
      (keeps_either down (discarded down frame) _ (is_spare down min_partial cache frame) (record { board = refl; gone = refl; table = refl; memory = refl; cpus = refl; frames = refl; dry = refl })
      (keeps_either down (put_on_node down cache frame own) down (nat_lt 0 (length (own_free down frame))) (on-node down frame own) (keeps_refl down)))
    where
      on-node : (s : State) (frame : ℕ) (own : List ℕ) → Keeps s (put_on_node s cache frame own)
      on-node s frame [] = (record { board = refl; gone = refl; table = refl; memory = refl; cpus = refl; frames = refl; dry = refl })
      on-node s frame (index ∷ own) = (record { board = refl; gone = refl; table = refl; memory = refl; cpus = refl; frames = refl; dry = refl })

  flushed-leaves : (s : State) (cpu : ℕ) → Leaves s (flushed min_partial cache s cpu)
  flushed-leaves s cpu =
      let away : State = put_away s min_partial cache cpu in
      let bare : State = with_partial away cache cpu [] in
      let partial : List ℕ = (lists_of away cache cpu).partial in (
        keeps_both s away _ (put-away-kept s cpu (lists_of s cache cpu).current) (keeps_both away bare _ (record { board = refl; gone = refl; table = refl; memory = refl; cpus = refl; frames = refl; dry = refl }) (all-moved min_partial cache bare partial)),
        (rest-flushed min_partial cache s cpu).checked,
      )

  swept-leaves : (s : State) (frame : ℕ) → Leaves s (swept_slab cache s frame)
  swept-leaves s frame = leaves_either s (discarded (without_slab s cache frame) frame) s (eqb (inuse_of s frame) 0) ((record { board = refl; gone = refl; table = refl; memory = refl; cpus = refl; frames = refl; dry = refl }), refl) (leaves_refl s)

  -- a cache that isn't checked is shrunk
  shrunk-leaves : (s after : State) → ShrinksUnchecked s min_partial cache after → Leaves s after
  shrunk-leaves s after promotes =
      let flat : State = flushed_below s min_partial cache s.cpus in
      let clean : State = swept flat cache in
      let both = leaves_both s flat clean (leaves_all (flushed min_partial cache) flushed-leaves s (range_with_len 0 s.cpus)) (leaves_all (swept_slab cache) swept-leaves flat (node_of flat cache)) in (
        keeps_is s (with_node clean cache promotes.0) after promotes.2 (keeps_both s clean _ both.0 (record { board = refl; gone = refl; table = refl; memory = refl; cpus = refl; frames = refl; dry = refl })),
        ap (λ (t : State). t.checked) promotes.2 ∙ both.1,
      )

trim-leaves : (s : State) (cache : ℕ) (after : State) → checked_of s cache ≡ None → ShrinksByKind s cache after → Leaves s after
trim-leaves s cache after unchecked shrinks = match_some (cache_of s cache) _ (Leaves s after) shrinks (λ live is_live shrinks.
    match_either (checked_of s cache) _ _ (Leaves s after) shrinks
    (λ none shrinks. shrunk-leaves live.layout.min_partial cache s after shrinks)
    (λ slabs some shrinks. absurd (let never : None ≡ Some slabs = sym unchecked ∙ some in cc)))

trim-step : (s : State) (event : Event) (place : ℕ) (answer : Reply) (after : State) → event.act ≡ Trim place → Trims s place answer after → Step s event answer after
trim-step s event place answer after asks done = match_either (named s place) _ _ (Step s event answer after) done
    (λ none nothing. trims_none place asks none nothing.0 nothing.1)
    (λ cache names done. match_either (checked_of s cache) _ _ (Step s event answer after) done
    (λ unchecked done. let leaves = trim-leaves s cache after unchecked done.2.steps in trims place cache done.0 asks names unchecked done.1 leaves.0 leaves.1)
    (λ slabs checked done. trims_checked place cache slabs asks names checked done.0 done.1))

flush-leaves : (cpu : ℕ) (s : State) (cache : ℕ) → Leaves s (flushed_of cpu s cache)
flush-leaves cpu s cache = leaves_either s s _ (is_some (checked_of s cache)) (leaves_refl s) (flushed-leaves (min_partial_of s cache) cache s cpu)

flush-step : (s : State) (event : Event) (answer : Reply) (after : State) → event.act ≡ Flush → Flushes s event.cpu answer after → Step s event answer after
flush-step s event answer after asks done =
    let leaves = leaves_all (flushed_of event.cpu) (flush-leaves event.cpu) s s.table.ages in
    flushes (slabs_on_cpu s event.cpu) asks done.moved (keeps_is s (flushed_cpu s event.cpu) after done.steps leaves.0) (ap (λ (t : State). t.checked) done.steps ∙ leaves.1)

-- ---- events

of-act : (s : State) (event : Event) (act : Act) (answer : Reply) (after : State) → event.act ≡ act → Answers s event act answer after → Step s event answer after
of-act s event (Alloc place object) answer after is done = alloc-step s event place object answer after is done
of-act s event (Free object) answer after is done = free-step s event object answer after is done
of-act s event (Write word object value) answer after is done = write-step s event object word value answer after is done
of-act s event (Read word object) answer after is done = read-step s event object word answer after is done.0 done.1
of-act s event (Poke object offset byte) answer after is done = poke-step s event object offset byte answer after is done
of-act s event (Trim place) answer after is done = trim-step s event place answer after is done
of-act s event Flush answer after is done = flush-step s event answer after is done

pub event-step : (s : State) (event : Event) (answer : Reply) (after : State) → Answers s event event.act answer after → Step s event answer after
event-step s event answer after done = of-act s event event.act answer after refl done
