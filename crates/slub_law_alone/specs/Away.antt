-- A worker alone that trims a cache or flushes a CPU: piece by piece, and the whole call.
use Rattle.std.specs.Prelude.{◌≡◌, ℕ, suc, ◌+◌, ◌<◌, Bool, List, [], ◌∷◌, length, slice_set, if◌then◌else◌, Some, is_some}
use Rattle.std.specs.Option.{option_map_or}
use Rattle.slub_trace.specs.declared.reply.Reply.{Reply}
use Rattle.slub_words.specs.declared.cpu.CpuWord.{CpuWord}
use Rattle.slub_words.specs.declared.slab.SlabWord.{SlabWord}
use Rattle.slub_lists.specs.State.{State}
use Rattle.slub_lists.specs.Alloc.{lists_of, named}
use Rattle.slub_lists.specs.Free.{is_spare, moved, with_partial}
use Rattle.slub_lists.specs.Flush.{Flushes}
use Rattle.slub_lists.specs.Shrink.{min_partial_of, moved_partial, put_away, taken_down}
use Rattle.slub_lists.specs.Trim.{Trims}
use Rattle.slub_core.specs.declared.call.Call.{Call}
use Rattle.slub_core.specs.declared.call.CallKind.TheVariants.{Flush, Trim}
use Rattle.slub_core.specs.declared.spot.Spot.TheVariants.{InOffline}
use Rattle.slub_core.specs.declared.spot.Sweep.{Sweep}
use Rattle.slub_core.specs.declared.spot.OfflineSpot.TheVariants.{LoadCurrent, TakeCurrent}
use Rattle.slub_core.specs.Calls.{call_kind, call_cpu, call_cache}
use Rattle.slub_core.specs.Setup.{cpu_number}
use Rattle.slub_core.specs.World.{World}
use Rattle.slub_core.specs.Local.{Local, answered, at, goes, tells}
use Rattle.slub_core.specs.Offline.{if_flushing, if_trimming, next_swept}
use Rattle.slub_core.specs.Steps.{rested}
use Rattle.slub_core.specs.Run.{System}
use Rattle.slub_core.specs.Law.{IsCoherentSystem}
use Rattle.slub_law_opening.specs.Opening.{Beside, setup_of, tid_of}
use Rattle.slub_law_alone.specs.Alone.{alone, worker_at, known_after, IsAtRest, IsNext, Replies}
use Rattle.slub_law_alone.specs.Spent.{recalled}
use Rattle.slub_calls.specs.Changes.{grown, has_slab_of, has_slab_on}

-- ---- a worker in the midst of a call

-- the machine rests in these lists, were the worker between two calls
pub record RestsBut (opening : World) (s : State) (b : Beside) (system : System) (worker : ℕ)
    (l : Local) : Type 0 where
  pub there : worker < length system.locals
  pub here : worker_at system worker ≡ l
  pub rest : IsAtRest opening s b (recalled worker system)
  pub coherent : IsCoherentSystem (setup_of s b) opening system

-- by some turns of the worker alone, one at least, it comes to where l stands, in a machine that
-- otherwise rests in the lists t. No other worker has changed
pub record ComesTo (opening : World) (s : State) (b : Beside) (system : System) (worker : ℕ)
    (t : State) (d : Beside) (l : Local) : Type 0 where
  pub turns : ℕ
  pub setup : setup_of t d ≡ setup_of s b
  pub rests : RestsBut opening t d (alone (setup_of s b) worker (suc turns) system) worker l
  pub others : (alone (setup_of s b) worker (suc turns) system).locals
      ≡ slice_set system.locals worker l

-- or it comes to stand between two calls, and the replies that take no step come at once
pub record EndsAs (opening : World) (s : State) (b : Beside) (system : System) (worker : ℕ)
    (t : State) (d : Beside) (told : Local) : Type 0 where
  pub turns : ℕ
  pub setup : setup_of t d ≡ setup_of s b
  pub rest : IsAtRest opening t d (alone (setup_of s b) worker (suc turns) system)
  pub here : worker_at (alone (setup_of s b) worker (suc turns) system) worker
      ≡ rested (setup_of s b) told
  pub others : (alone (setup_of s b) worker (suc turns) system).locals
      ≡ slice_set system.locals worker (rested (setup_of s b) told)

-- ---- a current slab is put away

-- the CPU's word is changed once where it has a current slab
abbrev pub detached : State → Beside → ℕ → ℕ → Beside
detached s b cache cpu = if is_some (lists_of s cache cpu).current
    then grown b (cpu_number cache cpu) 1 else b

-- a flush tells of each slab that it takes off a CPU, a trim of one that is discarded
abbrev pub told_of_slab : State → Sweep → ℕ → ℕ → ℕ → ℕ
told_of_slab s sweep cache cpu frame =
    if_flushing sweep 1 + if_trimming sweep
    (if is_spare (taken_down s cache cpu frame) (min_partial_of s cache) cache frame then 1 else 0)

abbrev pub told_of_current : State → Sweep → ℕ → ℕ → ℕ
told_of_current s sweep cache cpu =
    option_map_or (told_of_slab s sweep cache cpu) (lists_of s cache cpu).current 0

-- the current slab of the CPU is put away, if it has one, and the worker is about to take the CPU's
-- partial list. It has noted other words
pub record PutsAway (opening : World) (s : State) (b : Beside) (system : System) (worker : ℕ)
    (l : Local) (sweep : Sweep) : Type 0 where
  pub cpu_word : CpuWord
  pub slab_word : SlabWord
  pub comes : ComesTo opening s b system worker
      (put_away s (min_partial_of s l.cache) l.cache l.cpu) (detached s b l.cache l.cpu)
      (record l {
        spot = InOffline TakeCurrent sweep;
        cpu_word = cpu_word;
        slab_word = slab_word;
        count = l.count + told_of_current s sweep l.cache l.cpu;
      })

-- a trim or a flush that has come to a CPU and a cache: the current slab is taken off the CPU, and
-- its CPU freelist is walked to the end. Under the node lock this is put before the slab's own
-- freelist, and the slab is unfrozen. It goes to the node list, or back to the pool where it is
-- spare, or stays on no list where it has no free object (`flush_slab`, `deactivate_slab`)
abbrev pub CurrentSlabsArePutAway : Type 0
CurrentSlabsArePutAway =
    (opening : World) (s : State) (b : Beside) (system : System) (worker : ℕ) (l : Local)
    (sweep : Sweep) → RestsBut opening s b system worker (at l (InOffline LoadCurrent sweep))
    → PutsAway opening s b system worker l sweep

-- ---- the CPU's partial list is moved

-- how many of these slabs are spare, as they are moved one after the other
abbrev pub spare_among : State → ℕ → ℕ → List ℕ → ℕ
spare_among s min_partial cache [] = 0
spare_among s min_partial cache (frame ∷ frames) =
    (if is_spare s min_partial cache frame then 1 else 0)
    + spare_among (moved min_partial cache s frame) min_partial cache frames

abbrev pub told_of_partial : State → Sweep → ℕ → ℕ → ℕ
told_of_partial s sweep cache cpu =
    let frames = (lists_of s cache cpu).partial in
    if_flushing sweep (length frames) + if_trimming sweep
    (spare_among (with_partial s cache cpu []) (min_partial_of s cache) cache frames)

-- the worker once the list is moved: it has noted another word, and has more to tell of
abbrev pub has_moved : State → Sweep → Local → SlabWord → Local
has_moved s sweep l slab_word = record l {
  slab_word = slab_word;
  count = l.count + told_of_partial s sweep l.cache l.cpu;
}

-- the CPU's partial list is moved. The worker goes on to the next CPU or cache, or to the node
-- list, or its call ends
pub record MovesList (opening : World) (s : State) (b : Beside) (system : System) (worker : ℕ)
    (l : Local) (sweep : Sweep) : Type 0 where
  pub slab_word : SlabWord
  pub goes_on : (next : Local)
      → next_swept (setup_of s b) (has_moved s sweep l slab_word) sweep ≡ goes next
      → ComesTo opening s b system worker
      (moved_partial s (min_partial_of s l.cache) l.cache l.cpu) b next
  pub ends : (next : Local) (reply : Reply)
      → next_swept (setup_of s b) (has_moved s sweep l slab_word) sweep ≡ tells next reply
      → EndsAs opening s b system worker
      (moved_partial s (min_partial_of s l.cache) l.cache l.cpu) b (answered next reply)

-- a trim or a flush that has put away a CPU's current slab: it takes the CPU's partial list, and
-- where that has slabs moves them under the node lock (`unfreeze_partials`)
abbrev pub PartialListsAreMoved : Type 0
PartialListsAreMoved =
    (opening : World) (s : State) (b : Beside) (system : System) (worker : ℕ) (l : Local)
    (sweep : Sweep) → RestsBut opening s b system worker (at l (InOffline TakeCurrent sweep))
    → MovesList opening s b system worker l sweep

-- ---- a flush

-- beside the lists each of these CPU words was changed once, and no other
pub record AreChangedOnce (changed : ℕ → Bool) (b d : Beside) : Type 0 where
  pub same : d ≡ record b { tids = d.tids }
  pub ids : (n : ℕ) → tid_of d n ≡ tid_of b n + (if changed n then b.step else 0)

-- by some turns of the worker alone, one at least, its flush is that of the lists
pub record FlushesAlone (opening : World) (s : State) (b : Beside) (system : System)
    (worker : ℕ) (call : Call) : Type 0 where
  pub turns : ℕ
  pub reply : Reply
  pub after : State
  pub flushes : Flushes s (call_cpu call) reply after
  pub beside : Beside
  pub changes : AreChangedOnce (has_slab_on s (call_cpu call)) b beside
  pub replies : Replies opening s b system worker call (suc turns) reply after beside
  -- it knows what it knew
  pub known : known_after (setup_of s b) system worker (suc turns)
      ≡ (worker_at system worker).known

-- a flush takes from its CPU what it has of each cache that isn't checked, the oldest first
-- (`slub_cpu_dead`)
abbrev pub FlushesAreThoseOfLists : Type 0
FlushesAreThoseOfLists =
    (opening : World) (s : State) (b : Beside) (system : System) (worker : ℕ) (call : Call)
    → IsAtRest opening s b system → IsNext system worker call → call_kind call ≡ Flush
    → FlushesAlone opening s b system worker call

-- ---- a trim

-- by some turns of the worker alone, one at least, its trim is that of the lists
pub record TrimsAlone (opening : World) (s : State) (b : Beside) (system : System)
    (worker : ℕ) (call : Call) (place cache : ℕ) : Type 0 where
  pub turns : ℕ
  pub reply : Reply
  pub after : State
  pub trims : Trims s place reply after
  pub beside : Beside
  pub changes : AreChangedOnce (has_slab_of s cache) b beside
  pub replies : Replies opening s b system worker call (suc turns) reply after beside
  -- it knows what it knew
  pub known : known_after (setup_of s b) system worker (suc turns)
      ≡ (worker_at system worker).known

-- a trim that takes a step is of an unchecked cache. It empties each CPU of it, from CPU 0 on. Then
-- it goes along the node list under its lock: a slab of which nothing is in use goes back to the
-- pool, and the others are put in order (`__kmem_cache_do_shrink`)
abbrev pub TrimsAreThoseOfLists : Type 0
TrimsAreThoseOfLists =
    (opening : World) (s : State) (b : Beside) (system : System) (worker : ℕ) (call : Call)
    (place cache : ℕ) → IsAtRest opening s b system → IsNext system worker call
    → call_kind call ≡ Trim → named s place ≡ Some cache → call_cache call ≡ Some cache
    → TrimsAlone opening s b system worker call place cache
