-- A trim and a flush: `__kmem_cache_do_shrink` and `flush_cpu_slab` of Linux 6.1, while others
-- allocate and free.
use Rattle.std.specs.Prelude.{ℕ, ◌+◌, ◌-◌, ◌==◌, nat_lt, if◌then◌else◌, List, [], ◌∷◌, ◌++◌, length, take, drop, slice_index, Some, None}
use Rattle.slub_words.specs.declared.cpu.CpuWord.{CpuWord}
use Rattle.slub_words.specs.declared.slab.SlabWord.{SlabWord}
use Rattle.slub_cpu_partial.specs.declared.words.ListWord.{ListWord}
use Rattle.slub_trace.specs.declared.reply.Reply.TheVariants.{Trimmed, Flushed}
use Rattle.slub_core.specs.declared.step.Step.{Step}
use Rattle.slub_core.specs.declared.step.Answer.{Answer}
use Rattle.slub_core.specs.declared.step.Answer.TheVariants.{Word, Done, Won, Lost}
use Rattle.slub_core.specs.declared.spot.Spot.{Spot}
use Rattle.slub_core.specs.declared.spot.Spot.TheVariants.{Between, InDiscard, InMoveSet, InOffline, InTrim}
use Rattle.slub_core.specs.declared.spot.Away.TheVariants.{ForSweep}
use Rattle.slub_core.specs.declared.spot.Discard.TheVariants.{FromTrim}
use Rattle.slub_core.specs.declared.spot.DiscardSpot.TheVariants.{Unmake}
use Rattle.slub_core.specs.declared.spot.MoveSet.TheVariants.{ForOffline}
use Rattle.slub_core.specs.declared.spot.MoveSetSpot.TheVariants.{LockMove}
use Rattle.slub_core.specs.declared.spot.Sweep.{Sweep}
use Rattle.slub_core.specs.declared.spot.Sweep.TheVariants.{Trimming, Flushing}
use Rattle.slub_core.specs.declared.spot.OfflineSpot.{OfflineSpot}
use Rattle.slub_core.specs.declared.spot.OfflineSpot.TheVariants.{LoadCurrent, DetachCurrent, TakeCurrent}
use Rattle.slub_core.specs.declared.spot.TrimSpot.{TrimSpot}
use Rattle.slub_core.specs.declared.spot.TrimSpot.TheVariants.{LockTrim, ScanNode, LoadScanned, DropScanned, GiveTrim}
use Rattle.slub_core.specs.Setup.{Setup}
use Rattle.slub_core.specs.Words.{cpu_in, slab_in, list_in}
use Rattle.slub_core.specs.World.{LockValue}
use Rattle.slub_core.specs.Local.{Local, Turn, Change, at, with_hand, hand_from, bare_hand, goes, tells, stays}
use Rattle.slub_core.specs.Ops.{load_cpu, change_cpu, load_slab, take_list, take_node, give_node, no_step}
use Rattle.slub_core.specs.Alloc.{detached_word, way_of_away, taken_string, node_of, with_node}

-- ---- ways

-- what a flush tells grows by the slabs that it takes, what a trim tells by those that it discards
-- (profile)
abbrev pub if_flushing : Sweep → ℕ → ℕ
if_flushing Trimming n = 0
if_flushing Flushing n = n

-- the same for a trim (profile)
abbrev pub if_trimming : Sweep → ℕ → ℕ
if_trimming Trimming n = n
if_trimming Flushing n = 0

-- a trim goes on to the next CPU, and from the last one to the node list (`flush_all_cpus_locked`,
-- `__kmem_cache_shrink`)
abbrev pub trimmed_cpu : Setup → Local → Turn
trimmed_cpu m l =
    record {
      local = record l {
        cpu = (if nat_lt (l.cpu + 1) m.cpus then l.cpu + 1 else l.cpu);
        spot = (if nat_lt (l.cpu + 1) m.cpus then InOffline LoadCurrent Trimming
            else InTrim LockTrim);
      };
      reply = None;
    }

-- a flush goes on to the next unchecked cache, and ends after the last one (`slub_cpu_dead`; that
-- the oldest comes first is profile)
abbrev pub flushed_cache : Setup → Local → Turn
flushed_cache m l =
    let more = nat_lt (l.turn + 1) (length m.plain) in
    record {
      local = record l {
        turn = (if more then l.turn + 1 else l.turn);
        cache = (if more then slice_index m.plain (l.turn + 1) else l.cache);
        spot = (if more then InOffline LoadCurrent Flushing else Between);
      };
      reply = (if more then None else Some (Flushed l.count));
    }

-- the next CPU of a trim (`flush_all_cpus_locked`), or the next cache of a flush (`slub_cpu_dead`)
abbrev pub next_swept : Setup → Local → Sweep → Turn
next_swept m l Trimming = trimmed_cpu m l
next_swept m l Flushing = flushed_cache m l

-- the current slab is taken off the CPU, where there is one (`flush_slab`, `__flush_cpu_slab`)
abbrev pub way_of_current : Sweep → CpuWord → Spot
way_of_current sweep c = if c.frame == 0 then InOffline TakeCurrent sweep
    else InOffline DetachCurrent sweep

-- the slabs of the CPU's partial list are moved, where it had some (`unfreeze_partials`,
-- `unfreeze_partials_cpu`)
abbrev pub list_swept : Setup → Local → Sweep → ListWord → Turn
list_swept m l sweep list =
    if list.count == 0 then next_swept m l sweep
    else goes (record l {
      string = Some (taken_string list.front list.count);
      count = l.count + if_flushing sweep list.count;
      spot = InMoveSet LockMove (ForOffline sweep);
    })

-- the slab that the scan has come to (`__kmem_cache_do_shrink`)
abbrev pub scanned_slab : (ℕ → LockValue) → Local → ℕ
scanned_slab value l = slice_index (node_of value l) (length l.scanned)

-- an empty slab is dropped, of any other the free objects are counted (`__kmem_cache_do_shrink`)
abbrev pub scanned_word : Local → SlabWord → Local
scanned_word l s =
    record l {
      slab_word = s;
      scanned = (if s.inuse == 0 then l.scanned else l.scanned ++ (s.objects - s.inuse) ∷ []);
      spot = (if s.inuse == 0 then InTrim DropScanned else InTrim ScanNode);
    }

-- ---- what a CPU has of a cache, spot by spot

-- the step at each spot of putting away what a CPU has of a cache (`__flush_cpu_slab`)
abbrev pub offline_step : Setup → Local → OfflineSpot → Step
offline_step m l LoadCurrent = load_cpu l
offline_step m l DetachCurrent = change_cpu l (detached_word m l)
offline_step m l TakeCurrent = take_list l

-- where its answer leads (`__flush_cpu_slab`)
abbrev pub offline_advance : Setup → Local → OfflineSpot → Sweep → Answer → Turn
offline_advance m l LoadCurrent sweep (Word x) =
    goes (record l { cpu_word = cpu_in x; spot = way_of_current sweep (cpu_in x) })
-- also under a spent transaction id
offline_advance m l DetachCurrent sweep Won =
    let hand = hand_from l.cpu_word.frame l.cpu_word.head in
    goes (record (with_hand l hand) {
      count = l.count + if_flushing sweep 1;
      spot = way_of_away hand (ForSweep sweep);
    })
offline_advance m l DetachCurrent sweep (Lost x) = goes (at l (InOffline LoadCurrent sweep))
offline_advance m l TakeCurrent sweep (Word x) = list_swept m l sweep (list_in x)
offline_advance m l s sweep a = goes l

-- ---- the end of a trim, spot by spot

-- the step at each spot of the end of a trim (`__kmem_cache_do_shrink`)
abbrev pub trim_step : (ℕ → LockValue) → Local → TrimSpot → Step
trim_step value l LockTrim = take_node l
trim_step value l ScanNode = no_step
trim_step value l LoadScanned = load_slab (scanned_slab value l)
trim_step value l DropScanned = no_step
trim_step value l GiveTrim = give_node l

-- where its answer leads (`__kmem_cache_do_shrink`)
abbrev pub trim_advance : Local → TrimSpot → Answer → Turn
trim_advance l LockTrim Won = goes (record l { scanned = []; spot = InTrim ScanNode })
trim_advance l LoadScanned (Word x) = goes (scanned_word l (slab_in x))
trim_advance l GiveTrim Done = tells (at l Between) (Trimmed l.count)
trim_advance l s a = goes l

-- once each slab was loaded, those with few free objects come first (`__kmem_cache_do_shrink`
-- splices its `promote` lists, by count of free objects)
abbrev pub scan_node : Setup → (ℕ → LockValue) → Local → List ℕ → Change
scan_node m value l frames =
    if nat_lt (length l.scanned) (length frames) then stays value (at l (InTrim LoadScanned))
    else stays (with_node value l (m.means.promote frames l.scanned)) (at l (InTrim GiveTrim))

-- a list without the element at a place (`list_move` of `__kmem_cache_do_shrink`)
abbrev pub without_at : List ℕ → ℕ → List ℕ
without_at frames n = take n frames ++ drop (n + 1) frames

-- what is done under the node lock without a step: the scan goes on, an empty slab comes off the
-- list (`__kmem_cache_do_shrink`)
abbrev pub trim_at_once : Setup → (ℕ → LockValue) → Local → TrimSpot → Change
trim_at_once m value l ScanNode = scan_node m value l (node_of value l)
trim_at_once m value l DropScanned =
    stays (with_node value l (without_at (node_of value l) (length l.scanned)))
    (at (with_hand l (bare_hand (scanned_slab value l))) (InDiscard Unmake FromTrim))
trim_at_once m value l s = stays value l
