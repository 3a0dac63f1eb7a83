-- What stays while a round runs beside what is coherent: how far a worker counts, which number it
-- has, CPUs without a slab, and flags.
use Rattle.std.specs.Prelude.{◌≡◌, ℕ, ◌+◌, ◌*◌, ◌/◌, ◌%◌, ◌^◌, ◌<◌, ◌≤◌, ◌==◌, Bool, true, false, if◌then◌else◌, length, slice_index_or, Option, IfSome, All}
use Rattle.slub_object_layout.specs.declared.layout.Flags.{Flags}
use Rattle.slub_core.specs.declared.local.Known.{Known}
use Rattle.slub_core.specs.declared.spot.Spot.{Spot}
use Rattle.slub_core.specs.declared.spot.Spot.TheVariants.{InAlloc, InPutAway, InDiscard, InPutOnList, InMoveSet, InOffline, InTrim}
use Rattle.slub_core.specs.declared.spot.AllocSpot.TheVariants.{PopNode, LoadPopped, FreezePopped, Unlist}
use Rattle.slub_core.specs.declared.spot.Away.{Away}
use Rattle.slub_core.specs.declared.spot.Away.TheVariants.{ForInstall, ForSpent, ForSweep}
use Rattle.slub_core.specs.declared.spot.PutAwaySpot.{PutAwaySpot}
use Rattle.slub_core.specs.declared.spot.PutAwaySpot.TheVariants.{GiveAway}
use Rattle.slub_core.specs.declared.spot.Discard.{Discard}
use Rattle.slub_core.specs.declared.spot.Discard.TheVariants.{FromAway, FromFree, FromMove, FromTrim}
use Rattle.slub_core.specs.declared.spot.DiscardSpot.TheVariants.{Unmake}
use Rattle.slub_core.specs.declared.spot.PutOnList.{PutOnList}
use Rattle.slub_core.specs.declared.spot.PutOnList.TheVariants.{OfRest, OfNode, OfFree}
use Rattle.slub_core.specs.declared.spot.MoveSet.{MoveSet}
use Rattle.slub_core.specs.declared.spot.MoveSet.TheVariants.{ForFree, ForOffline}
use Rattle.slub_core.specs.declared.spot.MoveSetSpot.{MoveSetSpot}
use Rattle.slub_core.specs.declared.spot.MoveSetSpot.TheVariants.{LoadMoved, ListSlab, PutTail}
use Rattle.slub_core.specs.declared.spot.Sweep.{Sweep}
use Rattle.slub_core.specs.declared.spot.Sweep.TheVariants.{Trimming, Flushing}
use Rattle.slub_core.specs.declared.spot.OfflineSpot.TheVariants.{TakeCurrent}
use Rattle.slub_core.specs.declared.spot.TrimSpot.TheVariants.{LockTrim, GiveTrim}
use Rattle.slub_core.specs.Setup.{Setup, node_lock}
use Rattle.slub_core.specs.Words.{no_list_word}
use Rattle.slub_core.specs.World.{World, LockValue, world_of}
use Rattle.slub_core.specs.Local.{Local, string_of}
use Rattle.slub_core.specs.Alloc.{node_of}
use Rattle.slub_core.specs.Offline.{if_trimming}
use Rattle.slub_core.specs.Discard.{counts_for}
use Rattle.slub_core.specs.Run.{System, idle}
use Rattle.slub_law_opening.specs.Closing.{checked_in}

-- ---- slabs that an allocation puts on the CPU's partial list

abbrev pub of_node : PutOnList → Bool
of_node OfRest = false
of_node OfNode = true
of_node OfFree = false

-- it asks the node list for slabs
abbrev pub asks_node : Spot → Bool
asks_node (InAlloc PopNode) = true
asks_node (InAlloc LoadPopped) = true
asks_node (InAlloc FreezePopped) = true
asks_node (InAlloc Unlist) = true
asks_node (InPutOnList s put) = of_node put
asks_node _ = false

-- it has put half of what the list is to hold, and this many more: one, once it needn't put
-- another. The one slab in hand, of n, is the first, which isn't put
abbrev pub more_put : Spot → ℕ → ℕ
more_put (InAlloc PopNode) n = 1
more_put (InAlloc LoadPopped) n = if n == 1 then 1 else 0
more_put (InAlloc FreezePopped) n = if n == 1 then 1 else 0
more_put _ n = 0

-- ---- slabs that a trim or a flush tells of

-- the CPU that a trim has come to, or the place of the cache that a flush has come to
abbrev pub come_to : ℕ → ℕ → Sweep → ℕ
come_to cpu turn Trimming = cpu
come_to cpu turn Flushing = turn

-- how many CPUs or caches it has come to, and the node list as one more; 33 where no sweep is: no
-- sweep comes to more
abbrev pub come_with : ℕ → ℕ → Discard → ℕ
come_with cpu turn (FromAway ForInstall) = 33
come_with cpu turn (FromAway ForSpent) = 33
come_with cpu turn (FromAway (ForSweep sweep)) = come_to cpu turn sweep + 1
come_with cpu turn FromFree = 33
come_with cpu turn (FromMove ForFree) = 33
come_with cpu turn (FromMove (ForOffline sweep)) = come_to cpu turn sweep + 1
come_with cpu turn FromTrim = cpu + 2

abbrev pub come_by : ℕ → ℕ → Spot → ℕ
come_by cpu turn (InOffline s sweep) = come_to cpu turn sweep + 1
come_by cpu turn (InPutAway s away) = come_with cpu turn (FromAway away)
come_by cpu turn (InMoveSet s move) = come_with cpu turn (FromMove move)
come_by cpu turn (InTrim s) = come_with cpu turn FromTrim
come_by cpu turn (InDiscard s discard) = come_with cpu turn discard
come_by cpu turn _ = 33

-- after its current slab the partial list of a CPU is to come: 4095 slabs at most
abbrev pub left_away : Away → ℕ
left_away ForInstall = 0
left_away ForSpent = 0
left_away (ForSweep sweep) = 4095

-- of a string of so many slabs in hand a trim may discard all; a flush has told of all
abbrev pub left_to_move : ℕ → MoveSet → ℕ
left_to_move string ForFree = 0
left_to_move string (ForOffline sweep) = if_trimming sweep string

-- what is to come once the slab in hand is discarded: a partial list, the rest of the string, the
-- slabs of the node list
abbrev pub left_beside : ℕ → ℕ → Discard → ℕ
left_beside string nodes (FromAway away) = left_away away
left_beside string nodes FromFree = 0
left_beside string nodes (FromMove move) = left_to_move string move
left_beside string nodes FromTrim = nodes

-- a slab that is put away, or moved, may be discarded
abbrev pub if_away : PutAwaySpot → ℕ → ℕ
if_away GiveAway n = 0
if_away _ n = n

abbrev pub if_moved : MoveSetSpot → ℕ → ℕ
if_moved LoadMoved n = n
if_moved ListSlab n = n
if_moved PutTail n = n
if_moved _ n = 0

-- of how many slabs it may tell yet at the CPU, the cache or the node list that it has come to: by
-- how many are in its string in hand and on the node list
abbrev pub left_to_tell : ℕ → ℕ → Spot → ℕ
left_to_tell string nodes (InOffline TakeCurrent sweep) = 4095
left_to_tell string nodes (InOffline s sweep) = 4096
left_to_tell string nodes (InPutAway s away) =
    left_away away + if_away s (counts_for (FromAway away))
left_to_tell string nodes (InDiscard Unmake discard) =
    left_beside string nodes discard + counts_for discard
left_to_tell string nodes (InDiscard s discard) = left_beside string nodes discard
left_to_tell string nodes (InMoveSet s move) =
    left_to_move string move + if_moved s (counts_for (FromMove move))
left_to_tell string nodes (InTrim LockTrim) = 4096
left_to_tell string nodes (InTrim GiveTrim) = 0
left_to_tell string nodes (InTrim s) = nodes
left_to_tell string nodes _ = 0

-- ---- one worker

-- what a worker counts, at a spot
pub record CountsFew (m : Setup) (value : ℕ → LockValue) (l : Local) (s : Spot) : Type 0 where
  -- slabs that an allocation put on the CPU's partial list: half of what that is to hold, and one
  pub put : l.put ≤ 4097
  pub asked : asks_node s ≡ true
      → l.put ≤ (m.layout l.cache).cpu_partial_slabs / 2 + more_put s (length l.hands)
  -- slabs that a trim or a flush is to tell of: with those to come, 4096 for each CPU or cache
  -- that it has come to
  pub count : l.count + left_to_tell (string_of l).count (length (node_of value l)) s
      ≤ 4096 * come_by l.cpu l.turn s

-- what it holds, it holds under a number from 1 on
abbrev pub HoldsNamed : Local → Type 0
HoldsNamed l = All (λ (k : Known). k.held ≡ true → 1 ≤ k.object) l.known

-- a worker between two turns
pub record IsWithin (m : Setup) (value : ℕ → LockValue) (l : Local) : Type 0 where
  pub few : CountsFew m value l l.spot
  pub some : HoldsNamed l

-- so there is room for one slab more that is put, and for as many that are told of as a partial
-- list may have
pub record MayCount (l : Local) : Type 0 where
  pub put : l.put + 1 < 2 ^ 32
  pub count : l.count + 2 ^ 16 ≤ 2 ^ 32

-- ---- the machine

-- a CPU that the machine hasn't has no slab, and none on its partial list
pub record IsUnused (w : World) (n : ℕ) : Type 0 where
  pub frame : (w.cpu n).frame ≡ 0
  pub head : (w.cpu n).head ≡ 0
  pub list : w.list n ≡ no_list_word

-- `kept`: the flags of the live caches, as they were when the round began
pub record IsBounded (m : Setup) (kept : ℕ → Option Flags) (s : System) : Type 0 where
  -- of what stays: how many slabs a CPU's partial list is to hold, and how many caches there are
  pub tuned : (cache : ℕ) → (m.layout cache).cpu_partial_slabs ≤ 8192
  pub plain : length m.plain ≤ 32
  -- nothing is under way where the machine has no CPU
  pub unused : (n : ℕ) → n < 512 → m.cpus ≤ n % 16 → IsUnused (world_of m s.value s.words) n
  -- each worker has the number of its place, and counts no further than its numbers go
  pub numbers : (k : ℕ) → k < length s.locals → (slice_index_or s.locals k idle).worker ≡ k
  pub workers : All (IsWithin m s.value) s.locals
  -- checked slabs have their cache's flags
  pub flags : (cache : ℕ) → IfSome (checked_in (s.value (node_lock cache)))
      (λ slabs. IfSome (kept cache) (λ flags. flags ≡ slabs.flags))
