-- Which spots are among which, and what is in hand there.
use Rattle.std.proofs.Common.{◌≡◌, ℕ, ◌≤◌, ◌⊎◌, true, inl, inr, List, [], ◌∷◌, length, refl, arith}
use Rattle.std.proofs.lemmas.Bool.{false≢true}
use Rattle.slub_core.specs.declared.local.Hand.{Hand}
use Rattle.slub_core.specs.Spots.{takes_head, frees, links_cpu, links_slab, notes_cpu, notes_next, has_freed_last, has_node, notes_scanned, scans, scans_next, is_emptied, has_run, in_plain, in_checked, roles}
use Rattle.slub_core.specs.Fresh.{AreHands}
use Rattle.slub_core.specs.declared.spot.Spot.{Spot}
use Rattle.slub_core.specs.declared.spot.Spot.TheVariants.{InAlloc, InDiscard, InFree, InTrim, InChecked}
use Rattle.slub_core.specs.declared.spot.AllocSpot.TheVariants.{Pop, GivePool, LinkNew, Make}
use Rattle.slub_core.specs.declared.spot.Discard.TheVariants.{FromTrim}
use Rattle.slub_core.specs.declared.spot.DiscardSpot.TheVariants.{Unmake, LockDiscard, PutRun}
use Rattle.slub_core.specs.declared.spot.FreeSpot.TheVariants.{LoadOwn, LinkOwn, Push, LoadSlab, LinkSlab, FreeSlab, LockFree, LoadLocked, GoBack, LinkLocked, FreeLocked, TakeOff}
use Rattle.slub_core.specs.declared.spot.TrimSpot.TheVariants.{ScanNode, LoadScanned, DropScanned}

-- a noted next is one of a noted CPU word
pub next-cpu : (s : Spot) → notes_next s ≡ true → notes_cpu s ≡ true
next-cpu (InAlloc Pop) e = refl
next-cpu _ e = absurd (false≢true e)

pub next-head : (s : Spot) → notes_next s ≡ true → takes_head s ≡ true
next-head (InAlloc Pop) e = refl
next-head _ e = absurd (false≢true e)

pub next-plain : (s : Spot) → notes_next s ≡ true → in_plain s ≡ true
next-plain (InAlloc Pop) e = refl
next-plain _ e = absurd (false≢true e)

-- what is linked is being freed, and that is of an unchecked cache
pub linked_cpu-frees : (s : Spot) → links_cpu s ≡ true → frees s ≡ true
linked_cpu-frees (InFree Push) e = refl
linked_cpu-frees _ e = absurd (false≢true e)

pub linked_slab-frees : (s : Spot) → links_slab s ≡ true → frees s ≡ true
linked_slab-frees (InFree FreeSlab) e = refl
linked_slab-frees (InFree FreeLocked) e = refl
linked_slab-frees _ e = absurd (false≢true e)

pub frees-plain : (s : Spot) → frees s ≡ true → in_plain s ≡ true
frees-plain (InFree LoadOwn) e = refl
frees-plain (InFree LinkOwn) e = refl
frees-plain (InFree Push) e = refl
frees-plain (InFree LoadSlab) e = refl
frees-plain (InFree LinkSlab) e = refl
frees-plain (InFree FreeSlab) e = refl
frees-plain (InFree LockFree) e = refl
frees-plain (InFree LoadLocked) e = refl
frees-plain (InFree GoBack) e = refl
frees-plain (InFree LinkLocked) e = refl
frees-plain (InFree FreeLocked) e = refl
frees-plain _ e = absurd (false≢true e)

pub freed_last-plain : (s : Spot) → has_freed_last s ≡ true → in_plain s ≡ true
freed_last-plain (InFree TakeOff) e = refl
freed_last-plain _ e = absurd (false≢true e)

pub scanned-plain : (s : Spot) → notes_scanned s ≡ true → in_plain s ≡ true
scanned-plain (InTrim DropScanned) e = refl
scanned-plain _ e = absurd (false≢true e)

-- a node list is relied on under its lock
pub freed_last-node : (s : Spot) → has_freed_last s ≡ true → has_node s ≡ true
freed_last-node (InFree TakeOff) e = refl
freed_last-node _ e = absurd (false≢true e)

pub scanned-node : (s : Spot) → notes_scanned s ≡ true → has_node s ≡ true
scanned-node (InTrim DropScanned) e = refl
scanned-node _ e = absurd (false≢true e)

pub scan-node : (s : Spot) → scans s ≡ true → has_node s ≡ true
scan-node (InTrim ScanNode) e = refl
scan-node (InTrim LoadScanned) e = refl
scan-node (InTrim DropScanned) e = refl
scan-node (InDiscard s FromTrim) e = refl
scan-node _ e = absurd (false≢true e)

pub scan_next-node : (s : Spot) → scans_next s ≡ true → has_node s ≡ true
scan_next-node (InTrim LoadScanned) e = refl
scan_next-node (InTrim DropScanned) e = refl
scan_next-node _ e = absurd (false≢true e)

-- a slab that is about to be discarded is in hand
pub emptied-hand : (s : Spot) (n : ℕ) (hs : List Hand) (xss : List (List ℕ)) → is_emptied s ≡ true → AreHands (roles s n) hs xss → 1 ≤ length hs
emptied-hand (InDiscard Unmake discard) n [] [] e ok = absurd ok
emptied-hand (InDiscard Unmake discard) n [] (xs ∷ xss) e ok = absurd ok
emptied-hand (InDiscard Unmake discard) n (h ∷ hs) xss e ok = omega arith
emptied-hand _ n hs xss e ok = absurd (false≢true e)

-- a run in hand is for a live cache
pub run-cache : (s : Spot) → has_run s ≡ true → (in_plain s ≡ true) ⊎ (in_checked s ≡ true)
run-cache (InAlloc GivePool) e = inl refl
run-cache (InAlloc (LinkNew i)) e = inl refl
run-cache (InAlloc Make) e = inl refl
run-cache (InDiscard LockDiscard discard) e = inl refl
run-cache (InDiscard PutRun discard) e = inl refl
run-cache (InChecked s kind) e = inr refl
run-cache _ e = absurd (false≢true e)
