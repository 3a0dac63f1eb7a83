-- No step is on a word of a CPU that the machine hasn't.
use Rattle.std.proofs.Common.{◌≡◌, ℕ, ◌+◌, ◌%◌, ◌<◌, ◌≤◌, ◌⊎◌, true, List, set, refl, sym, ap, ◌∙◌, arith, inl, inr}
use Rattle.std.proofs.lemmas.List.{get_or-set_other}
use Rattle.slub_core.specs.declared.call.CallKind.{CallKind}
use Rattle.slub_core.specs.declared.spot.Spot.{Spot}
use Rattle.slub_core.specs.declared.spot.Spot.TheVariants.{InAlloc, InPutAway, InDiscard, InPutOnList, InFree, InMoveSet, InOffline, InTrim, WriteWord, ReadWord, InChecked}
use Rattle.slub_core.specs.declared.spot.Away.{Away}
use Rattle.slub_core.specs.declared.spot.Discard.{Discard}
use Rattle.slub_core.specs.declared.spot.PutOnList.{PutOnList}
use Rattle.slub_core.specs.declared.spot.MoveSet.{MoveSet}
use Rattle.slub_core.specs.declared.spot.Sweep.{Sweep}
use Rattle.slub_core.specs.declared.spot.AllocSpot.{AllocSpot}
use Rattle.slub_core.specs.declared.spot.AllocSpot.TheVariants.{LoadCpu, LoadNext, Pop, Detach, LoadTaken, TakeAll, MarkFull, TakeList, FollowFront, LoadKept, FreezeKept, LockNode, LoadPopped, FreezePopped, Unlist, GiveNode, LockPool, GivePool, GiveDry, LinkNew, Make, LoadReady, LoadAgain, DetachOther, Install, PopNode, TakeRun}
use Rattle.slub_core.specs.declared.spot.PutAwaySpot.{PutAwaySpot}
use Rattle.slub_core.specs.declared.spot.PutAwaySpot.TheVariants.{WalkChain, LockAway, LoadAway, LinkLast, Unfreeze, GiveAway, PutNode}
use Rattle.slub_core.specs.declared.spot.DiscardSpot.{DiscardSpot}
use Rattle.slub_core.specs.declared.spot.DiscardSpot.TheVariants.{Unmake, LockDiscard, GiveDiscard, PutRun}
use Rattle.slub_core.specs.declared.spot.PutOnListSpot.{PutOnListSpot}
use Rattle.slub_core.specs.declared.spot.PutOnListSpot.TheVariants.{LoadList, WalkString, LinkString, PushString}
use Rattle.slub_core.specs.declared.spot.FreeSpot.{FreeSpot}
use Rattle.slub_core.specs.declared.spot.FreeSpot.TheVariants.{TakeBoard, LoadOwn, LinkOwn, Push, LoadSlab, LinkSlab, FreeSlab, LockFree, LoadLocked, GoBack, LinkLocked, FreeLocked, GiveFree, LoadCount, TakeSet, TakeOff}
use Rattle.slub_core.specs.declared.spot.MoveSetSpot.{MoveSetSpot}
use Rattle.slub_core.specs.declared.spot.MoveSetSpot.TheVariants.{LockMove, FollowSet, LoadMoved, ListSlab, GiveMove, ChooseFront, PutTail}
use Rattle.slub_core.specs.declared.spot.OfflineSpot.{OfflineSpot}
use Rattle.slub_core.specs.declared.spot.OfflineSpot.TheVariants.{LoadCurrent, DetachCurrent, TakeCurrent}
use Rattle.slub_core.specs.declared.spot.TrimSpot.{TrimSpot}
use Rattle.slub_core.specs.declared.spot.TrimSpot.TheVariants.{LockTrim, LoadScanned, GiveTrim, ScanNode, DropScanned}
use Rattle.slub_core.specs.declared.spot.CheckedSpot.{CheckedSpot}
use Rattle.slub_core.specs.declared.spot.CheckedSpot.TheVariants.{LockChecked, LockRun, GiveRun, GiveChecked, DoChecked, MoveRun, AddSlab}
use Rattle.slub_core.specs.declared.spot.Spot.TheVariants.{Between}
use Rattle.slub_core.specs.declared.step.Place.{Place}
use Rattle.slub_core.specs.declared.step.Place.TheVariants.{LockOf, ListOf, CpuOf, SlabOf, BoardOf, MemoryOf, LinkOf}
use Rattle.slub_words.specs.declared.cpu.CpuWord.{CpuWord}
use Rattle.slub_core.specs.Setup.{Setup, node_lock}
use Rattle.slub_core.specs.Words.{list_base, cpu_base, number_of, cpu_in, list_in}
use Rattle.slub_core.specs.World.{LockValue, world_of}
use Rattle.slub_core.specs.Local.{Local}
use Rattle.slub_core.specs.Ops.{own_cpu}
use Rattle.slub_core.specs.Alloc.{alloc_step}
use Rattle.slub_core.specs.PutAway.{put_away_step}
use Rattle.slub_core.specs.Discard.{discard_step}
use Rattle.slub_core.specs.PutOnList.{put_on_list_step}
use Rattle.slub_core.specs.Free.{free_step}
use Rattle.slub_core.specs.MoveSet.{move_set_step}
use Rattle.slub_core.specs.Offline.{offline_step, trim_step}
use Rattle.slub_core.specs.Checked.{checked_step}
use Rattle.slub_core.specs.Spots.{in_plain, in_checked}
use Rattle.slub_core.specs.Steps.{step_at}
use Rattle.slub_core.proofs.StepWords.{cpu-read, list-read}
use Rattle.slub_law_opening.specs.Bounded.{IsUnused}

-- ---- where a step is

-- of CPU words and list words it is on the worker's own, of locks on the pool's or its cache's
abbrev pub IsPlaceOf : Local → Spot → Place → Type 0
IsPlaceOf l s (LockOf n) = (n ≡ 0) ⊎ ((n ≡ node_lock l.cache) × ((in_plain s ≡ true) ⊎ (in_checked s ≡ true)))
IsPlaceOf l s (ListOf n) = (n ≡ own_cpu l) × (in_plain s ≡ true)
IsPlaceOf l s (CpuOf n) = (n ≡ own_cpu l) × (in_plain s ≡ true)
IsPlaceOf l s (SlabOf f) = Unit {0}
IsPlaceOf l s (BoardOf o) = Unit {0}
IsPlaceOf l s (MemoryOf p) = Unit {0}
IsPlaceOf l s (LinkOf f) = Unit {0}

alloc-place : (m : Setup) (l : Local) (s : AllocSpot) → IsPlaceOf l (InAlloc s) (alloc_step m l s).place
alloc-place m l LoadCpu = (refl, refl)
alloc-place m l LoadNext = tt
alloc-place m l Pop = (refl, refl)
alloc-place m l Detach = (refl, refl)
alloc-place m l LoadTaken = tt
alloc-place m l TakeAll = tt
alloc-place m l MarkFull = tt
alloc-place m l TakeList = (refl, refl)
alloc-place m l FollowFront = tt
alloc-place m l LoadKept = tt
alloc-place m l FreezeKept = tt
alloc-place m l LockNode = inr (refl, inl refl)
alloc-place m l PopNode = inl refl
alloc-place m l LoadPopped = tt
alloc-place m l FreezePopped = tt
alloc-place m l Unlist = tt
alloc-place m l GiveNode = inr (refl, inl refl)
alloc-place m l LockPool = inl refl
alloc-place m l TakeRun = inl refl
alloc-place m l GivePool = inl refl
alloc-place m l GiveDry = inl refl
alloc-place m l (LinkNew i) = tt
alloc-place m l Make = tt
alloc-place m l LoadReady = tt
alloc-place m l LoadAgain = (refl, refl)
alloc-place m l DetachOther = (refl, refl)
alloc-place m l Install = (refl, refl)

put_away-place : (m : Setup) (value : ℕ → LockValue) (l : Local) (s : PutAwaySpot) (away : Away) → IsPlaceOf l (InPutAway s away) (put_away_step m value l s).place
put_away-place m value l WalkChain away = tt
put_away-place m value l LockAway away = inr (refl, inl refl)
put_away-place m value l LoadAway away = tt
put_away-place m value l LinkLast away = tt
put_away-place m value l Unfreeze away = tt
put_away-place m value l PutNode away = inl refl
put_away-place m value l GiveAway away = inr (refl, inl refl)

discard-place : (l : Local) (s : DiscardSpot) (discard : Discard) → IsPlaceOf l (InDiscard s discard) (discard_step l s).place
discard-place l Unmake discard = tt
discard-place l LockDiscard discard = inl refl
discard-place l PutRun discard = inl refl
discard-place l GiveDiscard discard = inl refl

put_on_list-place : (l : Local) (s : PutOnListSpot) (put : PutOnList) → IsPlaceOf l (InPutOnList s put) (put_on_list_step l s).place
put_on_list-place l LoadList put = (refl, refl)
put_on_list-place l WalkString put = tt
put_on_list-place l LinkString put = tt
put_on_list-place l PushString put = (refl, refl)

free-place : (m : Setup) (l : Local) (s : FreeSpot) → IsPlaceOf l (InFree s) (free_step m l s).place
free-place m l TakeBoard = tt
free-place m l LoadOwn = (refl, refl)
free-place m l LinkOwn = tt
free-place m l Push = (refl, refl)
free-place m l LoadSlab = tt
free-place m l LinkSlab = tt
free-place m l FreeSlab = tt
free-place m l LockFree = inr (refl, inl refl)
free-place m l LoadLocked = tt
free-place m l GoBack = inr (refl, inl refl)
free-place m l LinkLocked = tt
free-place m l FreeLocked = tt
free-place m l TakeOff = inl refl
free-place m l GiveFree = inr (refl, inl refl)
free-place m l LoadCount = (refl, refl)
free-place m l TakeSet = (refl, refl)

move_set-place : (l : Local) (s : MoveSetSpot) (move : MoveSet) → IsPlaceOf l (InMoveSet s move) (move_set_step l s).place
move_set-place l LockMove move = inr (refl, inl refl)
move_set-place l ChooseFront move = inl refl
move_set-place l FollowSet move = tt
move_set-place l LoadMoved move = tt
move_set-place l ListSlab move = tt
move_set-place l PutTail move = inl refl
move_set-place l GiveMove move = inr (refl, inl refl)

offline-place : (m : Setup) (l : Local) (s : OfflineSpot) (sweep : Sweep) → IsPlaceOf l (InOffline s sweep) (offline_step m l s).place
offline-place m l LoadCurrent sweep = (refl, refl)
offline-place m l DetachCurrent sweep = (refl, refl)
offline-place m l TakeCurrent sweep = (refl, refl)

trim-place : (value : ℕ → LockValue) (l : Local) (s : TrimSpot) → IsPlaceOf l (InTrim s) (trim_step value l s).place
trim-place value l LockTrim = inr (refl, inl refl)
trim-place value l ScanNode = inl refl
trim-place value l LoadScanned = tt
trim-place value l DropScanned = inl refl
trim-place value l GiveTrim = inr (refl, inl refl)

checked-place : (l : Local) (s : CheckedSpot) (kind : CallKind) → IsPlaceOf l (InChecked s kind) (checked_step l s).place
checked-place l LockChecked kind = inr (refl, inr refl)
checked-place l DoChecked kind = inl refl
checked-place l LockRun kind = inl refl
checked-place l MoveRun kind = inl refl
checked-place l AddSlab kind = inl refl
checked-place l GiveRun kind = inl refl
checked-place l GiveChecked kind = inr (refl, inr refl)

step-place : (m : Setup) (value : ℕ → LockValue) (l : Local) (s : Spot) → IsPlaceOf l s (step_at m value l s).place
step-place m value l Between = inl refl
step-place m value l (InAlloc s) = alloc-place m l s
step-place m value l (InPutAway s away) = put_away-place m value l s away
step-place m value l (InDiscard s discard) = discard-place l s discard
step-place m value l (InPutOnList s put) = put_on_list-place l s put
step-place m value l (InFree s) = free-place m l s
step-place m value l (InMoveSet s move) = move_set-place l s move
step-place m value l (InOffline s sweep) = offline-place m l s sweep
step-place m value l (InTrim s) = trim-place value l s
step-place m value l WriteWord = tt
step-place m value l ReadWord = tt
step-place m value l (InChecked s kind) = checked-place l s kind

-- ---- words of other CPUs

-- the worker's cache and CPU are the machine's
pub record IsOfMachine (m : Setup) (l : Local) (s : Spot) : Type 0 where
  pub frames : 2 ≤ m.frames
  pub cpus : m.cpus ≤ 16
  pub cpu : l.cpu < m.cpus
  pub plain : in_plain s ≡ true → l.cache < 32
  pub checked : in_checked s ≡ true → l.cache < 32

cpu-apart : (m : Setup) (l : Local) (s : Spot) (place : Place) (n : ℕ) → IsOfMachine m l s → n < 512 → m.cpus ≤ n % 16 → IsPlaceOf l s place → cpu_base + n ≡ number_of m place → ⊥
cpu-apart m l s (LockOf k) n of below past (inl e) same = absurd (omega arith)
cpu-apart m l s (LockOf k) n of below past (inr (e, inl is)) same = absurd (let c = of.plain is in omega arith)
cpu-apart m l s (LockOf k) n of below past (inr (e, inr is)) same = absurd (let c = of.checked is in omega arith)
cpu-apart m l s (ListOf k) n of below past (e, is) same = absurd (let c = of.plain is in let d = of.cpu in let b = of.cpus in omega arith)
cpu-apart m l s (CpuOf k) n of below past (e, is) same = absurd (let c = of.plain is in let d = of.cpu in let b = of.cpus in omega arith)
cpu-apart m l s (SlabOf f) n of below past is same = absurd (omega arith)
cpu-apart m l s (BoardOf o) n of below past is same = absurd (let f = of.frames in omega arith)
cpu-apart m l s (MemoryOf p) n of below past is same = absurd (let f = of.frames in omega arith)
cpu-apart m l s (LinkOf f) n of below past is same = absurd (let f = of.frames in omega arith)

list-apart : (m : Setup) (l : Local) (s : Spot) (place : Place) (n : ℕ) → IsOfMachine m l s → n < 512 → m.cpus ≤ n % 16 → IsPlaceOf l s place → list_base + n ≡ number_of m place → ⊥
list-apart m l s (LockOf k) n of below past (inl e) same = absurd (omega arith)
list-apart m l s (LockOf k) n of below past (inr (e, inl is)) same = absurd (let c = of.plain is in omega arith)
list-apart m l s (LockOf k) n of below past (inr (e, inr is)) same = absurd (let c = of.checked is in omega arith)
list-apart m l s (ListOf k) n of below past (e, is) same = absurd (let c = of.plain is in let d = of.cpu in let b = of.cpus in omega arith)
list-apart m l s (CpuOf k) n of below past (e, is) same = absurd (let c = of.plain is in let d = of.cpu in let b = of.cpus in omega arith)
list-apart m l s (SlabOf f) n of below past is same = absurd (omega arith)
list-apart m l s (BoardOf o) n of below past is same = absurd (let f = of.frames in omega arith)
list-apart m l s (MemoryOf p) n of below past is same = absurd (let f = of.frames in omega arith)
list-apart m l s (LinkOf f) n of below past is same = absurd (let f = of.frames in omega arith)

-- they stay as they are, whatever the step leaves in its word
pub unused-stays : (m : Setup) (value after : ℕ → LockValue) (words : List ℕ) (l : Local) (s : Spot) (v n : ℕ) → IsOfMachine m l s → m.cpu_words ≡ 512 → n < 512 → m.cpus ≤ n % 16 → IsUnused (world_of m value words) n
    → IsUnused (world_of m after (set words (number_of m (step_at m value l s).place) v)) n
unused-stays m value after words l s v n of count below past is =
    let place = (step_at m value l s).place in
    let k = number_of m place in
    let at = step-place m value l s in
    let inside : n < m.cpu_words = omega arith in
    let cpu = cpu-read m after (set words k v) n inside ∙ ap cpu_in (get_or-set_other words k (cpu_base + n) v 0 (cpu-apart m l s place n of below past at)) ∙ sym (cpu-read m value words n inside) in
    let list = list-read m after (set words k v) n inside ∙ ap list_in (get_or-set_other words k (list_base + n) v 0 (list-apart m l s place n of below past at)) ∙ sym (list-read m value words n inside) in
    record { frame = ap (λ (c : CpuWord). c.frame) cpu ∙ is.frame; head = ap (λ (c : CpuWord). c.head) cpu ∙ is.head; list = list ∙ is.list }
