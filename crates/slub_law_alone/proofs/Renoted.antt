-- A noted CPU word is not looked at where it isn't relied on: a worker that has noted another one makes the same steps, and comes to the same, until it loads the word again.
use Rattle.std.proofs.Common.{◌≡◌, ℕ, ◌+◌, ◌-◌, ◌%◌, ◌^◌, ◌⊎◌, ◌==◌, ◌&&◌, ◌||◌, Bool, true, false, if◌then◌else◌, Option, Some, None, List, [], ◌∷◌, length, get_or, refl, sym, ap, ◌∙◌, inl, inr}
use Rattle.std.specs.Prelude.{nat_lt}
use Rattle.std.proofs.lemmas.Bool.{cases_Bool, false≢true}
use Rattle.slub_trace.specs.declared.reply.Reply.{Reply}
use Rattle.slub_words.specs.declared.cpu.CpuWord.{CpuWord}
use Rattle.slub_words.specs.declared.board.BoardWord.{BoardWord}
use Rattle.slub_cpu_partial.specs.declared.words.ListWord.{ListWord}
use Rattle.slub_page_pool.specs.FreeFrames.{FreeFrames}
use Rattle.slub_object_layout.specs.declared.layout.Layout.{Layout}
use Rattle.slub_red_zone.specs.State.{CheckedState}
use Rattle.slub_red_zone.specs.declared.checked.CheckedGive.{CheckedGive}
use Rattle.slub_red_zone.specs.declared.checked.CheckedGive.TheVariants as give
use Rattle.slub_trace.specs.declared.damage.Damage.{Damage}
use Rattle.slub_red_zone.specs.Steps.{damage_of_used, with_taken}
use Rattle.slub_core.specs.declared.call.Call.{Call}
use Rattle.slub_core.specs.declared.call.CallKind.{CallKind}
use Rattle.slub_core.specs.declared.call.CallKind.TheVariants.{Alloc, Free, Write, Read, Poke, Trim, Flush}
use Rattle.slub_core.specs.declared.local.FrameRun.{FrameRun}
use Rattle.slub_core.specs.declared.local.PartialString.{PartialString}
use Rattle.slub_core.specs.declared.step.Answer.{Answer}
use Rattle.slub_core.specs.declared.step.Answer.TheVariants.{Word, Done, Won, Lost}
use Rattle.slub_core.specs.declared.spot.Spot.{Spot}
use Rattle.slub_core.specs.declared.spot.Spot.TheVariants.{Between, InAlloc, InPutAway, InDiscard, InPutOnList, InFree, InMoveSet, InOffline, InTrim, WriteWord, ReadWord, InChecked}
use Rattle.slub_core.specs.declared.spot.Away.{Away}
use Rattle.slub_core.specs.declared.spot.Away.TheVariants.{ForInstall, ForSpent, ForSweep}
use Rattle.slub_core.specs.declared.spot.Discard.{Discard}
use Rattle.slub_core.specs.declared.spot.Discard.TheVariants.{FromAway, FromFree, FromMove, FromTrim}
use Rattle.slub_core.specs.declared.spot.PutOnList.{PutOnList}
use Rattle.slub_core.specs.declared.spot.PutOnList.TheVariants.{OfRest, OfNode, OfFree}
use Rattle.slub_core.specs.declared.spot.MoveSet.{MoveSet}
use Rattle.slub_core.specs.declared.spot.MoveSet.TheVariants.{ForFree, ForOffline}
use Rattle.slub_core.specs.declared.spot.Sweep.{Sweep}
use Rattle.slub_core.specs.declared.spot.Sweep.TheVariants.{Trimming, Flushing}
use Rattle.slub_core.specs.declared.spot.AllocSpot.{AllocSpot}
use Rattle.slub_core.specs.declared.spot.AllocSpot.TheVariants.{LoadCpu, LoadNext, Pop, Detach, LoadTaken, TakeAll, MarkFull, TakeList, FollowFront, LoadKept, FreezeKept, LockNode, LoadPopped, FreezePopped, Unlist, GiveNode, LockPool, GivePool, GiveDry, LinkNew, Make, LoadReady, LoadAgain, DetachOther, Install, PopNode, TakeRun}
use Rattle.slub_core.specs.declared.spot.PutAwaySpot.{PutAwaySpot}
use Rattle.slub_core.specs.declared.spot.PutAwaySpot.TheVariants.{WalkChain, LockAway, LoadAway, LinkLast, Unfreeze, GiveAway, PutNode}
use Rattle.slub_core.specs.declared.spot.DiscardSpot.{DiscardSpot}
use Rattle.slub_core.specs.declared.spot.DiscardSpot.TheVariants.{Unmake, LockDiscard, GiveDiscard, PutRun}
use Rattle.slub_core.specs.declared.spot.PutOnListSpot.{PutOnListSpot}
use Rattle.slub_core.specs.declared.spot.PutOnListSpot.TheVariants.{LoadList, WalkString, LinkString, PushString}
use Rattle.slub_core.specs.declared.spot.FreeSpot.{FreeSpot}
use Rattle.slub_core.specs.declared.spot.FreeSpot.TheVariants.{TakeBoard, LoadOwn, LinkOwn, Push, LoadSlab, LinkSlab, FreeSlab, LockFree, LoadLocked, GoBack, LinkLocked, FreeLocked, GiveFree, LoadCount, TakeSet, TakeOff}
use Rattle.slub_core.specs.declared.spot.MoveSetSpot.{MoveSetSpot}
use Rattle.slub_core.specs.declared.spot.MoveSetSpot.TheVariants.{LockMove, FollowSet, LoadMoved, ListSlab, GiveMove, ChooseFront, PutTail}
use Rattle.slub_core.specs.declared.spot.OfflineSpot.{OfflineSpot}
use Rattle.slub_core.specs.declared.spot.OfflineSpot.TheVariants.{LoadCurrent, DetachCurrent, TakeCurrent}
use Rattle.slub_core.specs.declared.spot.TrimSpot.{TrimSpot}
use Rattle.slub_core.specs.declared.spot.TrimSpot.TheVariants.{LockTrim, LoadScanned, GiveTrim, ScanNode, DropScanned}
use Rattle.slub_core.specs.declared.spot.CheckedSpot.{CheckedSpot}
use Rattle.slub_core.specs.declared.spot.CheckedSpot.TheVariants.{LockChecked, LockRun, GiveRun, GiveChecked, DoChecked, MoveRun, AddSlab}
use Rattle.slub_core.specs.Calls.{call_kind, call_cache, call_place}
use Rattle.slub_core.specs.Setup.{Setup, pool_lock}
use Rattle.slub_core.specs.Words.{slab_in, board_in, list_in}
use Rattle.slub_core.specs.World.{LockValue, pool_in}
use Rattle.slub_core.specs.Local.{Local, Turn, Change, nobody, here, hand_of, string_of, run_of, at, answered, noted}
use Rattle.slub_core.specs.Alloc.{way_of_run, found_run, found_at, reached, walked_on, run_taken, alloc_advance, pop_node, node_of, asks_for_another}
use Rattle.slub_core.specs.PutAway.{put_away_advance, has_enough, head_away, unfrozen, is_to_discard, way_of_put}
use Rattle.slub_core.specs.Discard.{discard_advance, way_of_discarded}
use Rattle.slub_core.specs.PutOnList.{put_on_list_advance, leads_to, way_of_pushed, way_of_string, with_cursor}
use Rattle.slub_core.specs.Free.{free_advance, board_taken, is_long, is_last_listed, was_full, count_loaded, set_taken}
use Rattle.slub_core.specs.MoveSet.{front_taken, move_set_advance, after_move}
use Rattle.slub_core.specs.Offline.{offline_advance, trim_advance, scan_node, next_swept, list_swept}
use Rattle.slub_core.specs.Checked.{checked_advance, do_checked, gave, took_back, move_run, way_of_found, slabs_of, slot_of, is_spare}
use Rattle.slub_core.specs.Spots.{notes_cpu}
use Rattle.slub_core.specs.Steps.{step_at, advance_at, at_once, told_at_once, or_step, first_spot, cache_for, begun, begun_at, begun_with, rested, rested_with, rested_at, changed, settled, advance_of}

-- with another noted CPU word
abbrev pub renoted : CpuWord → Local → Local
renoted c l = record l { cpu_word = c }

abbrev pub turn_renoted : CpuWord → Turn → Turn
turn_renoted c t = record { local = renoted c t.local; reply = t.reply }

abbrev pub change_renoted : CpuWord → Change → Change
change_renoted c x = record { value = x.value; local = renoted c x.local; reply = x.reply }

-- the same, or the same but for a noted CPU word that isn't relied on
abbrev TurnsAlike : CpuWord → Turn → Turn → Type 0
TurnsAlike c t u = (u ≡ t) ⊎ ((u ≡ turn_renoted c t) × (notes_cpu t.local.spot ≡ false))

abbrev ChangesAlike : CpuWord → Change → Change → Type 0
ChangesAlike c t u = (u ≡ change_renoted c t) × (notes_cpu t.local.spot ≡ false)

-- ---- ways

way_if : (b : Bool) (s t : Spot) → notes_cpu s ≡ false → notes_cpu t ≡ false → notes_cpu (if b then s else t) ≡ false
way_if true s t one other = one
way_if false s t one other = other

way_put : (away : Away) → notes_cpu (way_of_put away) ≡ false
way_put ForInstall = refl
way_put ForSpent = refl
way_put (ForSweep sweep) = refl

way_discarded : (discard : Discard) → notes_cpu (way_of_discarded discard) ≡ false
way_discarded (FromAway away) = refl
way_discarded FromFree = refl
way_discarded (FromMove move) = refl
way_discarded FromTrim = refl

way_pushed : (put : PutOnList) → notes_cpu (way_of_pushed put) ≡ false
way_pushed OfRest = refl
way_pushed OfNode = refl
way_pushed OfFree = refl

way_string : (string : PartialString) (put : PutOnList) → notes_cpu (way_of_string string put) ≡ false
way_string string put = way_if (nat_lt string.place string.count) (InPutOnList WalkString put) (InPutOnList LinkString put) refl refl

-- the first spot of a call relies on no note
way_first : (kind : CallKind) (checked held : Bool) → notes_cpu (first_spot kind checked held) ≡ false
way_first Alloc false held = refl
way_first Alloc true held = refl
way_first Free checked false = refl
way_first Free false true = refl
way_first Free true true = refl
way_first Write false held = refl
way_first Write true held = refl
way_first Read false held = refl
way_first Read true held = refl
way_first Poke checked held = refl
way_first Trim checked held = refl
way_first Flush checked held = refl

relies : {A : Type 0} → true ≡ false → A
relies e = absurd (false≢true (sym e))

module _ (m : Setup) (value : ℕ → LockValue) (c : CpuWord) (l : Local) where
  -- ---- the step

  pub step_alike : (s : Spot) → notes_cpu s ≡ false → step_at m value (renoted c l) s ≡ step_at m value l s
  step_alike (InAlloc LoadNext) rest = relies rest
  step_alike (InAlloc Pop) rest = relies rest
  step_alike (InAlloc Detach) rest = relies rest
  step_alike (InAlloc DetachOther) rest = relies rest
  step_alike (InAlloc Install) rest = relies rest
  step_alike (InFree LinkOwn) rest = relies rest
  step_alike (InFree Push) rest = relies rest
  step_alike (InOffline DetachCurrent sweep) rest = relies rest
  step_alike s rest = refl

  -- ---- where an answer leads

  board_alike : (b : Option BoardWord) → TurnsAlike c (board_taken m l b) (board_taken m (renoted c l) b)
  board_alike None = inr (refl, refl)
  board_alike (Some b) = inr (refl, way_if (m.checks b.cache) (InChecked LockChecked Free) (InFree LoadOwn) refl refl)

  unfrozen_alike : (away : Away) → (unfrozen m value (renoted c l) away ≡ renoted c (unfrozen m value l away)) × (notes_cpu (unfrozen m value l away).spot ≡ false)
  unfrozen_alike away = elim (cases_Bool (head_away (hand_of l) l.slab_word == 0)) [
    | inl e ↦ rw e (refl, refl)
    | inr e ↦ rw e (refl, way_if (is_to_discard m value l) (InDiscard Unmake (FromAway away)) (InPutAway PutNode away) refl refl)
  ]

  counted_alike : (list : ListWord) → (count_loaded m (renoted c l) list ≡ renoted c (count_loaded m l list)) × (notes_cpu (count_loaded m l list).spot ≡ false)
  counted_alike list = elim (cases_Bool (is_long m l list)) [ inl e ↦ rw e (refl, refl) | inr e ↦ rw e (refl, refl) ]

  set_alike : (list : ListWord) → (set_taken (renoted c l) list ≡ renoted c (set_taken l list)) × (notes_cpu (set_taken l list).spot ≡ false)
  set_alike list = elim (cases_Bool (list.count == 0)) [ inl e ↦ rw e (refl, refl) | inr e ↦ rw e (refl, refl) ]

  swept_on : (sweep : Sweep) → TurnsAlike c (next_swept m l sweep) (next_swept m (renoted c l) sweep)
  swept_on Trimming = inr (refl, way_if (nat_lt (l.cpu + 1) m.cpus) (InOffline LoadCurrent Trimming) (InTrim LockTrim) refl refl)
  swept_on Flushing = inr (refl, way_if (nat_lt (l.turn + 1) (length m.plain)) (InOffline LoadCurrent Flushing) Between refl refl)

  moved_on : (move : MoveSet) → TurnsAlike c (after_move m l move) (after_move m (renoted c l) move)
  moved_on ForFree = inr (refl, refl)
  moved_on (ForOffline sweep) = swept_on sweep

  swept_alike : (sweep : Sweep) (list : ListWord) → TurnsAlike c (list_swept m l sweep list) (list_swept m (renoted c l) sweep list)
  swept_alike sweep list = elim (cases_Bool (list.count == 0)) [ inl e ↦ rw e (swept_on sweep) | inr e ↦ rw e (inr (refl, refl)) ]

  -- what is done at once

  pop_alike : (frames : List ℕ) → notes_cpu l.spot ≡ false → ChangesAlike c (pop_node m value l frames) (pop_node m value (renoted c l) frames)
  pop_alike [] quiet = (refl, refl)
  pop_alike (frame ∷ frames) quiet = elim (cases_Bool (asks_for_another m l)) [ inl e ↦ rw e (refl, refl) | inr e ↦ rw e (refl, refl) ]

  scan_alike : (frames : List ℕ) → ChangesAlike c (scan_node m value l frames) (scan_node m value (renoted c l) frames)
  scan_alike frames = elim (cases_Bool (nat_lt (length l.scanned) (length frames))) [ inl e ↦ rw e (refl, refl) | inr e ↦ rw e (refl, refl) ]

  front_alike : (move : MoveSet) (string : Option PartialString) → (front_taken (renoted c l) move string ≡ renoted c (front_taken l move string)) × (notes_cpu (front_taken l move string).spot ≡ false)
  front_alike move None = (refl, refl)
  front_alike move (Some string) = elim (cases_Bool (string.count == 1)) [ inl e ↦ rw e (refl, refl) | inr e ↦ rw e (refl, refl) ]

  gave_alike : (after : CheckedState) (g : CheckedGive) → ChangesAlike c (gave m value l after g) (gave m value (renoted c l) after g)
  gave_alike after (give.Given slot) = (refl, refl)
  gave_alike after give.Empty = (refl, refl)

  took_alike : (s : CheckedState) (d : Option Damage) → ChangesAlike c (took_back m value l s d) (took_back m value (renoted c l) s d)
  took_alike s None = (refl, way_if (is_spare m (with_taken s (slot_of l)) l.cache (here l).frame) (InChecked LockRun Free) (InChecked GiveChecked Free) refl refl)
  took_alike s (Some damage) = (refl, refl)

  do_alike : (kind : CallKind) (s : CheckedState) → notes_cpu l.spot ≡ false → ChangesAlike c (do_checked m value l kind s) (do_checked m value (renoted c l) kind s)
  do_alike Alloc s quiet = gave_alike (m.means.give s) (m.means.gave s)
  do_alike Free s quiet = took_alike s (damage_of_used s (slot_of l))
  do_alike Write s quiet = (refl, refl)
  do_alike Read s quiet = (refl, refl)
  do_alike Poke s quiet = (refl, refl)
  do_alike kind s quiet = (refl, quiet)

-- a run that is taken, where it leads
run_alike : (value : ℕ → LockValue) (c : CpuWord) (pool : FreeFrames) (layout : Layout) (n : Local) (run : Option FrameRun) → notes_cpu n.spot ≡ false → ChangesAlike c (run_taken value pool layout n run) (run_taken value pool layout (renoted c n) run)
run_alike value c pool layout n None quiet = (refl, quiet)
run_alike value c pool layout n (Some run) quiet = (refl, quiet)

way_run : (run : Option FrameRun) → notes_cpu (way_of_run run) ≡ false
way_run None = refl
way_run (Some run) = refl

way_found : (run : Option FrameRun) → notes_cpu (way_of_found run) ≡ false
way_found None = refl
way_found (Some run) = refl

module _ (m : Setup) (value : ℕ → LockValue) (c : CpuWord) (l : Local) (quiet : notes_cpu l.spot ≡ false) where
  -- ---- where an answer leads, by path

  alloc_alike : (s : AllocSpot) (a : Answer) → notes_cpu (InAlloc s) ≡ false → TurnsAlike c (alloc_advance m l s a) (alloc_advance m (renoted c l) s a)
  alloc_alike LoadCpu (Word x) rest = inl refl
  alloc_alike LoadAgain (Word x) rest = inl refl
  alloc_alike LoadNext a rest = relies rest
  alloc_alike Pop a rest = relies rest
  alloc_alike Detach a rest = relies rest
  alloc_alike DetachOther a rest = relies rest
  alloc_alike Install a rest = relies rest
  alloc_alike LoadTaken (Word x) rest = inr (refl, way_if ((slab_in x).head == 0) (InAlloc MarkFull) (InAlloc TakeAll) refl refl)
  alloc_alike TakeAll Won rest = inr (refl, refl)
  alloc_alike TakeAll (Lost x) rest = inr (refl, refl)
  alloc_alike MarkFull Won rest = inr (refl, refl)
  alloc_alike MarkFull (Lost x) rest = inr (refl, refl)
  alloc_alike TakeList (Word x) rest =
      inr (refl, way_if ((list_in x).count == 0) (InAlloc LockNode) (if (list_in x).count == 1 then InAlloc LoadKept else InAlloc FollowFront) refl (way_if ((list_in x).count == 1) (InAlloc LoadKept) (InAlloc FollowFront) refl refl))
  alloc_alike FollowFront (Word x) rest = inr (refl, refl)
  alloc_alike LoadKept (Word x) rest = inr (refl, refl)
  alloc_alike FreezeKept Won rest = inr (refl, refl)
  alloc_alike FreezeKept (Lost x) rest = inr (refl, refl)
  alloc_alike LockNode Won rest = inr (refl, refl)
  alloc_alike LoadPopped (Word x) rest = inr (refl, way_if (length l.hands == 1) (InAlloc FreezePopped) (InAlloc Unlist) refl refl)
  alloc_alike FreezePopped Won rest = inr (refl, refl)
  alloc_alike FreezePopped (Lost x) rest = inr (refl, refl)
  alloc_alike Unlist Won rest = inr (refl, refl)
  alloc_alike Unlist (Lost x) rest = inr (refl, refl)
  alloc_alike GiveNode Done rest = inr (refl, way_if (length l.hands == 0) (InAlloc LockPool) (InAlloc LoadReady) refl refl)
  alloc_alike LockPool Won rest = inr (refl, refl)
  alloc_alike GivePool Done rest = inr (refl, refl)
  alloc_alike GiveDry Done rest = inr (refl, refl)
  alloc_alike (LinkNew i) Done rest = inr (refl, way_if (nat_lt (i + 1) (run_of l).objects) (InAlloc (LinkNew (i + 1))) (InAlloc Make) refl refl)
  alloc_alike Make Done rest = inr (refl, refl)
  alloc_alike LoadReady (Word x) rest = inr (refl, refl)
  alloc_alike s a rest = inr (refl, quiet)

  put_away_alike : (s : PutAwaySpot) (away : Away) (a : Answer) → TurnsAlike c (put_away_advance m value l s away a) (put_away_advance m value (renoted c l) s away a)
  put_away_alike WalkChain away (Word x) =
      let hand = walked_on (hand_of l) (found_at m l.cache (hand_of l).frame (reached (hand_of l) - 1) x) in
      inr (refl, by ((hand.head == 0) || hand.walked))
    where
      by : (b : Bool) → notes_cpu (if b then InPutAway LockAway away else InPutAway WalkChain away) ≡ false
      by b = way_if b (InPutAway LockAway away) (InPutAway WalkChain away) refl refl
  put_away_alike LockAway away Won = inr (refl, refl)
  put_away_alike LoadAway away (Word x) = inr (refl, way_if ((hand_of l).head == 0) (InPutAway Unfreeze away) (InPutAway LinkLast away) refl refl)
  put_away_alike LinkLast away Done = inr (refl, refl)
  put_away_alike Unfreeze away Won = let e = unfrozen_alike m value c l away in inr (ap (λ l. record { local = l; reply = None }) e.0, e.1)
  put_away_alike Unfreeze away (Lost x) = inr (refl, refl)
  put_away_alike GiveAway away Done = inr (refl, way_put away)
  put_away_alike s away a = inr (refl, quiet)

  discard_alike : (s : DiscardSpot) (discard : Discard) (a : Answer) → TurnsAlike c (discard_advance m l s discard a) (discard_advance m (renoted c l) s discard a)
  discard_alike Unmake discard Done = inr (refl, refl)
  discard_alike LockDiscard discard Won = inr (refl, refl)
  discard_alike GiveDiscard discard Done = inr (refl, way_discarded discard)
  discard_alike s discard a = inr (refl, quiet)

  put_alike : (s : PutOnListSpot) (put : PutOnList) (a : Answer) → TurnsAlike c (put_on_list_advance l s put a) (put_on_list_advance (renoted c l) s put a)
  put_alike LoadList put (Word x) =
      inr (refl, way_if (leads_to (string_of l).link (list_in x).front) (InPutOnList PushString put) (way_of_string (string_of l) put) refl (way_string (string_of l) put))
  put_alike WalkString put (Word x) = inr (refl, way_string (with_cursor (string_of l) (x % 2 ^ 16)) put)
  put_alike LinkString put Done = inr (refl, refl)
  put_alike PushString put Won = inr (refl, way_pushed put)
  put_alike PushString put (Lost x) = inr (refl, refl)
  put_alike s put a = inr (refl, quiet)

  free_alike : (s : FreeSpot) (a : Answer) → notes_cpu (InFree s) ≡ false → TurnsAlike c (free_advance m l s a) (free_advance m (renoted c l) s a)
  free_alike TakeBoard (Word x) rest = board_alike m value c l (board_in x)
  free_alike LoadOwn (Word x) rest = inl refl
  free_alike LinkOwn a rest = relies rest
  free_alike Push a rest = relies rest
  free_alike LoadSlab (Word x) rest = inr (refl, way_if (is_last_listed (slab_in x)) (InFree LockFree) (InFree LinkSlab) refl refl)
  free_alike LinkSlab Done rest = inr (refl, refl)
  free_alike FreeSlab Won rest = inr (refl, way_if (was_full l.slab_word) (InFree LoadCount) Between refl refl)
  free_alike FreeSlab (Lost x) rest = inr (refl, refl)
  free_alike LockFree Won rest = inr (refl, refl)
  free_alike LoadLocked (Word x) rest = inr (refl, way_if (is_last_listed (slab_in x)) (InFree LinkLocked) (InFree GoBack) refl refl)
  free_alike GoBack Done rest = inr (refl, refl)
  free_alike LinkLocked Done rest = inr (refl, refl)
  free_alike FreeLocked Won rest = inr (refl, refl)
  free_alike FreeLocked (Lost x) rest = inr (refl, refl)
  free_alike GiveFree Done rest = inr (refl, refl)
  free_alike LoadCount (Word x) rest = let e = counted_alike m value c l (list_in x) in inr (ap (λ l. record { local = l; reply = None }) e.0, e.1)
  free_alike TakeSet (Word x) rest = let e = set_alike m value c l (list_in x) in inr (ap (λ l. record { local = l; reply = None }) e.0, e.1)
  free_alike s a rest = inr (refl, quiet)

  move_set_alike : (s : MoveSetSpot) (move : MoveSet) (a : Answer) → TurnsAlike c (move_set_advance m value l s move a) (move_set_advance m value (renoted c l) s move a)
  move_set_alike LockMove move Won = inr (refl, refl)
  move_set_alike FollowSet move (Word x) = inr (refl, refl)
  move_set_alike LoadMoved move (Word x) = inr (refl, way_if (((slab_in x).inuse == 0) && has_enough m value l) (InDiscard Unmake (FromMove move)) (InMoveSet ListSlab move) refl refl)
  move_set_alike ListSlab move Won = inr (refl, refl)
  move_set_alike ListSlab move (Lost x) = inr (refl, refl)
  move_set_alike GiveMove move Done = moved_on m value c l move
  move_set_alike s move a = inr (refl, quiet)

  offline_alike : (s : OfflineSpot) (sweep : Sweep) (a : Answer) → notes_cpu (InOffline s sweep) ≡ false → TurnsAlike c (offline_advance m l s sweep a) (offline_advance m (renoted c l) s sweep a)
  offline_alike LoadCurrent sweep (Word x) rest = inl refl
  offline_alike DetachCurrent sweep a rest = relies rest
  offline_alike TakeCurrent sweep (Word x) rest = swept_alike m value c l sweep (list_in x)
  offline_alike s sweep a rest = inr (refl, quiet)

  trim_alike : (s : TrimSpot) (a : Answer) → TurnsAlike c (trim_advance l s a) (trim_advance (renoted c l) s a)
  trim_alike LockTrim Won = inr (refl, refl)
  trim_alike LoadScanned (Word x) = inr (refl, way_if ((slab_in x).inuse == 0) (InTrim DropScanned) (InTrim ScanNode) refl refl)
  trim_alike GiveTrim Done = inr (refl, refl)
  trim_alike s a = inr (refl, quiet)

  checked_alike : (s : CheckedSpot) (kind : CallKind) (a : Answer) → TurnsAlike c (checked_advance l s kind a) (checked_advance (renoted c l) s kind a)
  checked_alike LockChecked kind Won = inr (refl, refl)
  checked_alike LockRun kind Won = inr (refl, refl)
  checked_alike GiveRun kind Done = inr (refl, refl)
  checked_alike GiveChecked kind Done = inr (refl, refl)
  checked_alike s kind a = inr (refl, quiet)

  advance_alike : (s : Spot) (a : Answer) → notes_cpu s ≡ false → TurnsAlike c (advance_at m value l s a) (advance_at m value (renoted c l) s a)
  advance_alike (InAlloc s) a rest = alloc_alike s a rest
  advance_alike (InPutAway s away) a rest = put_away_alike s away a
  advance_alike (InDiscard s discard) a rest = discard_alike s discard a
  advance_alike (InPutOnList s put) a rest = put_alike s put a
  advance_alike (InFree s) a rest = free_alike s a rest
  advance_alike (InMoveSet s move) a rest = move_set_alike s move a
  advance_alike (InOffline s sweep) a rest = offline_alike s sweep a rest
  advance_alike (InTrim s) a rest = trim_alike s a
  advance_alike WriteWord Done rest = inr (refl, refl)
  advance_alike ReadWord (Word x) rest = inr (refl, refl)
  advance_alike (InChecked s kind) a rest = checked_alike s kind a
  advance_alike s a rest = inr (refl, quiet)

  -- ---- what is done at once

  move_run_alike : (kind : CallKind) (pool : FreeFrames) → ChangesAlike c (move_run m value l kind pool) (move_run m value (renoted c l) kind pool)
  move_run_alike Alloc pool = let found = found_run m pool (m.layout l.cache) in run_alike value c pool (m.layout l.cache) (at l (way_of_found found)) found (way_found found)
  move_run_alike kind pool = (refl, refl)

  once_alike : (s : Spot) → ChangesAlike c (at_once m false value l s) (at_once m false value (renoted c l) s)
  once_alike (InAlloc PopNode) = pop_alike m value c l (node_of value l) quiet
  once_alike (InAlloc TakeRun) =
      let pool = pool_in (value pool_lock) in
      let found = found_run m pool (m.layout l.cache) in run_alike value c pool (m.layout l.cache) (at l (way_of_run found)) found (way_run found)
  once_alike (InPutAway PutNode away) = (refl, refl)
  once_alike (InDiscard PutRun discard) = (refl, refl)
  once_alike (InFree TakeOff) = elim (cases_Bool (has_enough m value l)) [ inl e ↦ rw e (refl, refl) | inr e ↦ rw e (refl, refl) ]
  once_alike (InMoveSet ChooseFront move) = let e = front_alike m value c l move l.string in (ap (λ l. record { value = value; local = l; reply = None }) e.0, e.1)
  once_alike (InMoveSet PutTail move) = (refl, refl)
  once_alike (InTrim ScanNode) = scan_alike m value c l (node_of value l)
  once_alike (InTrim DropScanned) = (refl, refl)
  once_alike (InChecked DoChecked kind) = do_alike m value c l kind (slabs_of m value l) quiet
  once_alike (InChecked MoveRun kind) = move_run_alike kind (pool_in (value pool_lock))
  once_alike (InChecked AddSlab kind) = (refl, refl)
  once_alike s = (refl, quiet)

-- ---- with a reply, and with those that take no step

noted_alike : (c : CpuWord) (l : Local) (r : Option Reply) → (noted (renoted c l) r ≡ renoted c (noted l r)) × ((noted l r).spot ≡ l.spot)
noted_alike c l None = (refl, refl)
noted_alike c l (Some reply) = (refl, refl)

with_alike : (m : Setup) (c : CpuWord) (calls : List Call) (l : Local) → (rested_with m calls (renoted c l) ≡ renoted c (rested_with m calls l)) × ((rested_with m calls l).spot ≡ l.spot)
with_alike m c [] l = (refl, refl)
with_alike m c (call ∷ calls) l = by (told_at_once m (get_or l.known (call_place call) nobody) call (call_kind call)) (λ reply. with_alike m c calls (answered l reply))
  where
    by : (r : Option Reply) → ((reply : Reply) → (rested_with m calls (answered (renoted c l) reply) ≡ renoted c (rested_with m calls (answered l reply))) × ((rested_with m calls (answered l reply)).spot ≡ l.spot))
        → (or_step (renoted c l) (λ reply. rested_with m calls (answered (renoted c l) reply)) r ≡ renoted c (or_step l (λ reply. rested_with m calls (answered l reply)) r)) × ((or_step l (λ reply. rested_with m calls (answered l reply)) r).spot ≡ l.spot)
    by None more = (refl, refl)
    by (Some reply) more = more reply

rested_at_alike : (m : Setup) (c : CpuWord) (l : Local) (s : Spot) → (rested_at m (renoted c l) s ≡ renoted c (rested_at m l s)) × ((rested_at m l s).spot ≡ l.spot)
rested_at_alike m c l Between = with_alike m c l.todo l
rested_at_alike m c l _ = (refl, refl)

pub rested_alike : (m : Setup) (c : CpuWord) (l : Local) → (rested m (renoted c l) ≡ renoted c (rested m l)) × ((rested m l).spot ≡ l.spot)
rested_alike m c l = rested_at_alike m c l l.spot

-- ---- all that comes with an answer

module _ (m : Setup) (c : CpuWord) where
  changed_alike : (x : Change) → notes_cpu x.local.spot ≡ false → ChangesAlike c (changed m false x) (changed m false (change_renoted c x))
  changed_alike x quiet =
      let n = noted_alike c x.local x.reply in
      let l = noted x.local x.reply in
      let once = once_alike m x.value c l (ap notes_cpu n.1 ∙ quiet) l.spot in
      (ap (λ (l : Local). at_once m false x.value l l.spot) n.0 ∙ once.0, once.1)

  abbrev finish : (ℕ → LockValue) → Turn → Change
  finish value t = let x = settled m false (record { value = value; local = t.local; reply = t.reply }) in record { value = x.value; local = rested m (noted x.local x.reply); reply = None }

  finish_alike : (value : ℕ → LockValue) (t : Turn) → notes_cpu t.local.spot ≡ false → ChangesAlike c (finish value t) (finish value (turn_renoted c t))
  finish_alike value t quiet =
      let x : Change = record { value = value; local = t.local; reply = t.reply } in
      let y = changed m false x in
      let z = changed m false y in
      let first = changed_alike x quiet in
      let second = changed_alike y first.1 in
      let n = noted_alike c z.local z.reply in
      let r = rested_alike m c (noted z.local z.reply) in
      (ap end (ap (changed m false) first.0 ∙ second.0) ∙ ap (λ (l : Local). record { value = z.value; local = rested m l; reply = None }) n.0 ∙ ap (λ (l : Local). record { value = z.value; local = l; reply = None }) r.0, ap notes_cpu (r.1 ∙ n.1) ∙ second.1)
    where
      end : Change → Change
      end x = record { value = x.value; local = rested m (noted x.local x.reply); reply = None }

  pub advanced_alike : (value : ℕ → LockValue) (l : Local) (a : Answer) → notes_cpu l.spot ≡ false → (advance_of m false value (renoted c l) a ≡ advance_of m false value l a) ⊎ ChangesAlike c (advance_of m false value l a) (advance_of m false value (renoted c l) a)
  advanced_alike value l a quiet = elim (advance_alike m value c l quiet l.spot a quiet) [
    | inl e ↦ inl (ap (finish value) e)
    | inr e ↦ let f = finish_alike value (advance_at m value l l.spot a) e.1 in inr (ap (finish value) e.0 ∙ f.0, f.1)
  ]

  -- a worker between two calls begins its next one
  pub begun_alike : (l : Local) → notes_cpu l.spot ≡ false → (begun m false (renoted c l) ≡ renoted c (begun m false l)) × (notes_cpu (begun m false l).spot ≡ false)
  begun_alike l quiet = by_spot l.spot
    where
      by_todo : (calls : List Call) → (begun_with m false (renoted c l) calls ≡ renoted c (begun_with m false l calls)) × (notes_cpu (begun_with m false l calls).spot ≡ false)
      by_todo [] = (refl, quiet)
      by_todo (call ∷ calls) = let known = get_or l.known (call_place call) nobody in (refl, way_first (call_kind call) (m.checks (cache_for m known (call_cache call) (call_kind call))) known.held)

      by_spot : (s : Spot) → (begun_at m false (renoted c l) s ≡ renoted c (begun_at m false l s)) × (notes_cpu (begun_at m false l s).spot ≡ false)
      by_spot Between = by_todo l.todo
      by_spot _ = (refl, quiet)
