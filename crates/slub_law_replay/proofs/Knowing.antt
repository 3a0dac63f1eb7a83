-- What a turn leaves of the objects that a worker knows: each is where it was, or the worker holds it now.
use Rattle.std.proofs.Common.{◌≡◌, ℕ, zero, suc, eqb, ◌⊎◌, Bool, true, false, nat_lt, if◌then◌else◌, Option, Some, None, List, [], ◌∷◌, length, get_or, set, refl, sym, ap, subst, ◌∙◌, inl, inr}
use Rattle.std.proofs.lemmas.Bool.{false≢true}
use Rattle.slub_trace.specs.declared.reply.Reply.{Reply}
use Rattle.slub_trace.specs.declared.damage.Damage.{Damage}
use Rattle.slub_words.specs.declared.board.BoardWord.{BoardWord}
use Rattle.slub_cpu_partial.specs.declared.words.ListWord.{ListWord}
use Rattle.slub_page_pool.specs.FreeFrames.{FreeFrames}
use Rattle.slub_object_layout.specs.declared.layout.Layout.{Layout}
use Rattle.slub_red_zone.specs.State.{CheckedState}
use Rattle.slub_red_zone.specs.Steps.{damage_of_used, with_taken}
use Rattle.slub_red_zone.specs.declared.checked.CheckedGive.{CheckedGive}
use Rattle.slub_red_zone.specs.declared.checked.CheckedGive.TheVariants as give
use Rattle.slub_core.specs.declared.call.Call.{Call}
use Rattle.slub_core.specs.declared.call.CallKind.{CallKind}
use Rattle.slub_core.specs.declared.call.CallKind.TheVariants.{Alloc, Free, Write, Read, Poke, Trim, Flush}
use Rattle.slub_core.specs.declared.local.FrameRun.{FrameRun}
use Rattle.slub_core.specs.declared.local.Known.{Known}
use Rattle.slub_core.specs.declared.local.PartialString.{PartialString}
use Rattle.slub_core.specs.declared.step.Answer.{Answer}
use Rattle.slub_core.specs.declared.step.Answer.TheVariants.{Word, Done, Won, Lost}
use Rattle.slub_core.specs.declared.spot.Spot.{Spot}
use Rattle.slub_core.specs.declared.spot.Spot.TheVariants.{Between, InAlloc, InPutAway, InDiscard, InPutOnList, InFree, InMoveSet, InOffline, InTrim, InChecked}
use Rattle.slub_core.specs.declared.spot.Away.{Away}
use Rattle.slub_core.specs.declared.spot.Discard.{Discard}
use Rattle.slub_core.specs.declared.spot.PutOnList.{PutOnList}
use Rattle.slub_core.specs.declared.spot.MoveSet.{MoveSet}
use Rattle.slub_core.specs.declared.spot.MoveSet.TheVariants.{ForFree, ForOffline}
use Rattle.slub_core.specs.declared.spot.Sweep.{Sweep}
use Rattle.slub_core.specs.declared.spot.Sweep.TheVariants.{Trimming, Flushing}
use Rattle.slub_core.specs.declared.spot.AllocSpot.{AllocSpot}
use Rattle.slub_core.specs.declared.spot.AllocSpot.TheVariants.{Pop, Install, PopNode, TakeRun}
use Rattle.slub_core.specs.declared.spot.PutAwaySpot.{PutAwaySpot}
use Rattle.slub_core.specs.declared.spot.PutAwaySpot.TheVariants.{Unfreeze, PutNode}
use Rattle.slub_core.specs.declared.spot.DiscardSpot.{DiscardSpot}
use Rattle.slub_core.specs.declared.spot.DiscardSpot.TheVariants.{Unmake, PutRun}
use Rattle.slub_core.specs.declared.spot.PutOnListSpot.{PutOnListSpot}
use Rattle.slub_core.specs.declared.spot.PutOnListSpot.TheVariants.{LoadList}
use Rattle.slub_core.specs.declared.spot.FreeSpot.{FreeSpot}
use Rattle.slub_core.specs.declared.spot.FreeSpot.TheVariants.{TakeBoard, Push, FreeSlab, FreeLocked, LoadCount, TakeSet, TakeOff}
use Rattle.slub_core.specs.declared.spot.MoveSetSpot.{MoveSetSpot}
use Rattle.slub_core.specs.declared.spot.MoveSetSpot.TheVariants.{ChooseFront, PutTail, GiveMove}
use Rattle.slub_core.specs.declared.spot.OfflineSpot.{OfflineSpot}
use Rattle.slub_core.specs.declared.spot.OfflineSpot.TheVariants.{TakeCurrent}
use Rattle.slub_core.specs.declared.spot.TrimSpot.{TrimSpot}
use Rattle.slub_core.specs.declared.spot.TrimSpot.TheVariants.{LockTrim, ScanNode, DropScanned}
use Rattle.slub_core.specs.declared.spot.CheckedSpot.{CheckedSpot}
use Rattle.slub_core.specs.declared.spot.CheckedSpot.TheVariants.{LockChecked, LockRun, GiveRun, GiveChecked, DoChecked, MoveRun, AddSlab}
use Rattle.slub_core.specs.Calls.{call_kind, call_place}
use Rattle.slub_core.specs.Setup.{Setup, pool_lock}
use Rattle.slub_core.specs.Words.{board_in, list_in}
use Rattle.slub_core.specs.World.{LockValue, pool_in}
use Rattle.slub_core.specs.Local.{Local, Change, here, answered, noted, nobody, stays}
use Rattle.slub_core.specs.Alloc.{alloc_advance, asks_for_another, found_run, node_of, pop_node, run_taken}
use Rattle.slub_core.specs.PutAway.{has_enough, put_away_advance}
use Rattle.slub_core.specs.Discard.{discard_advance}
use Rattle.slub_core.specs.PutOnList.{put_on_list_advance}
use Rattle.slub_core.specs.Free.{board_taken, free_advance, is_long}
use Rattle.slub_core.specs.MoveSet.{after_move, front_taken, move_set_advance}
use Rattle.slub_core.specs.Offline.{list_swept, next_swept, offline_advance, trim_advance}
use Rattle.slub_core.specs.Checked.{checked_advance, checked_at_once, do_checked, gave, is_spare, move_run, slabs_of, slot_of, took_back}
use Rattle.slub_core.specs.Steps.{advance_at, at_once, begun_at, begun_with, or_step, rested_at, rested_with, told_at_once}

-- ---- the places that are kept

-- the same place
abbrev pub IsSameSlot : Known → Known → Type 0
IsSameSlot new old = (new.frame ≡ old.frame) × (new.index ≡ old.index) × (new.cache ≡ old.cache)

abbrev pub Recalls : List Known → List Known → Type 0
Recalls old new = (i : ℕ) → ((get_or new i nobody).held ≡ true) ⊎ IsSameSlot (get_or new i nobody) (get_or old i nobody)

abbrev pub Keeps : Local → Local → Type 0
Keeps l n = Recalls l.known n.known

stay : (ks : List Known) → Recalls ks ks
stay ks i = inr (refl, refl, refl)

puts : (ks : List Known) (p : ℕ) (k : Known) → (k.held ≡ true) ⊎ IsSameSlot k (get_or ks p nobody) → Recalls ks (set ks p k)
puts [] p k is i = inr (refl, refl, refl)
puts (j ∷ ks) zero k is zero = is
puts (j ∷ ks) zero k is (suc i) = inr (refl, refl, refl)
puts (j ∷ ks) (suc p) k is zero = inr (refl, refl, refl)
puts (j ∷ ks) (suc p) k is (suc i) = puts ks p k is i

takes : (l : Local) (cache frame index : ℕ) → Recalls l.known (set l.known l.place (record { object = (here l).object; frame = frame; index = index; cache = cache; held = true }))
takes l cache frame index = puts l.known l.place (record { object = (here l).object; frame = frame; index = index; cache = cache; held = true }) (inl refl)

drops : (l : Local) → Recalls l.known (set l.known l.place (record (here l) { held = false }))
drops l = puts l.known l.place (record (here l) { held = false }) (inr (refl, refl, refl))

if-keeps : (b : Bool) (l n o : Local) → Keeps l n → Keeps l o → Keeps l (if b then n else o)
if-keeps true l n o a c = a
if-keeps false l n o a c = c

-- ---- where an answer leads, by path

alloc-keeps : (m : Setup) (l : Local) (s : AllocSpot) (a : Answer) → Keeps l (alloc_advance m l s a).local
alloc-keeps m l Pop Won = takes l _ _ _
alloc-keeps m l Install Won = takes l _ _ _
alloc-keeps m l Pop (Word x) = stay l.known
alloc-keeps m l Pop Done = stay l.known
alloc-keeps m l Pop (Lost x) = stay l.known
alloc-keeps m l s (Word x) = stay l.known
alloc-keeps m l s Done = stay l.known
alloc-keeps m l s Won = stay l.known
alloc-keeps m l s (Lost x) = stay l.known

put_away-keeps : (m : Setup) (value : ℕ → LockValue) (l : Local) (s : PutAwaySpot) (away : Away) (a : Answer) → Keeps l (put_away_advance m value l s away a).local
put_away-keeps m value l Unfreeze away Won = if-keeps _ l _ _ (stay l.known) (stay l.known)
put_away-keeps m value l Unfreeze away (Word x) = stay l.known
put_away-keeps m value l Unfreeze away Done = stay l.known
put_away-keeps m value l Unfreeze away (Lost x) = stay l.known
put_away-keeps m value l s away (Word x) = stay l.known
put_away-keeps m value l s away Done = stay l.known
put_away-keeps m value l s away Won = stay l.known
put_away-keeps m value l s away (Lost x) = stay l.known

discard-keeps : (m : Setup) (l : Local) (s : DiscardSpot) (discard : Discard) (a : Answer) → Keeps l (discard_advance m l s discard a).local
discard-keeps m l Unmake discard Done = stay l.known
discard-keeps m l Unmake discard (Word x) = stay l.known
discard-keeps m l Unmake discard Won = stay l.known
discard-keeps m l Unmake discard (Lost x) = stay l.known
discard-keeps m l s discard (Word x) = stay l.known
discard-keeps m l s discard Done = stay l.known
discard-keeps m l s discard Won = stay l.known
discard-keeps m l s discard (Lost x) = stay l.known

put_on_list-keeps : (l : Local) (s : PutOnListSpot) (put : PutOnList) (a : Answer) → Keeps l (put_on_list_advance l s put a).local
put_on_list-keeps l LoadList put (Word x) = stay l.known
put_on_list-keeps l LoadList put Done = stay l.known
put_on_list-keeps l LoadList put Won = stay l.known
put_on_list-keeps l LoadList put (Lost x) = stay l.known
put_on_list-keeps l s put (Word x) = stay l.known
put_on_list-keeps l s put Done = stay l.known
put_on_list-keeps l s put Won = stay l.known
put_on_list-keeps l s put (Lost x) = stay l.known

board-keeps : (m : Setup) (l : Local) (b : Option BoardWord) → Keeps l (board_taken m l b).local
board-keeps m l None = stay l.known
board-keeps m l (Some b) = takes l b.cache b.frame b.index

free-keeps : (m : Setup) (l : Local) (s : FreeSpot) (a : Answer) → Keeps l (free_advance m l s a).local
free-keeps m l TakeBoard (Word x) = board-keeps m l (board_in x)
free-keeps m l LoadCount (Word x) = if-keeps (is_long m l (list_in x)) l _ _ (stay l.known) (stay l.known)
free-keeps m l TakeSet (Word x) = if-keeps (eqb (list_in x).count 0) l _ _ (stay l.known) (stay l.known)
free-keeps m l Push Won = drops l
free-keeps m l FreeSlab Won = drops l
free-keeps m l FreeLocked Won = drops l
free-keeps m l Push Done = stay l.known
free-keeps m l Push (Lost x) = stay l.known
free-keeps m l s (Word x) = stay l.known
free-keeps m l s Done = stay l.known
free-keeps m l s Won = stay l.known
free-keeps m l s (Lost x) = stay l.known

next-keeps : (m : Setup) (l : Local) (sweep : Sweep) → Keeps l (next_swept m l sweep).local
next-keeps m l Trimming = stay l.known
next-keeps m l Flushing = stay l.known

move-keeps : (m : Setup) (l : Local) (move : MoveSet) → Keeps l (after_move m l move).local
move-keeps m l ForFree = stay l.known
move-keeps m l (ForOffline sweep) = next-keeps m l sweep

move_set-keeps : (m : Setup) (value : ℕ → LockValue) (l : Local) (s : MoveSetSpot) (move : MoveSet) (a : Answer) → Keeps l (move_set_advance m value l s move a).local
move_set-keeps m value l GiveMove move Done = move-keeps m l move
move_set-keeps m value l GiveMove move (Word x) = stay l.known
move_set-keeps m value l GiveMove move Won = stay l.known
move_set-keeps m value l GiveMove move (Lost x) = stay l.known
move_set-keeps m value l s move (Word x) = stay l.known
move_set-keeps m value l s move Done = stay l.known
move_set-keeps m value l s move Won = stay l.known
move_set-keeps m value l s move (Lost x) = stay l.known

swept-keeps : (m : Setup) (l : Local) (sweep : Sweep) (list : ListWord) (none : Bool) → eqb list.count 0 ≡ none → Keeps l (list_swept m l sweep list).local
swept-keeps m l sweep list true e = rw e (next-keeps m l sweep)
swept-keeps m l sweep list false e = rw e (stay l.known)

offline-keeps : (m : Setup) (l : Local) (s : OfflineSpot) (sweep : Sweep) (a : Answer) → Keeps l (offline_advance m l s sweep a).local
offline-keeps m l TakeCurrent sweep (Word x) = swept-keeps m l sweep (list_in x) (eqb (list_in x).count 0) refl
offline-keeps m l TakeCurrent sweep Done = stay l.known
offline-keeps m l TakeCurrent sweep Won = stay l.known
offline-keeps m l TakeCurrent sweep (Lost x) = stay l.known
offline-keeps m l s sweep (Word x) = stay l.known
offline-keeps m l s sweep Done = stay l.known
offline-keeps m l s sweep Won = stay l.known
offline-keeps m l s sweep (Lost x) = stay l.known

trim-keeps : (l : Local) (s : TrimSpot) (a : Answer) → Keeps l (trim_advance l s a).local
trim-keeps l LockTrim Won = stay l.known
trim-keeps l LockTrim (Word x) = stay l.known
trim-keeps l LockTrim Done = stay l.known
trim-keeps l LockTrim (Lost x) = stay l.known
trim-keeps l s (Word x) = stay l.known
trim-keeps l s Done = stay l.known
trim-keeps l s Won = stay l.known
trim-keeps l s (Lost x) = stay l.known

checked-keeps : (l : Local) (s : CheckedSpot) (kind : CallKind) (a : Answer) → Keeps l (checked_advance l s kind a).local
checked-keeps l LockChecked kind Won = stay l.known
checked-keeps l LockChecked kind (Word x) = stay l.known
checked-keeps l LockChecked kind Done = stay l.known
checked-keeps l LockChecked kind (Lost x) = stay l.known
checked-keeps l s kind (Word x) = stay l.known
checked-keeps l s kind Done = stay l.known
checked-keeps l s kind Won = stay l.known
checked-keeps l s kind (Lost x) = stay l.known

-- an answer of a step
pub turn-keeps : (m : Setup) (value : ℕ → LockValue) (l : Local) (s : Spot) (a : Answer) → Keeps l (advance_at m value l s a).local
turn-keeps m value l (InAlloc s) a = alloc-keeps m l s a
turn-keeps m value l (InPutAway s away) a = put_away-keeps m value l s away a
turn-keeps m value l (InDiscard s discard) a = discard-keeps m l s discard a
turn-keeps m value l (InPutOnList s put) a = put_on_list-keeps l s put a
turn-keeps m value l (InFree s) a = free-keeps m l s a
turn-keeps m value l (InMoveSet s move) a = move_set-keeps m value l s move a
turn-keeps m value l (InOffline s sweep) a = offline-keeps m l s sweep a
turn-keeps m value l (InTrim s) a = trim-keeps l s a
turn-keeps m value l (InChecked s kind) a = checked-keeps l s kind a
turn-keeps m value l s (Word x) = stay l.known
turn-keeps m value l s Done = stay l.known
turn-keeps m value l s Won = stay l.known
turn-keeps m value l s (Lost x) = stay l.known

-- ---- what is done at once

-- the spots to which a change of what is known leads: nothing is done at once there
abbrev pub is_still : Spot → Bool
is_still (InChecked LockRun kind) = true
is_still (InChecked GiveRun kind) = true
is_still (InChecked GiveChecked kind) = true
is_still _ = false

-- all that it knows stays, or where it changes nothing more is done at once
abbrev pub Settles : Local → Change → Type 0
Settles l c = (c.local.known ≡ l.known) ⊎ (Keeps l c.local × (is_still c.local.spot ≡ true))

if-settles : (b : Bool) (l : Local) (c d : Change) → Settles l c → Settles l d → Settles l (if b then c else d)
if-settles true l c d a e = a
if-settles false l c d a e = e

pop-settles : (m : Setup) (value : ℕ → LockValue) (l : Local) (frames : List ℕ) → Settles l (pop_node m value l frames)
pop-settles m value l [] = inl refl
pop-settles m value l (frame ∷ frames) = if-settles (asks_for_another m l) l _ _ (inl refl) (inl refl)

run-known : (value : ℕ → LockValue) (pool : FreeFrames) (layout : Layout) (l : Local) (found : Option FrameRun) → (run_taken value pool layout l found).local.known ≡ l.known
run-known value pool layout l None = refl
run-known value pool layout l (Some run) = refl

if-known : (b : Bool) (l n o : Local) → n.known ≡ l.known → o.known ≡ l.known → (if b then n else o).known ≡ l.known
if-known true l n o a c = a
if-known false l n o a c = c

front-known : (l : Local) (move : MoveSet) (string : Option PartialString) → (front_taken l move string).known ≡ l.known
front-known l move None = refl
front-known l move (Some string) = if-known (eqb string.count 1) l _ _ refl refl

gave-settles : (m : Setup) (value : ℕ → LockValue) (l : Local) (slabs : CheckedState) (given : CheckedGive) → Settles l (gave m value l slabs given)
gave-settles m value l slabs (give.Given slot) = inr (takes l l.cache slot.frame slot.index, refl)
gave-settles m value l slabs give.Empty = inl refl

if-still : (b : Bool) (s t : Spot) → is_still s ≡ true → is_still t ≡ true → is_still (if b then s else t) ≡ true
if-still true s t a c = a
if-still false s t a c = c

took-settles : (m : Setup) (value : ℕ → LockValue) (l : Local) (slabs : CheckedState) (damage : Option Damage) → Settles l (took_back m value l slabs damage)
took-settles m value l slabs None = inr (drops l, if-still (is_spare m (with_taken slabs (slot_of l)) l.cache (here l).frame) _ _ refl refl)
took-settles m value l slabs (Some damage) = inl refl

do-settles : (m : Setup) (value : ℕ → LockValue) (l : Local) (kind : CallKind) (slabs : CheckedState) → Settles l (do_checked m value l kind slabs)
do-settles m value l Alloc slabs = gave-settles m value l (m.means.give slabs) (m.means.gave slabs)
do-settles m value l Free slabs = took-settles m value l slabs (damage_of_used slabs (slot_of l))
do-settles m value l Write slabs = inl refl
do-settles m value l Read slabs = inl refl
do-settles m value l Poke slabs = inl refl
do-settles m value l Trim slabs = inl refl
do-settles m value l Flush slabs = inl refl

moved-known : (m : Setup) (value : ℕ → LockValue) (l : Local) (kind : CallKind) (pool : FreeFrames) → (move_run m value l kind pool).local.known ≡ l.known
moved-known m value l Alloc pool = run-known value pool (m.layout l.cache) _ (found_run m pool (m.layout l.cache))
moved-known m value l kind pool = refl

add-settles : (m : Setup) (refused : Bool) (value : ℕ → LockValue) (l : Local) (kind : CallKind) → Settles l (checked_at_once m refused value l AddSlab kind)
add-settles m true value l kind = inl refl
add-settles m false value l kind = inr (takes l l.cache _ 0, refl)

pub once-settles : (m : Setup) (refused : Bool) (value : ℕ → LockValue) (l : Local) (s : Spot) → Settles l (at_once m refused value l s)
once-settles m refused value l (InAlloc PopNode) = pop-settles m value l (node_of value l)
once-settles m refused value l (InAlloc TakeRun) = inl (run-known value (pool_in (value pool_lock)) (m.layout l.cache) _ (found_run m (pool_in (value pool_lock)) (m.layout l.cache)))
once-settles m refused value l (InPutAway PutNode away) = inl refl
once-settles m refused value l (InDiscard PutRun discard) = inl refl
once-settles m refused value l (InFree TakeOff) = inl (if-known (has_enough m value l) l _ _ refl refl)
once-settles m refused value l (InMoveSet ChooseFront move) = inl (front-known l move l.string)
once-settles m refused value l (InMoveSet PutTail move) = inl refl
once-settles m refused value l (InTrim ScanNode) = if-settles (nat_lt (length l.scanned) (length (node_of value l))) l _ _ (inl refl) (inl refl)
once-settles m refused value l (InTrim DropScanned) = inl refl
once-settles m refused value l (InChecked DoChecked kind) = do-settles m value l kind (slabs_of m value l)
once-settles m refused value l (InChecked MoveRun kind) = inl (moved-known m value l kind (pool_in (value pool_lock)))
once-settles m refused value l (InChecked AddSlab kind) = add-settles m refused value l kind
once-settles m refused value l s = inl refl

-- nothing is done there
pub still-once : (m : Setup) (refused : Bool) (value : ℕ → LockValue) (l : Local) (s : Spot) → is_still s ≡ true → at_once m refused value l s ≡ stays value l
still-once m refused value l (InChecked LockRun kind) is = refl
still-once m refused value l (InChecked GiveRun kind) is = refl
still-once m refused value l (InChecked GiveChecked kind) is = refl
still-once m refused value l s is = absurd (false≢true is)

-- ---- replies, and the begin of a call

noted-spot : (l : Local) (r : Option Reply) → (noted l r).spot ≡ l.spot
noted-spot l None = refl
noted-spot l (Some told) = refl

pub noted-known : (l : Local) (r : Option Reply) → (noted l r).known ≡ l.known
noted-known l None = refl
noted-known l (Some told) = refl

or-known : (l : Local) (more : Reply → Local) (r : Option Reply) → ((told : Reply) → (more told).known ≡ l.known) → (or_step l more r).known ≡ l.known
or-known l more None same = refl
or-known l more (Some told) same = same told

rests-known : (m : Setup) (calls : List Call) (l : Local) → (rested_with m calls l).known ≡ l.known
rests-known m [] l = refl
rests-known m (call ∷ calls) l = or-known l _ (told_at_once m (get_or l.known (call_place call) nobody) call (call_kind call)) (λ told. rests-known m calls (answered l told))

pub rested-known : (m : Setup) (l : Local) (s : Spot) → (rested_at m l s).known ≡ l.known
rested-known m l Between = rests-known m l.todo l
rested-known m l _ = refl

pub begun-known : (m : Setup) (tries : Bool) (l : Local) (s : Spot) → (begun_at m tries l s).known ≡ l.known
begun-known m tries l Between = by l.todo
  where
    by : (calls : List Call) → (begun_with m tries l calls).known ≡ l.known
    by [] = refl
    by (call ∷ calls) = refl
begun-known m tries l _ = refl

-- ---- twice at once

recalls-as : (ks ns os : List Known) → ns ≡ ks → Recalls ks os → Recalls ns os
recalls-as ks ns os same keeps = subst (λ ks. Recalls ks os) (sym same) keeps

-- what is done at once after an answer, twice
pub twice-keeps : (m : Setup) (refused : Bool) (value : ℕ → LockValue) (l : Local) → let c = at_once m refused value l l.spot in let n = noted c.local c.reply in let d = at_once m refused c.value n n.spot in Recalls l.known (noted d.local d.reply).known
twice-keeps m refused value l =
    subst (Recalls l.known) (sym (noted-known d.local d.reply)) (by (once-settles m refused value l l.spot) (once-settles m refused c.value n n.spot))
  where
    c : Change
    c = at_once m refused value l l.spot

    n : Local
    n = noted c.local c.reply

    d : Change
    d = at_once m refused c.value n n.spot

    by : Settles l c → Settles n d → Recalls l.known d.local.known
    by (inl first) (inl second) = subst (Recalls l.known) (sym (second ∙ noted-known c.local c.reply ∙ first)) (stay l.known)
    by (inl first) (inr second) = recalls-as n.known l.known d.local.known (sym (noted-known c.local c.reply ∙ first)) second.0
    by (inr first) second =
        let still = still-once m refused c.value n n.spot (ap is_still (noted-spot c.local c.reply) ∙ first.1) in
        subst (Recalls l.known) (sym (ap (λ (x : Change). x.local.known) still ∙ noted-known c.local c.reply)) first.0
