-- How much can be found in a round: no more than before it, with one slab more for each reply.
use Rattle.std.proofs.Common.{◌≡◌, ℕ, ◌+◌, ◌<◌, ◌≤◌, ◌==◌, ◌&&◌, not, Bool, true, false, Option, Some, None, List, [], ◌∷◌, ◌++◌, length, drop, sum_by, get_or, set, map, refl, sym, ap, ◌∙◌, subst, arith, inl, inr}
use Rattle.std.specs.Prelude.{nat_lt, IsSome}
use Rattle.std.specs.Option.{option_map_or}
use Rattle.std.proofs.lemmas.Bool.{cases_Bool, cases_lt, false≢true}
use Rattle.std.proofs.lemmas.Option.{none-some}
use Rattle.std.proofs.lemmas.List.{length-append}
use Rattle.std.proofs.lemmas.List.Sums.{length-filter, count_by-le-length, sum_by-set, sum_by-cons}
use Rattle.slub_page_pool.specs.FreeFrames.{FreeFrames}
use Rattle.slub_object_layout.specs.declared.layout.Layout.{Layout}
use Rattle.slub_trace.specs.declared.reply.Reply.{Reply}
use Rattle.slub_red_zone.specs.State.{SlabState, CheckedState, slab_of, objects_in}
use Rattle.slub_red_zone.specs.Sound.{IsSound}
use Rattle.slub_red_zone.specs.Objects.{findable}
use Rattle.slub_red_zone.specs.Steps.{damage_of_used, listed_with, relisted, slab_with_given, with_taken, without_slab, with_new_slab, with_given}
use Rattle.slub_red_zone.specs.declared.checked.CheckedGive.{CheckedGive}
use Rattle.slub_red_zone.specs.declared.checked.CheckedGive.TheVariants as give
use Rattle.slub_red_zone.specs.declared.checked.Run.{Run}
use Rattle.slub_red_zone.specs.declared.checked.Slot.{Slot}
use Rattle.slub_trace.specs.declared.damage.Damage.{Damage}
use Rattle.slub_red_zone.proofs.Objects.{gives-object}
use Rattle.slub_core.specs.declared.call.Call.{Call}
use Rattle.slub_core.specs.declared.call.CallKind.{CallKind}
use Rattle.slub_core.specs.declared.call.CallKind.TheVariants.{Alloc, Free, Write, Read, Poke, Trim, Flush}
use Rattle.slub_core.specs.declared.local.FrameRun.{FrameRun}
use Rattle.slub_core.specs.declared.spot.Spot.{Spot}
use Rattle.slub_core.specs.declared.spot.Spot.TheVariants.{Between, InAlloc, InPutAway, InDiscard, InPutOnList, InFree, InMoveSet, InOffline, InTrim, WriteWord, ReadWord, InChecked}
use Rattle.slub_core.specs.declared.spot.CheckedSpot.TheVariants.{LockChecked, DoChecked, LockRun, MoveRun, AddSlab, GiveRun, GiveChecked}
use Rattle.slub_core.specs.declared.spot.CheckedSpot.{CheckedSpot}
use Rattle.slub_core.specs.Calls.{call_offset}
use Rattle.slub_core.specs.Setup.{Setup, node_lock, pool_lock, pool_after}
use Rattle.slub_core.specs.Words.{word_count, number_of, after_op, answer_of}
use Rattle.slub_core.specs.World.{World, LockValue, Node, Checked, Pool, update, sum_below, pool_in, world_from, world_of}
use Rattle.slub_core.specs.Local.{Local, Worker, Change, here, run_of, at, answered, noted, call_of}
use Rattle.slub_core.specs.Alloc.{found_run, noted_dry, run_taken}
use Rattle.slub_core.specs.Discard.{with_put}
use Rattle.slub_core.specs.Checked.{do_checked, gave, took_back, is_spare, is_offset, poked, move_run, way_of_found, slabs_of, slabs_in, slot_of, with_slabs}
use Rattle.slub_core.specs.Spots.{in_plain, in_checked, doing}
use Rattle.slub_core.specs.Steps.{step_of, advance_at, advance_of, at_once, begun, begun_at, begun_with, rested}
use Rattle.slub_core.specs.Run.{System, Pick, idle, turn, run}
use Rattle.slub_core.specs.Opening.{opened}
use Rattle.slub_core.specs.Accounted.{IsAccounted}
use Rattle.slub_core.specs.Coherent.{Stands}
use Rattle.slub_core.specs.Law.{IsCoherentSystem}
use Rattle.slub_core.proofs.Accounts.{Comes}
use Rattle.slub_core.proofs.CallsStay.{has-call}
use Rattle.slub_core.proofs.CheckedStep.{the-slabs}
use Rattle.slub_core.proofs.Dispatch.{leads}
use Rattle.slub_core.proofs.Leads.{at_work, table}
use Rattle.slub_core.proofs.Noted.{noted-comes}
use Rattle.slub_core.proofs.Rests.{joined}
use Rattle.slub_core.proofs.Scripts.{Leaves, change-leaves, turn-says}
use Rattle.slub_core.proofs.TaleSettled.{comes_once}
use Rattle.slub_core.proofs.Tells.{turn-tells}
use Rattle.slub_core.proofs.Turns.{turn_keeps}
use Rattle.slub_core.proofs.Update.{update_same, update_other, sum_below_change}
use Rattle.slub_law_opening.specs.Closing.{checked_in}
use Rattle.slub_law_opening.proofs.Carried.{rested-keeps}
use Rattle.slub_law_opening.proofs.Sets.{Sets, once-sets}
use Rattle.slub_law_opening.proofs.Turns.{has-begun, no-turn}

-- ---- what is found, and what can be found yet

-- behind a lock
abbrev pub found_at : LockValue → ℕ
found_at v = option_map_or findable (checked_in v) 0

-- behind all locks
abbrev pub found_behind : (ℕ → LockValue) → ℕ
found_behind value = sum_below 33 (λ n. found_at (value n))

-- with what one lock guards changed
with-one : (value : ℕ → LockValue) (n : ℕ) (v : LockValue) → n < 33 → found_behind (update value n v) + found_at (value n) ≡ found_behind value + found_at v
with-one value n v below =
    let e = sum_below_change 33 (λ k. found_at (value k)) (λ k. found_at (update value n v k)) n below (λ k other. ap found_at (update_other value n v k other)) in
    e ∙ ap (λ v. found_behind value + found_at v) (update_same value n v)

-- ---- one slab's changes

relisted-few : (listed : List ℕ) (slab : SlabState) → length (relisted listed slab) ≤ length listed
relisted-few listed slab = elim (cases_Bool (length slab.free == 0)) [ inl e ↦ rw e (dropped listed) | inr e ↦ rw e (omega arith) ]
  where
    dropped : (xs : List ℕ) → length (drop 1 xs) ≤ length xs
    dropped [] = omega arith
    dropped (x ∷ xs) = omega arith

listed_with-few : (listed : List ℕ) (frame : ℕ) (slab : SlabState) → length (listed_with listed frame slab) ≤ length listed + 1
listed_with-few listed frame slab = elim (cases_Bool (length slab.free == 0)) [ inl e ↦ rw e (omega (arith, length-append listed (frame ∷ []))) | inr e ↦ rw e (omega arith) ]

taken-few : (s : CheckedState) (slot : Slot) → findable (with_taken s slot) ≤ findable s + 1
taken-few s slot = omega (arith, listed_with-few s.listed slot.frame (slab_of s slot.frame))

without-few : (s : CheckedState) (frame : ℕ) → findable (without_slab s frame) ≤ findable s
without-few s frame = omega (arith, length-filter (λ other. not (other == frame)) s.listed, count_by-le-length (λ other. not (other == frame)) s.listed)

added-few : (s : CheckedState) (new : Run) (objects : ℕ) (slot : Slot) → findable (with_given (with_new_slab s new objects) slot) ≤ findable s + 1
added-few s new objects slot =
    let added = with_new_slab s new objects in
    let e : length (relisted added.listed (slab_with_given s.layout s.flags (slab_of added slot.frame) slot.index)) ≤ length added.listed = relisted-few added.listed (slab_with_given s.layout s.flags (slab_of added slot.frame) slot.index) in
    omega (arith, e)

-- ---- what is done at once

abbrev replies : Option Reply → ℕ
replies None = 0
replies (Some reply) = 1

-- it finds no more than can be found, with one slab more for a reply
abbrev FindsFew : (ℕ → LockValue) → Change → Type 0
FindsFew value c = found_behind c.value ≤ found_behind value + replies c.reply

-- the slabs of a checked cache, with so many to be found more
slabs-few : (value : ℕ → LockValue) (l : Local) (old new : CheckedState) (more : ℕ) → node_lock l.cache < 33 → value (node_lock l.cache) ≡ Checked old → findable new ≤ findable old + more
    → found_behind (with_slabs value l new) ≤ found_behind value + more
slabs-few value l old new more below is few =
    let e = with-one value (node_lock l.cache) (Checked new) below in
    let o : found_at (value (node_lock l.cache)) ≡ findable old = ap found_at is in
    omega arith

pool-few : (value : ℕ → LockValue) (pool : FreeFrames) (more : ℕ) → found_behind (update value pool_lock (Pool pool)) ≤ found_behind value + more
pool-few value pool more = let e = with-one value pool_lock (Pool pool) (omega arith) in omega arith

gave-few : (m : Setup) (value : ℕ → LockValue) (l : Local) (old after : CheckedState) (g : CheckedGive) → node_lock l.cache < 33 → value (node_lock l.cache) ≡ Checked old → findable after ≤ findable old → FindsFew value (gave m value l after g)
gave-few m value l old after (give.Given slot) below is few = slabs-few value l old after 1 below is (omega arith)
gave-few m value l old after give.Empty below is few = slabs-few value l old after 0 below is (omega arith)

took-few : (m : Setup) (value : ℕ → LockValue) (l : Local) (old : CheckedState) (d : Option Damage) → node_lock l.cache < 33 → value (node_lock l.cache) ≡ Checked old → FindsFew value (took_back m value l old d)
took-few m value l old None below is =
    let t = taken-few old (slot_of l) in
    elim (cases_Bool (is_spare m (with_taken old (slot_of l)) l.cache (here l).frame)) [
      | inl e ↦ rw e (slabs-few value l old (without_slab (with_taken old (slot_of l)) (here l).frame) 1 below is (let f = without-few (with_taken old (slot_of l)) (here l).frame in omega arith))
      | inr e ↦ rw e (slabs-few value l old (with_taken old (slot_of l)) 1 below is t)
    ]
took-few m value l old (Some damage) below is = omega arith

poked-few : (l : Local) (s : CheckedState) → findable (poked l s) ≤ findable s + 1
poked-few l s = elim (cases_Bool (is_offset s.layout (call_offset (call_of l)) && nat_lt (here l).index (objects_in (slab_of s (here l).frame)))) [ inl e ↦ rw e (omega arith) | inr e ↦ rw e (omega arith) ]

do-few : (m : Setup) (value : ℕ → LockValue) (l : Local) (kind : CallKind) (old : CheckedState) → node_lock l.cache < 33 → value (node_lock l.cache) ≡ Checked old → IsSound old → FindsFew value (do_checked m value l kind old)
do-few m value l Alloc old below is sound =
    gave-few m value l old (m.means.give old) (m.means.gave old) below is (gives-object old (m.means.gave old) (m.means.give old) sound (m.means.gives old sound)).bounded
do-few m value l Free old below is sound = took-few m value l old (damage_of_used old (slot_of l)) below is
do-few m value l Write old below is sound = slabs-few value l old _ 1 below is (omega arith)
do-few m value l Read old below is sound = omega arith
do-few m value l Poke old below is sound = slabs-few value l old (poked l old) 1 below is (poked-few l old)
do-few m value l Trim old below is sound = omega arith
do-few m value l Flush old below is sound = omega arith

run-few : (value : ℕ → LockValue) (pool : FreeFrames) (layout : Layout) (n : Local) (taken : Option FrameRun) → FindsFew value (run_taken value pool layout n taken)
run-few value pool layout n None = pool-few value (noted_dry pool layout.min_order) 1
run-few value pool layout n (Some taken) = pool-few value (pool_after pool taken.order (Some taken.frame)) 0

move-few : (m : Setup) (value : ℕ → LockValue) (l : Local) (kind : CallKind) (pool : FreeFrames) → FindsFew value (move_run m value l kind pool)
move-few m value l Alloc pool = let found = found_run m pool (m.layout l.cache) in run-few value pool (m.layout l.cache) (at l (way_of_found found)) found
move-few m value l Free pool = pool-few value (with_put pool (run_of l)) 0
move-few m value l Write pool = pool-few value (with_put pool (run_of l)) 0
move-few m value l Read pool = pool-few value (with_put pool (run_of l)) 0
move-few m value l Poke pool = pool-few value (with_put pool (run_of l)) 0
move-few m value l Trim pool = pool-few value (with_put pool (run_of l)) 0
move-few m value l Flush pool = pool-few value (with_put pool (run_of l)) 0

-- where no slab of a checked cache is touched
sets-few : (m : Setup) (l : Local) (s : Spot) (value after : ℕ → LockValue) (more : ℕ) → (in_plain s ≡ true → node_lock l.cache < 33) → in_checked s ≡ false → Sets m l s value after → found_behind after ≤ found_behind value + more
sets-few m l s value after more below none (inl same) = rw same (omega arith)
sets-few m l s value after more below none (inr (inl sets)) = rw sets.is_set (let e = with-one value (node_lock l.cache) (Node sets.frames) (below sets.plain) in omega arith)
sets-few m l s value after more below none (inr (inr (inl sets))) = absurd (false≢true (sym none ∙ sets.checked))
sets-few m l s value after more below none (inr (inr (inr sets))) = rw sets.is_set (pool-few value sets.pool more)

pub once-finds : (w : World) (refused : Bool) (x : Worker) (others : List Worker) → Stands w (x ∷ others) → FindsFew w.value (at_once w.setup refused w.value x.local x.local.spot)
once-finds w refused x others s = by_spot x.local.spot refl
  where
    node-below : (p : Spot) → x.local.spot ≡ p → in_plain p ≡ true → node_lock x.local.cache < 33
    node-below p is in-plain = let cache = (at_work w x others s).spot.plain (rw is in-plain) in let c = cache.0 in omega arith

    few : (p : Spot) → x.local.spot ≡ p → in_checked p ≡ false → FindsFew w.value (at_once w.setup refused w.value x.local p)
    few p is none = sets-few w.setup x.local p w.value (at_once w.setup refused w.value x.local p).value (replies (at_once w.setup refused w.value x.local p).reply) (node-below p is) none (once-sets w.setup refused w.value x.local p)

    slabs : (spot : CheckedSpot) (kind : CallKind) → x.local.spot ≡ InChecked spot kind → (old : CheckedState) × (w.value (node_lock x.local.cache) ≡ Checked old) × IsSound old × (node_lock x.local.cache < 33)
    slabs spot kind is =
        let old = the-slabs w x others s (rw is refl) in
        let cache = (at_work w x others s).spot.checked (rw is refl) in
        (old.0, old.1, old.2.sound, let c = cache.0 in omega arith)

    by_spot : (p : Spot) → x.local.spot ≡ p → FindsFew w.value (at_once w.setup refused w.value x.local p)
    by_spot (InChecked DoChecked kind) is =
        let old = slabs DoChecked kind is in
        let same : slabs_of w.setup w.value x.local ≡ old.0 = ap (slabs_in (w.setup.layout x.local.cache)) old.1 in
        rw same (do-few w.setup w.value x.local kind old.0 old.3 old.1 old.2)
    by_spot (InChecked MoveRun kind) is = move-few w.setup w.value x.local kind (pool_in (w.value pool_lock))
    by_spot (InChecked AddSlab kind) is = added refused
      where
        added : (refused : Bool) → FindsFew w.value (at_once w.setup refused w.value x.local (InChecked AddSlab kind))
        added true = pool-few w.value (with_put (pool_in (w.value pool_lock)) (run_of x.local)) 1
        added false =
            let old = slabs AddSlab kind is in
            let same : slabs_of w.setup w.value x.local ≡ old.0 = ap (slabs_in (w.setup.layout x.local.cache)) old.1 in
            rw same (
            let taken = run_of x.local in
            let new : Run = record { frame = taken.frame; order = taken.order } in
            let slot : Slot = record { frame = taken.frame; index = 0 } in
            slabs-few w.value x.local old.0 (with_given (with_new_slab old.0 new taken.objects) slot) 1 old.3 old.1 (added-few old.0 new taken.objects slot)
            )
    by_spot (InChecked LockChecked kind) is = omega arith
    by_spot (InChecked LockRun kind) is = omega arith
    by_spot (InChecked GiveRun kind) is = omega arith
    by_spot (InChecked GiveChecked kind) is = omega arith
    by_spot Between is = few Between is refl
    by_spot (InAlloc a) is = few (InAlloc a) is refl
    by_spot (InPutAway a away) is = few (InPutAway a away) is refl
    by_spot (InDiscard a discard) is = few (InDiscard a discard) is refl
    by_spot (InPutOnList a put) is = few (InPutOnList a put) is refl
    by_spot (InFree a) is = few (InFree a) is refl
    by_spot (InMoveSet a move) is = few (InMoveSet a move) is refl
    by_spot (InOffline a sweep) is = few (InOffline a sweep) is refl
    by_spot (InTrim a) is = few (InTrim a) is refl
    by_spot WriteWord is = few WriteWord is refl
    by_spot ReadWord is = few ReadWord is refl

-- ---- a turn

-- one reply less is to come
noted-fewer : (l : Local) (r : Option Reply) → (IsSome r → 1 ≤ length l.todo) → length (noted l r).todo + replies r ≤ length l.todo
noted-fewer l None some = omega arith
noted-fewer l (Some reply) some = by_todo l.todo (some refl)
  where
    by_todo : (calls : List Call) → 1 ≤ length calls → length (drop 1 calls) + 1 ≤ length calls
    by_todo [] some = absurd (omega arith)
    by_todo (call ∷ calls) some = omega arith

answered-fewer : (l : Local) (r : Reply) → length (answered l r).todo ≤ length l.todo
answered-fewer l r = by_todo l.todo
  where
    by_todo : (calls : List Call) → length (drop 1 calls) ≤ length calls
    by_todo [] = omega arith
    by_todo (call ∷ calls) = omega arith

replies-done : (l n : Local) (s : Spot) (r : Option Reply) → Leaves l s n r → IsSome r → IsSome (doing s)
replies-done l n s None leaves some = absurd (false≢true some)
replies-done l n s (Some reply) (todo, done, inl none) some = absurd (none-some reply (sym none))
replies-done l n s (Some reply) (todo, done, inr at_work) some = at_work

-- what can be found, with the replies that a worker has yet to come
abbrev Within : ℕ → (ℕ → LockValue) → Local → Type 0
Within most value l = found_behind value + length l.todo ≤ most

once-within : (opening w : World) (refused : Bool) (most : ℕ) (l : Local) (others : List Worker) → Comes opening w others l → Within most w.value l
    → let c = at_once w.setup refused w.value l l.spot in Within most c.value (noted c.local c.reply)
once-within opening w refused most l others comes ok =
    let c = at_once w.setup refused w.value l l.spot in
    let leaves = change-leaves w.setup refused w.value l l.spot in
    let todo : length c.local.todo ≡ length l.todo = ap (λ (calls : List Call). length calls) leaves.0 in
    let fewer = noted-fewer c.local c.reply (λ some. let has = has-call opening w others l comes (replies-done l c.local l.spot c.reply leaves some) in omega (arith, has, todo)) in
    let finds : FindsFew w.value c = by_worker (joined opening w others l comes) in
    omega (arith, fewer, finds, ok, todo)
  where
    by_worker : (z : Worker) × (z.local ≡ l) × Stands w (z ∷ others) × IsAccounted opening w (z ∷ others) → FindsFew w.value (at_once w.setup refused w.value l l.spot)
    by_worker (z, e, s, ac) = subst (λ l. FindsFew w.value (at_once w.setup refused w.value l l.spot)) e (once-finds w refused z others s)

step-within : (opening : World) (m : Setup) (value : ℕ → LockValue) (words : List ℕ) (refused : Bool) (most : ℕ) (x : Worker) (others : List Worker) → length words ≡ word_count m
    → Stands (world_of m value words) (x ∷ others) → IsAccounted opening (world_of m value words) (x ∷ others) → Within most value x.local
    → let step = step_of m value x.local in let q = get_or words (number_of m step.place) 0 in let c = advance_of m refused value x.local (answer_of step.op q) in Within most c.value c.local
unfolding world_of world_from
step-within opening m value words refused most x others long s ac ok =
    let step = step_of m value x.local in
    let n = number_of m step.place in
    let q = get_or words n 0 in
    let a = answer_of step.op q in
    let after = set words n (after_op step.op q) in
    let turn = advance_at m value x.local x.local.spot a in
    let led = leads x.local.spot opening m value words x others (table m value words x others long s) refl s ac in
    let w = world_of m value after in
    let l = noted turn.local turn.reply in
    let comes : Comes opening w others l = (noted-comes w others turn.local turn.reply (turn-tells m value x.local x.local.spot a) led.0, led.1) in
    let says = turn-says m value x.local x.local.spot a in
    let todo : length turn.local.todo ≡ length x.local.todo = ap (λ (calls : List Call). length calls) says.0 in
    let stepped : Within most value l = omega (arith, ok, todo, noted-less turn.local turn.reply) in
    let first = at_once m refused value l l.spot in
    let once = once-within opening w refused most l others comes stepped in
    let v = world_of m first.value after in
    let k = noted first.local first.reply in
    let twice = once-within opening v refused most k others (comes_once opening w refused others l comes) once in
    let second = at_once m refused first.value k k.spot in
    rested-keeps (Within most second.value) (λ l r ok. omega (arith, ok, answered-fewer l r)) m (noted second.local second.reply) twice
  where
    noted-less : (l : Local) (r : Option Reply) → length (noted l r).todo ≤ length l.todo
    noted-less l None = omega arith
    noted-less l (Some r) = answered-fewer l r

begun-todo : (m : Setup) (tries : Bool) (l : Local) (spot : Spot) → (begun_at m tries l spot).todo ≡ l.todo
begun-todo m tries l Between = by_todo l.todo
  where
    by_todo : (calls : List Call) → (begun_with m tries l calls).todo ≡ l.todo
    by_todo [] = refl
    by_todo (call ∷ calls) = refl
begun-todo m tries l _ = refl

-- ---- a run

-- how many replies are to come
abbrev pub to_come : System → ℕ
to_come s = sum_by (λ (l : Local). length l.todo) s.locals

turn-below : (m : Setup) (opening : World) (s : System) (pick : Pick) → pick.worker < length s.locals → IsCoherentSystem m opening s
    → found_behind (turn m s pick).value + to_come (turn m s pick) ≤ found_behind s.value + to_come s
turn-below m opening s pick below is =
    let b = has-begun m opening s pick below is in
    let k = pick.worker in
    let l = get_or s.locals k idle in
    let most = found_behind s.value + length l.todo in
    let start : Within most s.value (begun m pick.tries l) = omega (arith, ap (λ (calls : List Call). length calls) (begun-todo m pick.tries l l.spot)) in
    let step = step_of m s.value (begun m pick.tries l) in
    let q = get_or s.words (number_of m step.place) 0 in
    let c = advance_of m pick.refused s.value (begun m pick.tries l) (answer_of step.op q) in
    let moved : Within most c.value c.local =
    subst (λ b. let step = step_of m s.value b in let q = get_or s.words (number_of m step.place) 0 in let c = advance_of m pick.refused s.value b (answer_of step.op q) in Within most c.value c.local) b.local
    (step-within opening m s.value s.words pick.refused most b.x (b.front ++ b.back) is.words b.stands b.accounted (subst (Within most s.value) (sym b.local) start)) in
    let sums = sum_by-set (λ (l : Local). length l.todo) s.locals k c.local idle below in
    omega (arith, moved, sums)

turn-found : (m : Setup) (opening : World) (s : System) (pick : Pick) → IsCoherentSystem m opening s
    → found_behind (turn m s pick).value + to_come (turn m s pick) ≤ found_behind s.value + to_come s
turn-found m opening s pick is = elim (cases_lt pick.worker (length s.locals)) [
  | inl below ↦ turn-below m opening s pick below is
  | inr past ↦ subst (λ (t : System). found_behind t.value + to_come t ≤ found_behind s.value + to_come s) (sym (no-turn m s pick past)) (omega arith)
]

-- what can be found after a run, with the replies that are to come, is no more than before it
pub run-found : (m : Setup) (opening : World) (s : System) (picks : List Pick) → IsCoherentSystem m opening s
    → found_behind (run m s picks).value + to_come (run m s picks) ≤ found_behind s.value + to_come s
run-found m opening s [] is = omega arith
run-found m opening s (pick ∷ picks) is =
    omega (arith, run-found m opening (turn m s pick) picks (turn_keeps m opening s pick is), turn-found m opening s pick is)

-- the replies that take no step
pub opened-fewer : (m : Setup) (s : System) → to_come (opened m s) ≤ to_come s
opened-fewer m s = by_locals s.locals
  where
    one : (l : Local) → length (rested m l).todo ≤ length l.todo
    one l = rested-keeps (λ (k : Local). length k.todo ≤ length l.todo) (λ k r ok. omega (arith, ok, answered-fewer k r)) m l (omega arith)

    by_locals : (ls : List Local) → sum_by (λ (l : Local). length l.todo) (map (rested m) ls) ≤ sum_by (λ (l : Local). length l.todo) ls
    by_locals [] = omega arith
    by_locals (l ∷ ls) =
        omega (arith, one l, by_locals ls, sum_by-cons (λ (l : Local). length l.todo) l ls, sum_by-cons (λ (l : Local). length l.todo) (rested m l) (map (rested m) ls))
