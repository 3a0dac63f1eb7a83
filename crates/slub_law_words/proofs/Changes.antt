-- What is done at once ends: how many changes are to come, spot by spot.
use Rattle.std.proofs.Common.{◌≡◌, ℕ, ◌-◌, ◌≤◌, ◌==◌, Bool, true, false, if◌then◌else◌, List, [], ◌∷◌, length, Option, Some, None, refl, sym, ap, ◌∙◌, subst, arith}
use Rattle.std.specs.Prelude.{nat_lt}
use Rattle.slub_page_pool.specs.FreeFrames.{FreeFrames}
use Rattle.slub_object_layout.specs.declared.layout.Layout.{Layout}
use Rattle.slub_red_zone.specs.State.{CheckedState}
use Rattle.slub_red_zone.specs.Steps.{damage_of_used}
use Rattle.slub_red_zone.specs.declared.checked.CheckedGive.{CheckedGive}
use Rattle.slub_red_zone.specs.declared.checked.CheckedGive.TheVariants as give
use Rattle.slub_trace.specs.declared.damage.Damage.{Damage}
use Rattle.slub_trace.specs.declared.reply.Reply.{Reply}
use Rattle.slub_core.specs.declared.call.CallKind.{CallKind}
use Rattle.slub_core.specs.declared.call.CallKind.TheVariants.{Alloc, Free, Write, Read, Poke, Trim, Flush}
use Rattle.slub_core.specs.declared.local.FrameRun.{FrameRun}
use Rattle.slub_core.specs.declared.local.PartialString.{PartialString}
use Rattle.slub_core.specs.declared.spot.Spot.{Spot}
use Rattle.slub_core.specs.declared.spot.Spot.TheVariants.{InAlloc, InPutAway, InDiscard, InFree, InMoveSet, InTrim, InChecked}
use Rattle.slub_core.specs.declared.spot.AllocSpot.TheVariants.{PopNode, LoadPopped, GiveNode, TakeRun}
use Rattle.slub_core.specs.declared.spot.PutAwaySpot.TheVariants.{PutNode}
use Rattle.slub_core.specs.declared.spot.Discard.TheVariants.{FromFree}
use Rattle.slub_core.specs.declared.spot.DiscardSpot.TheVariants.{Unmake, PutRun}
use Rattle.slub_core.specs.declared.spot.FreeSpot.TheVariants.{TakeOff, GiveFree}
use Rattle.slub_core.specs.declared.spot.MoveSet.{MoveSet}
use Rattle.slub_core.specs.declared.spot.MoveSetSpot.TheVariants.{ChooseFront, PutTail, FollowSet, LoadMoved}
use Rattle.slub_core.specs.declared.spot.TrimSpot.TheVariants.{ScanNode, DropScanned, LoadScanned, GiveTrim}
use Rattle.slub_core.specs.declared.spot.CheckedSpot.TheVariants.{DoChecked, LockRun, MoveRun, AddSlab, GiveChecked}
use Rattle.slub_core.specs.Setup.{Setup, pool_lock}
use Rattle.slub_core.specs.World.{LockValue, pool_in}
use Rattle.slub_core.specs.Local.{Local, Change, noted, here, at, with_hand, bare_hand, stays}
use Rattle.slub_core.specs.Alloc.{node_of, with_node, pop_node, asks_for_another, found_run, run_taken, way_of_run}
use Rattle.slub_core.specs.PutAway.{has_enough}
use Rattle.slub_core.specs.MoveSet.{front_taken}
use Rattle.slub_core.specs.Offline.{scan_node}
use Rattle.slub_core.specs.Checked.{slabs_of, slot_of, gave, took_back, do_checked, move_run, way_of_found}
use Rattle.slub_core.specs.Steps.{at_once, changed, settled}
use Rattle.slub_law_words.specs.Laws.{ChangesEnd}

-- ---- spots

-- calls under a checked cache's lock are of these kinds
abbrev pub is_checked_kind : CallKind → Bool
is_checked_kind Trim = false
is_checked_kind Flush = false
is_checked_kind _ = true

abbrev pub is_of_kind : Spot → Bool
is_of_kind (InChecked s kind) = is_checked_kind kind
is_of_kind _ = true

-- how many changes a call under a checked cache's lock begins with
abbrev pub checked_more : CallKind → ℕ
checked_more Trim = 0
checked_more Flush = 0
checked_more _ = 1

-- how many changes are to come at most
abbrev pub more : Spot → ℕ
more (InAlloc PopNode) = 1
more (InAlloc TakeRun) = 1
more (InPutAway PutNode away) = 1
more (InDiscard PutRun discard) = 1
more (InFree TakeOff) = 1
more (InMoveSet ChooseFront move) = 1
more (InMoveSet PutTail move) = 2
more (InTrim ScanNode) = 1
more (InTrim DropScanned) = 1
more (InChecked DoChecked kind) = checked_more kind
more (InChecked MoveRun kind) = 2
more (InChecked AddSlab kind) = 1
more _ = 0

-- never more than two
checked-most : (kind : CallKind) → checked_more kind ≤ 2
checked-most Trim = omega arith
checked-most Flush = omega arith
checked-most _ = omega arith

most : (s : Spot) → more s ≤ 2
most (InAlloc PopNode) = omega arith
most (InAlloc TakeRun) = omega arith
most (InPutAway PutNode away) = omega arith
most (InDiscard PutRun discard) = omega arith
most (InFree TakeOff) = omega arith
most (InMoveSet ChooseFront move) = omega arith
most (InMoveSet PutTail move) = omega arith
most (InTrim ScanNode) = omega arith
most (InTrim DropScanned) = omega arith
most (InChecked DoChecked kind) = checked-most kind
most (InChecked MoveRun kind) = omega arith
most (InChecked AddSlab kind) = omega arith
most _ = omega arith

-- where none is to come nothing is done
still-checked : (m : Setup) (refused : Bool) (value : ℕ → LockValue) (l : Local) (kind : CallKind) → checked_more kind ≡ 0 → at_once m refused value l (InChecked DoChecked kind) ≡ stays value l
still-checked m refused value l Trim e = refl
still-checked m refused value l Flush e = refl
still-checked m refused value l _ e = absurd (omega (arith, e))

still : (m : Setup) (refused : Bool) (value : ℕ → LockValue) (l : Local) (s : Spot) → more s ≡ 0 → at_once m refused value l s ≡ stays value l
still m refused value l (InAlloc PopNode) e = absurd (omega (arith, e))
still m refused value l (InAlloc TakeRun) e = absurd (omega (arith, e))
still m refused value l (InAlloc s) e = refl
still m refused value l (InPutAway PutNode away) e = absurd (omega (arith, e))
still m refused value l (InPutAway s away) e = refl
still m refused value l (InDiscard PutRun discard) e = absurd (omega (arith, e))
still m refused value l (InDiscard s discard) e = refl
still m refused value l (InFree TakeOff) e = absurd (omega (arith, e))
still m refused value l (InFree s) e = refl
still m refused value l (InMoveSet ChooseFront move) e = absurd (omega (arith, e))
still m refused value l (InMoveSet PutTail move) e = absurd (omega (arith, e))
still m refused value l (InMoveSet s move) e = refl
still m refused value l (InTrim ScanNode) e = absurd (omega (arith, e))
still m refused value l (InTrim DropScanned) e = absurd (omega (arith, e))
still m refused value l (InTrim s) e = refl
still m refused value l (InChecked DoChecked kind) e = still-checked m refused value l kind e
still m refused value l (InChecked MoveRun kind) e = absurd (omega (arith, e))
still m refused value l (InChecked AddSlab kind) e = absurd (omega (arith, e))
still m refused value l (InChecked s kind) e = refl
still m refused value l s e = refl

-- ---- after a change

-- one change less is to come, and the kind of a call under a checked cache's lock stays one of those
pub record Next (s after : Spot) : Type 0 where
  pub fewer : more after ≤ more s - 1
  pub kind : is_of_kind s ≡ true → is_of_kind after ≡ true

-- by a condition
choose : {A : Type 0} (P : A → Type 0) (b : Bool) (x y : A) → P x → P y → P (if b then x else y)
choose P true x y a b = a
choose P false x y a b = b

next-alloc_run : (value : ℕ → LockValue) (pool : FreeFrames) (layout : Layout) (l : Local) (found : Option FrameRun) → Next (InAlloc TakeRun) (run_taken value pool layout (at l (way_of_run found)) found).local.spot
next-alloc_run value pool layout l None = record { fewer = omega arith; kind = λ k. refl }
next-alloc_run value pool layout l (Some run) = record { fewer = omega arith; kind = λ k. refl }

next-pop : (m : Setup) (value : ℕ → LockValue) (l : Local) (frames : List ℕ) → Next (InAlloc PopNode) (pop_node m value l frames).local.spot
next-pop m value l [] = record { fewer = omega arith; kind = λ k. refl }
next-pop m value l (frame ∷ frames) =
    choose (λ (c : Change). Next (InAlloc PopNode) c.local.spot) (asks_for_another m l)
    (stays (with_node value l frames) (at (with_hand l (bare_hand frame)) (InAlloc LoadPopped)))
    (stays value (at l (InAlloc GiveNode)))
    (record { fewer = omega arith; kind = λ k. refl }) (record { fewer = omega arith; kind = λ k. refl })

next-front : (l : Local) (move : MoveSet) (string : Option PartialString) → Next (InMoveSet ChooseFront move) (front_taken l move string).spot
next-front l move None = record { fewer = omega arith; kind = λ k. refl }
next-front l move (Some string) =
    choose (λ (l : Local). Next (InMoveSet ChooseFront move) l.spot) (string.count == 1)
    (record (with_hand l (bare_hand string.front)) { string = None; spot = InMoveSet LoadMoved move })
    (at l (InMoveSet FollowSet move))
    (record { fewer = omega arith; kind = λ k. refl }) (record { fewer = omega arith; kind = λ k. refl })

next-scan : (m : Setup) (value : ℕ → LockValue) (l : Local) (frames : List ℕ) → Next (InTrim ScanNode) (scan_node m value l frames).local.spot
next-scan m value l frames =
    choose (λ (c : Change). Next (InTrim ScanNode) c.local.spot) (nat_lt (length l.scanned) (length frames))
    (stays value (at l (InTrim LoadScanned)))
    (stays (with_node value l (m.means.promote frames l.scanned)) (at l (InTrim GiveTrim)))
    (record { fewer = omega arith; kind = λ k. refl }) (record { fewer = omega arith; kind = λ k. refl })

next-gave : (m : Setup) (value : ℕ → LockValue) (l : Local) (after : CheckedState) (given : CheckedGive) → Next (InChecked DoChecked Alloc) (gave m value l after given).local.spot
next-gave m value l after (give.Given slot) = record { fewer = omega arith; kind = λ k. refl }
next-gave m value l after give.Empty = record { fewer = omega arith; kind = λ k. refl }

next-took : (m : Setup) (value : ℕ → LockValue) (l : Local) (s : CheckedState) (damage : Option Damage) → Next (InChecked DoChecked Free) (took_back m value l s damage).local.spot
next-took m value l s None =
    choose (λ (s : Spot). Next (InChecked DoChecked Free) s) _ (InChecked LockRun Free) (InChecked GiveChecked Free)
    (record { fewer = omega arith; kind = λ k. refl }) (record { fewer = omega arith; kind = λ k. refl })
next-took m value l s (Some damage) = record { fewer = omega arith; kind = λ k. refl }

next-checked : (m : Setup) (value : ℕ → LockValue) (l : Local) (kind : CallKind) (s : CheckedState) → l.spot ≡ InChecked DoChecked kind → Next (InChecked DoChecked kind) (do_checked m value l kind s).local.spot
next-checked m value l Alloc s is = next-gave m value l (m.means.give s) (m.means.gave s)
next-checked m value l Free s is = next-took m value l s (damage_of_used s (slot_of l))
next-checked m value l Write s is = record { fewer = omega arith; kind = λ k. refl }
next-checked m value l Read s is = record { fewer = omega arith; kind = λ k. refl }
next-checked m value l Poke s is = record { fewer = omega arith; kind = λ k. refl }
next-checked m value l Trim s is = subst (Next (InChecked DoChecked Trim)) (sym is) (record { fewer = omega arith; kind = λ k. k })
next-checked m value l Flush s is = subst (Next (InChecked DoChecked Flush)) (sym is) (record { fewer = omega arith; kind = λ k. k })

next-found : (value : ℕ → LockValue) (pool : FreeFrames) (layout : Layout) (l : Local) (found : Option FrameRun) → Next (InChecked MoveRun Alloc) (run_taken value pool layout (at l (way_of_found found)) found).local.spot
next-found value pool layout l None = record { fewer = omega arith; kind = λ k. refl }
next-found value pool layout l (Some run) = record { fewer = omega arith; kind = λ k. refl }

next-run : (m : Setup) (value : ℕ → LockValue) (l : Local) (kind : CallKind) (pool : FreeFrames) → Next (InChecked MoveRun kind) (move_run m value l kind pool).local.spot
next-run m value l Alloc pool = next-found value pool (m.layout l.cache) l (found_run m pool (m.layout l.cache))
next-run m value l _ pool = record { fewer = omega arith; kind = λ k. k }

next : (m : Setup) (refused : Bool) (value : ℕ → LockValue) (l : Local) (s : Spot) → l.spot ≡ s → Next s (at_once m refused value l s).local.spot
next m refused value l (InAlloc PopNode) is = next-pop m value l (node_of value l)
next m refused value l (InAlloc TakeRun) is = next-alloc_run value (pool_in (value pool_lock)) (m.layout l.cache) l (found_run m (pool_in (value pool_lock)) (m.layout l.cache))
next m refused value l (InPutAway PutNode away) is = record { fewer = omega arith; kind = λ k. refl }
next m refused value l (InDiscard PutRun discard) is = record { fewer = omega arith; kind = λ k. refl }
next m refused value l (InFree TakeOff) is =
    choose (λ (l : Local). Next (InFree TakeOff) l.spot) (has_enough m value l)
    (at (with_hand l (bare_hand (here l).frame)) (InDiscard Unmake FromFree))
    (at l (InFree GiveFree))
    (record { fewer = omega arith; kind = λ k. refl }) (record { fewer = omega arith; kind = λ k. refl })
next m refused value l (InMoveSet ChooseFront move) is = next-front l move l.string
next m refused value l (InMoveSet PutTail move) is = record { fewer = omega arith; kind = λ k. refl }
next m refused value l (InTrim ScanNode) is = next-scan m value l (node_of value l)
next m refused value l (InTrim DropScanned) is = record { fewer = omega arith; kind = λ k. refl }
next m refused value l (InChecked DoChecked kind) is = next-checked m value l kind (slabs_of m value l) is
next m refused value l (InChecked MoveRun kind) is = next-run m value l kind (pool_in (value pool_lock))
next m refused value l (InChecked AddSlab kind) is =
    choose (λ (c : Change). Next (InChecked AddSlab kind) c.local.spot) refused _ _
    (record { fewer = omega arith; kind = λ k. refl }) (record { fewer = omega arith; kind = λ k. refl })
next m refused value l spot is = subst (Next spot) (sym is) (record { fewer = omega arith; kind = λ k. k })

-- ---- after two

-- a reply moves nobody
pub spot-noted : (l : Local) (reply : Option Reply) → (noted l reply).spot ≡ l.spot
spot-noted l None = refl
spot-noted l (Some reply) = refl

next-changed : (m : Setup) (refused : Bool) (c : Change) → Next c.local.spot (changed m refused c).local.spot
next-changed m refused c =
    let l = noted c.local c.reply in
    subst (λ s. Next s (changed m refused c).local.spot) (spot-noted c.local c.reply) (next m refused c.value l l.spot refl)

-- none is to come, and the kind is one of those still
pub record IsEnded (before after : Spot) : Type 0 where
  pub none : more after ≡ 0
  pub kind : is_of_kind before ≡ true → is_of_kind after ≡ true

pub ended : (m : Setup) (refused : Bool) (c : Change) → IsEnded c.local.spot (settled m refused c).local.spot
ended m refused c =
    let one = changed m refused c in
    let a = next-changed m refused c in
    let b = next-changed m refused one in
    record { none = omega (arith, a.fewer, b.fewer, most c.local.spot); kind = λ k. b.kind (a.kind k) }

pub changes_end : ChangesEnd
changes_end m refused c =
    let d = settled m refused c in
    let l = noted d.local d.reply in
    still m refused d.value l l.spot (ap more (spot-noted d.local d.reply) ∙ (ended m refused c).none)
