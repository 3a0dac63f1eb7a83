-- A poke of an object that its worker knows is answered that it isn't held only in a checked cache, where the byte lies in the slot: its slab is gone, which had it in use before.
use Rattle.std.proofs.Common.{◌≡◌, ℕ, zero, suc, ◌<◌, ◌≤◌, append_assoc, append-nil, eqb, Bool, true, false, cond, not, if◌then◌else◌, List, [], ◌∷◌, ◌++◌, length, drop, get_or, set, refl, sym, ap, subst, ◌∙◌, arith, All, Option, Some, None, IsSome, is_some, inl, inr}
use Rattle.std.specs.Prelude.{⊤, nat_lt}
use Rattle.std.proofs.lemmas.Bool.{cases_lt, false≢true}
use Rattle.std.proofs.lemmas.Bool.Decides.{nat_tests}
use Rattle.std.proofs.lemmas.List.Elements.{All-get_or, All-head, All-map, All-set, All-tail, All-weaker}
use Rattle.std.proofs.lemmas.Option.{slice_get_past}
use Rattle.slub_trace.specs.declared.reply.Reply.{Reply}
use Rattle.slub_trace.specs.declared.reply.Reply.TheVariants as reply
use Rattle.slub_words.specs.declared.board.BoardWord.{BoardWord}
use Rattle.slub_object_layout.specs.declared.layout.Layout.{Layout}
use Rattle.slub_object_layout.specs.Layout.{address_of}
use Rattle.slub_red_zone.specs.State.{CheckedState, IsUsed, objects_in, slab_of, state_of}
use Rattle.slub_red_zone.specs.declared.checked.Slot.{Slot}
use Rattle.slub_core.specs.declared.call.Call.{Call}
use Rattle.slub_core.specs.declared.call.CallKind.{CallKind}
use Rattle.slub_core.specs.declared.call.CallKind.TheVariants.{Alloc, Poke}
use Rattle.slub_core.specs.declared.local.Known.{Known}
use Rattle.slub_core.specs.declared.local.Answered.{Answered}
use Rattle.slub_core.specs.declared.step.Answer.{Answer}
use Rattle.slub_core.specs.declared.step.Answer.TheVariants.{Done, Won}
use Rattle.slub_core.specs.declared.spot.Spot.{Spot}
use Rattle.slub_core.specs.declared.spot.Spot.TheVariants.{Between, InAlloc, InPutAway, InDiscard, InPutOnList, InFree, InMoveSet, InOffline, InTrim, WriteWord, ReadWord, InChecked}
use Rattle.slub_core.specs.declared.spot.AllocSpot.{AllocSpot}
use Rattle.slub_core.specs.declared.spot.AllocSpot.TheVariants.{GiveDry}
use Rattle.slub_core.specs.declared.spot.Away.{Away}
use Rattle.slub_core.specs.declared.spot.Away.TheVariants.{ForInstall, ForSpent, ForSweep}
use Rattle.slub_core.specs.declared.spot.Discard.{Discard}
use Rattle.slub_core.specs.declared.spot.Discard.TheVariants.{FromAway, FromFree, FromMove, FromTrim}
use Rattle.slub_core.specs.declared.spot.PutOnList.TheVariants.{OfRest, OfNode, OfFree}
use Rattle.slub_core.specs.declared.spot.FreeSpot.{FreeSpot}
use Rattle.slub_core.specs.declared.spot.FreeSpot.TheVariants.{TakeOff, GiveFree, LoadCount, TakeSet}
use Rattle.slub_core.specs.declared.spot.MoveSet.{MoveSet}
use Rattle.slub_core.specs.declared.spot.MoveSet.TheVariants.{ForFree, ForOffline}
use Rattle.slub_core.specs.declared.spot.Sweep.{Sweep}
use Rattle.slub_core.specs.declared.spot.Sweep.TheVariants.{Trimming, Flushing}
use Rattle.slub_core.specs.declared.spot.CheckedSpot.{CheckedSpot}
use Rattle.slub_core.specs.declared.spot.CheckedSpot.TheVariants.{LockChecked, DoChecked, LockRun, MoveRun, AddSlab, GiveRun, GiveChecked}
use Rattle.slub_core.specs.Calls.{call_kind, call_object, call_place, call_offset}
use Rattle.slub_core.specs.Setup.{Setup, node_lock}
use Rattle.slub_core.specs.Words.{word_count, number_of, after_op, answer_of}
use Rattle.slub_core.specs.World.{World, LockValue, world_from, world_of}
use Rattle.slub_core.specs.Local.{Local, Worker, answered, call_of, here, no_call, nobody, noted}
use Rattle.slub_core.specs.Spots.{doing, of_away, of_discard, of_move, of_sweep}
use Rattle.slub_core.specs.Checked.{checked_advance, checked_at_once, is_offset, poked_reply, slabs_in, slabs_of, slot_of}
use Rattle.slub_core.specs.Steps.{advance_at, advance_of, at_once, begun, begun_at, begun_with, or_step, rested, rested_at, rested_with, step_of, told_at_once, told_of_poke}
use Rattle.slub_core.specs.Replies.{address_by, cache_by, knows, knows_after, names_object}
use Rattle.slub_core.specs.Run.{System, Pick, idle, run, turn}
use Rattle.slub_core.specs.Accounted.{CallFits, IsAccounted, known_of, place_of}
use Rattle.slub_core.specs.Coherent.{Stands}
use Rattle.slub_core.specs.Opening.{IsNew, IsOpening, IsRoom, opened}
use Rattle.slub_core.specs.Law.{IsCoherentSystem}
use Rattle.slub_core.proofs.Accounts.{Comes}
use Rattle.slub_core.proofs.Dispatch.{leads}
use Rattle.slub_core.proofs.Leads.{table}
use Rattle.slub_core.proofs.Noted.{noted-comes}
use Rattle.slub_core.proofs.Opens.{opens}
use Rattle.slub_core.proofs.Rests.{joined}
use Rattle.slub_core.proofs.Scripts.{change-leaves, turn-says}
use Rattle.slub_core.proofs.TaleReplies.{told-of}
use Rattle.slub_core.proofs.TaleSettled.{comes_once}
use Rattle.slub_core.proofs.Tells.{turn-tells}
use Rattle.slub_core.proofs.Turns.{turn_keeps as turn_keeps_all}
use Rattle.slub_law_opening.proofs.Turns.{has-begun, no-turn}
use Rattle.slub_law_rounds.proofs.Acts.{at-work, one-more, where-known}
use Rattle.slub_law_rounds.proofs.Mild.{MildReply, rest-mild}
use Rattle.slub_law_replay.proofs.InUse.{in-use, the-slabs}
use Rattle.slub_law_replay.proofs.Knowing.{IsSameSlot, Recalls, begun-known, noted-known, rested-known, turn-keeps, twice-keeps}
use Rattle.slub_law_replay.proofs.WantReplies.{is_wanting, noted-spot, once-leads}

-- ---- what is so of such a reply

-- a poke that was answered so, of an object that the worker knows: where it is, and that it was lost
abbrev pub IsRight : Setup → (ℕ → ℕ → Type 0) → (ℕ → Option BoardWord) → List Answered → Answered → Type 0
IsRight m lost before ds d =
    (call_kind d.call) ≡ Poke → d.reply ≡ reply.NotHeld → knows ds (call_object d.call) ≡ true
    → (k : ℕ) × (cache_by before ds (call_object d.call) ≡ Some k) × (m.checks k ≡ true) × (is_offset (m.layout k) (call_offset d.call) ≡ true)
    × ((address : ℕ) × (address_by m before ds (call_object d.call) ≡ Some address) × lost k address)

abbrev pub AreRight : Setup → (ℕ → ℕ → Type 0) → (ℕ → Option BoardWord) → List Answered → Type 0
AreRight m lost before [] = ⊤
AreRight m lost before (d ∷ ds) = IsRight m lost before ds d × AreRight m lost before ds

-- a reply that comes, or none
noted-right : (m : Setup) (lost : ℕ → ℕ → Type 0) (before : ℕ → Option BoardWord) (l n : Local) (r : Option Reply) → n.done ≡ l.done → n.todo ≡ l.todo → ((told : Reply) → r ≡ Some told → IsRight m lost before l.done (one-more l told)) → AreRight m lost before l.done
    → AreRight m lost before (noted n r).done
noted-right m lost before l n None done todo right has = subst (AreRight m lost before) (sym done) has
noted-right m lost before l n (Some told) done todo right has =
    let e : (answered n told).done ≡ one-more l told ∷ l.done = (λ i. record { call = get_or (todo i) 0 no_call; reply = told } ∷ done i) in
    subst (AreRight m lost before) (sym e) (right told refl, has)

-- ---- moments

-- the slabs of a cache by the values of the locks
abbrev pub slabs_by : Setup → (ℕ → LockValue) → ℕ → CheckedState
slabs_by m value k = slabs_in (m.layout k) (value (node_lock k))

abbrev pub slot_at : Known → Slot
slot_at known = record { frame = known.frame; index = known.index }

-- what was in use at a moment up to now, and what is lost where there is no such object now
pub record Moment (m : Setup) (was : ℕ → Slot → Type 0) (lost : ℕ → ℕ → Type 0) (value : ℕ → LockValue) : Type 0 where
  pub now : (k : ℕ) (slot : Slot) → IsUsed (slabs_by m value k) slot → was k slot
  pub lose : (k : ℕ) (slot : Slot) → was k slot → state_of (slabs_by m value k) slot ≡ None → lost k (address_of slot.frame slot.index (m.layout k))

-- each object of a checked cache that a worker knows was in use
abbrev pub WereThere : Setup → (ℕ → Slot → Type 0) → List Known → Type 0
WereThere m was ks = (i : ℕ) → m.checks (get_or ks i nobody).cache ≡ true → 1 ≤ (get_or ks i nobody).frame → was (get_or ks i nobody).cache (slot_at (get_or ks i nobody))

there-as : (m : Setup) (was : ℕ → Slot → Type 0) (new old : Known) → IsSameSlot new old → (m.checks old.cache ≡ true → 1 ≤ old.frame → was old.cache (slot_at old)) → m.checks new.cache ≡ true → 1 ≤ new.frame → was new.cache (slot_at new)
there-as m was new old same there checks real = moved new.frame new.index new.cache same.0 same.1 same.2 checks real
  where
    moved : (frame index cache : ℕ) → frame ≡ old.frame → index ≡ old.index → cache ≡ old.cache → m.checks cache ≡ true → 1 ≤ frame → was cache (record { frame = frame; index = index })
    moved frame index cache a b c checks real =
        subst (λ (cache : ℕ). was cache (record { frame = frame; index = index })) (sym c)
        (subst (λ (frame : ℕ). was old.cache (record { frame = frame; index = index })) (sym a)
        (subst (λ (index : ℕ). was old.cache (record { frame = old.frame; index = index })) (sym b) (there (ap m.checks (sym c) ∙ checks) (subst (λ (frame : ℕ). 1 ≤ frame) a real))))

-- what stays was there, and what is held now is in use
recalled : (m : Setup) (was : ℕ → Slot → Type 0) (old new : List Known) → Recalls old new → WereThere m was old → ((i : ℕ) → (get_or new i nobody).held ≡ true → m.checks (get_or new i nobody).cache ≡ true → was (get_or new i nobody).cache (slot_at (get_or new i nobody)))
    → WereThere m was new
recalled m was old new recalls there holds i checks real = elim (recalls i) [
  | inl held ↦ holds i held checks
  | inr same ↦ there-as m was (get_or new i nobody) (get_or old i nobody) same (there i) checks real
]

-- by coherence
holds-now : (opening w : World) (others : List Worker) (l : Local) (was : ℕ → Slot → Type 0) → Comes opening w others l → ((k : ℕ) (slot : Slot) → IsUsed (slabs_by w.setup w.value k) slot → was k slot)
    → (i : ℕ) → (get_or l.known i nobody).held ≡ true → w.setup.checks (get_or l.known i nobody).cache ≡ true → was (get_or l.known i nobody).cache (slot_at (get_or l.known i nobody))
holds-now opening w others l was comes now =
    let z = joined opening w others l comes in
    subst (λ (l : Local). (i : ℕ) → (get_or l.known i nobody).held ≡ true → w.setup.checks (get_or l.known i nobody).cache ≡ true → was (get_or l.known i nobody).cache (slot_at (get_or l.known i nobody))) z.1
    (λ i held checks. now (get_or z.0.local.known i nobody).cache (slot_at (get_or z.0.local.known i nobody)) (in-use w z.0 others i z.2 held checks))

-- ---- where a poke is

sweep-not : (sweep : Sweep) → of_sweep sweep ≡ Some Poke → ⊥
sweep-not Trimming is = cc
sweep-not Flushing is = cc

away-not : (away : Away) → of_away away ≡ Some Poke → ⊥
away-not ForInstall is = cc
away-not ForSpent is = cc
away-not (ForSweep sweep) is = sweep-not sweep is

move-not : (move : MoveSet) → of_move move ≡ Some Poke → ⊥
move-not ForFree is = cc
move-not (ForOffline sweep) is = sweep-not sweep is

discard-not : (discard : Discard) → of_discard discard ≡ Some Poke → ⊥
discard-not (FromAway away) is = away-not away is
discard-not FromFree is = cc
discard-not (FromMove move) is = move-not move is
discard-not FromTrim is = cc

alloc-not : (s : AllocSpot) → doing (InAlloc s) ≡ Some Poke → ⊥
alloc-not GiveDry is = cc
alloc-not s is = cc

free-not : (s : FreeSpot) → doing (InFree s) ≡ Some Poke → ⊥
free-not TakeOff is = cc
free-not GiveFree is = cc
free-not LoadCount is = cc
free-not TakeSet is = cc
free-not s is = cc

-- the calls of checked caches
checked-poke : (c : CheckedSpot) (kind : CallKind) → doing (InChecked c kind) ≡ Some Poke → kind ≡ Poke
checked-poke LockChecked kind is = cc
checked-poke DoChecked kind is = cc
checked-poke LockRun Alloc is = absurd (cc)
checked-poke LockRun kind is = absurd (cc)
checked-poke MoveRun Alloc is = absurd (cc)
checked-poke MoveRun kind is = absurd (cc)
checked-poke AddSlab kind is = absurd (cc)
checked-poke GiveRun kind is = absurd (cc)
checked-poke GiveChecked kind is = absurd (cc)

poke-spot : (s : Spot) → doing s ≡ Some Poke → (c : CheckedSpot) × (s ≡ InChecked c Poke)
poke-spot Between is = absurd (cc)
poke-spot (InAlloc s) is = absurd (alloc-not s is)
poke-spot (InPutAway s away) is = absurd (away-not away is)
poke-spot (InDiscard s discard) is = absurd (discard-not discard is)
poke-spot (InPutOnList s OfRest) is = absurd (cc)
poke-spot (InPutOnList s OfNode) is = absurd (cc)
poke-spot (InPutOnList s OfFree) is = absurd (cc)
poke-spot (InFree s) is = absurd (free-not s is)
poke-spot (InMoveSet s move) is = absurd (move-not move is)
poke-spot (InOffline s sweep) is = absurd (sweep-not sweep is)
poke-spot (InTrim s) is = absurd (cc)
poke-spot WriteWord is = absurd (cc)
poke-spot ReadWord is = absurd (cc)
poke-spot (InChecked c kind) is = (c, ap (λ k. InChecked c k) (checked-poke c kind is))

some-of : {A : Type 0} (x : Option A) → is_some x ≡ true → (y : A) × (x ≡ Some y)
some-of None none = absurd (false≢true none)
some-of (Some y) some = (y, refl)

-- a call of a poke that has no reply yet is at a spot of a checked cache
in-poke : (opening w : World) (x : Worker) (others : List Worker) → IsAccounted opening w (x ∷ others) → IsSome (doing x.local.spot) → call_kind (call_of x.local) ≡ Poke → (c : CheckedSpot) × (x.local.spot ≡ InChecked c Poke)
in-poke opening w x others ac some asks =
    let d = some-of (doing x.local.spot) some in
    let same : call_kind (call_of x.local) ≡ d.0 = ((told-of opening w x others ac).call d.0 d.1).0.same_kind in
    poke-spot x.local.spot (d.1 ∙ ap (λ k. Some k) (sym same ∙ asks))

-- ---- a step answers no poke

step-none : (l : Local) (c : CheckedSpot) (kind : CallKind) (a : Answer) → (checked_advance l c kind a).reply ≡ None
step-none l LockChecked kind Won = refl
step-none l LockRun kind Won = refl
step-none l GiveRun kind Done = refl
step-none l GiveChecked kind Done = refl
step-none l c kind a = refl

none-told : (r : Option Reply) (told : Reply) → r ≡ None → r ≡ Some told → ⊥
none-told r told none is = cc

step-right : (lost : ℕ → ℕ → Type 0) (opening w : World) (x : Worker) (others : List Worker) (a : Answer) → IsAccounted opening w (x ∷ others) → (told : Reply) → (advance_at w.setup w.value x.local x.local.spot a).reply ≡ Some told → IsRight w.setup lost opening.board x.local.done (one-more x.local told)
step-right lost opening w x others a ac told is asks unheld known =
    elim (turn-says w.setup w.value x.local x.local.spot a).2 [
      | inl none ↦ absurd (none-told _ told none is)
      | inr some ↦ (let at = in-poke opening w x others ac some asks in
          absurd (none-told (checked_advance x.local at.0 Poke a).reply told (step-none x.local at.0 Poke a) (subst (λ s. (advance_at w.setup w.value x.local s a).reply ≡ Some told) at.1 is)))
    ]

-- ---- what is done at once

-- where it is answered so the byte lies in the slot, and there is no such object
poked-missed : (l : Local) (s : CheckedState) → poked_reply l s ≡ reply.NotHeld → (is_offset s.layout (call_offset (call_of l)) ≡ true) × (state_of s (slot_of l) ≡ None)
poked-missed l s is = by (is_offset s.layout (call_offset (call_of l))) (nat_lt (here l).index (objects_in (slab_of s (here l).frame))) refl refl is
  where
    by : (inside there : Bool) → is_offset s.layout (call_offset (call_of l)) ≡ inside → nat_lt (here l).index (objects_in (slab_of s (here l).frame)) ≡ there → (if inside then (if there then reply.Poked else reply.NotHeld) else reply.OutOfSlot) ≡ reply.NotHeld
        → (is_offset s.layout (call_offset (call_of l)) ≡ true) × (state_of s (slot_of l) ≡ None)
    by true true e f told = absurd (cc)
    by true false e f told = (e, slice_get_past (slab_of s (here l).frame).states (here l).index (grind (arith, nat_tests, f)))
    by false there e f told = absurd (cc)

-- what a poke of an object that isn't there rests on
abbrev pub Misses : Setup → (ℕ → ℕ → Type 0) → (ℕ → LockValue) → Local → Type 0
Misses m lost value l =
    l.spot ≡ InChecked DoChecked Poke → (here l).cache ≡ l.cache → 1 ≤ (here l).frame → m.checks l.cache ≡ true → state_of (slabs_of m value l) (slot_of l) ≡ None
    → lost l.cache (address_of (here l).frame (here l).index (m.layout l.cache))

-- where such a poke is answered
abbrev pub IsMissed : (opening w : World) (x : Worker) → (ℕ → ℕ → Type 0) → Type 0
IsMissed opening w x lost =
    (k : ℕ) × (cache_by opening.board x.local.done (call_object (call_of x.local)) ≡ Some k) × (w.setup.checks k ≡ true) × (is_offset (w.setup.layout k) (call_offset (call_of x.local)) ≡ true)
    × ((address : ℕ) × (address_by w.setup opening.board x.local.done (call_object (call_of x.local)) ≡ Some address) × lost k address)

do-right : (lost : ℕ → ℕ → Type 0) (opening w : World) (x : Worker) (others : List Worker) → x.local.spot ≡ InChecked DoChecked Poke → Stands w (x ∷ others) → IsAccounted opening w (x ∷ others) → Misses w.setup lost w.value x.local
    → poked_reply x.local (slabs_of w.setup w.value x.local) ≡ reply.NotHeld → IsMissed opening w x lost
do-right lost opening w x others is s ac misses told =
    let ok = at-work w x others s in
    let pokes = ok.spot.pokes (rw is refl) in
    let checks = (ok.spot.checked (rw is refl)).2 in
    let place = where-known opening w x others Poke ac (rw is refl) refl pokes.2 in
    let r = the-slabs w (x ∷ others) x.local.cache s checks in
    let e : slabs_of w.setup w.value x.local ≡ r.0 = ap (slabs_in (w.setup.layout x.local.cache)) r.1 in
    let missed = poked-missed x.local (slabs_of w.setup w.value x.local) told in
    let inside : is_offset r.0.layout (call_offset (call_of x.local)) ≡ true = subst (λ (slabs : CheckedState). is_offset slabs.layout (call_offset (call_of x.local)) ≡ true) e missed.0 in (
      x.local.cache,
      place.cache ∙ ap (λ k. Some k) pokes.1,
      checks,
      sym (ap (λ (l : Layout). is_offset l (call_offset (call_of x.local))) r.2.layout) ∙ inside,
      (
        address_of (here x.local).frame (here x.local).index (w.setup.layout x.local.cache),
        place.address ∙ ap (λ k. Some (address_of (here x.local).frame (here x.local).index (w.setup.layout k))) pokes.1,
        misses is pokes.1 pokes.2 checks missed.1,
      ),
    )

same-told : (told other : Reply) → Some told ≡ Some other → told ≡ other
same-told told other is = cc

at-once-right : (lost : ℕ → ℕ → Type 0) (opening w : World) (refused : Bool) (x : Worker) (others : List Worker) (c : CheckedSpot) → x.local.spot ≡ InChecked c Poke → Stands w (x ∷ others) → IsAccounted opening w (x ∷ others) → Misses w.setup lost w.value x.local
    → (told : Reply) → (checked_at_once w.setup refused w.value x.local c Poke).reply ≡ Some told → told ≡ reply.NotHeld → IsMissed opening w x lost
at-once-right lost opening w refused x others DoChecked is s ac misses told reply_is unheld = do-right lost opening w x others is s ac misses (same-told (poked_reply x.local (slabs_of w.setup w.value x.local)) told reply_is ∙ unheld)
at-once-right lost opening w true x others AddSlab is s ac misses told reply_is unheld = absurd (let a : reply.NoMemory ≡ told = same-told reply.NoMemory told reply_is in let never : reply.NoMemory ≡ reply.NotHeld = a ∙ unheld in cc)
at-once-right lost opening w false x others AddSlab is s ac misses told reply_is unheld = absurd (let a = same-told _ told reply_is in let never = a ∙ unheld in cc)
at-once-right lost opening w refused x others MoveRun is s ac misses told reply_is unheld = absurd (none-told None told refl reply_is)
at-once-right lost opening w refused x others LockChecked is s ac misses told reply_is unheld = absurd (none-told None told refl reply_is)
at-once-right lost opening w refused x others LockRun is s ac misses told reply_is unheld = absurd (none-told None told refl reply_is)
at-once-right lost opening w refused x others GiveRun is s ac misses told reply_is unheld = absurd (none-told None told refl reply_is)
at-once-right lost opening w refused x others GiveChecked is s ac misses told reply_is unheld = absurd (none-told None told refl reply_is)

once-right : (lost : ℕ → ℕ → Type 0) (opening w : World) (refused : Bool) (x : Worker) (others : List Worker) → Stands w (x ∷ others) → IsAccounted opening w (x ∷ others) → Misses w.setup lost w.value x.local
    → (told : Reply) → (at_once w.setup refused w.value x.local x.local.spot).reply ≡ Some told → IsRight w.setup lost opening.board x.local.done (one-more x.local told)
once-right lost opening w refused x others s ac misses told is asks unheld known =
    elim (change-leaves w.setup refused w.value x.local x.local.spot).2 [
      | inl none ↦ absurd (none-told _ told none is)
      | inr some ↦ (let at = in-poke opening w x others ac some asks in
          at-once-right lost opening w refused x others at.0 at.1 s ac misses told (subst (λ s. (at_once w.setup refused w.value x.local s).reply ≡ Some told) at.1 is) unheld)
    ]

once : (lost : ℕ → ℕ → Type 0) (opening w : World) (refused : Bool) (others : List Worker) (l : Local) → Comes opening w others l → Misses w.setup lost w.value l → AreRight w.setup lost opening.board l.done
    → let c = at_once w.setup refused w.value l l.spot in AreRight w.setup lost opening.board (noted c.local c.reply).done
once lost opening w refused others l comes =
    let z = joined opening w others l comes in
    subst (λ l. Misses w.setup lost w.value l → AreRight w.setup lost opening.board l.done → let c = at_once w.setup refused w.value l l.spot in AreRight w.setup lost opening.board (noted c.local c.reply).done) z.1
    (λ misses has.
    let c = at_once w.setup refused w.value z.0.local z.0.local.spot in
    let leaves = change-leaves w.setup refused w.value z.0.local z.0.local.spot in
    noted-right w.setup lost opening.board z.0.local c.local c.reply leaves.1 leaves.0 (once-right lost opening w refused z.0 others z.2 z.3 misses) has)

-- ---- replies that take no step

-- what the worker knows it has a place for, and its calls fit
record Knows (m : Setup) (l : Local) : Type 0 where
  pub real : (o : ℕ) → knows l.done o ≡ true → 1 ≤ (known_of l.known o).frame
  pub fits : All (CallFits m l.known) l.todo

knows-of : (opening w : World) (others : List Worker) (l : Local) → Comes opening w others l → Knows w.setup l
knows-of opening w others l comes =
    let z = joined opening w others l comes in
    subst (Knows w.setup) z.1 (let told = told-of opening w z.0 others z.3 in record { real = λ o known. (told.tells o known).2; fits = told.fits })

mild-knows : (told : Reply) (k : Bool) → MildReply (Some told) → knows_after told k ≡ k
mild-knows (reply.Given a) k mild = absurd mild
mild-knows (reply.Freed a) k mild = absurd mild
mild-knows (reply.Corrupt d) k mild = absurd mild
mild-knows told k mild = refl

same-either : (b k : Bool) → cond b k k ≡ k
same-either true k = refl
same-either false k = refl

-- only of an object that the worker doesn't know
unknown-poke : (m : Setup) (known : Known) → told_of_poke m known ≡ Some reply.NotHeld → known.frame ≡ 0
unknown-poke m known is = by (eqb known.frame 0) (m.checks known.cache) refl is
  where
    by : (none checks : Bool) → eqb known.frame 0 ≡ none → told_of_poke m known ≡ Some reply.NotHeld → known.frame ≡ 0
    by true checks e told = grind (arith, nat_tests, e)
    by false checks e told = absurd (other (not (m.checks known.cache)) (sym (let out : told_of_poke m known ≡ (if not (m.checks known.cache) then Some reply.NotChecked else None) = rw e refl in out) ∙ told))
      where
        other : (b : Bool) → (if b then Some reply.NotChecked else None) ≡ Some reply.NotHeld → ⊥
        other true never = cc
        other false never = cc

or-has : (P : Local → Type 0) (l : Local) (more : Reply → Local) (r : Option Reply) → P l → ((told : Reply) → r ≡ Some told → P (more told)) → P (or_step l more r)
or-has P l more None a b = a
or-has P l more (Some told) a b = b told refl

rests : (m : Setup) (lost : ℕ → ℕ → Type 0) (before : ℕ → Option BoardWord) (calls : List Call) (l : Local) → calls ≡ l.todo → Knows m l → AreRight m lost before l.done → AreRight m lost before (rested_with m calls l).done
rests m lost before [] l same knows has = has
rests m lost before (call ∷ calls) l same known has =
    or-has (λ n. AreRight m lost before n.done) l (λ told. rested_with m calls (answered l told)) (told_at_once m (get_or l.known (call_place call) nobody) call (call_kind call)) has
    (λ told is. rests m lost before calls (answered l told) (ap (drop 1) same) (next told is) (right told is, has))
  where
    mine : call_of l ≡ call
    mine = ap (λ (cs : List Call). get_or cs 0 no_call) (sym same)

    fits : All (CallFits m l.known) (call ∷ calls)
    fits = subst (All (CallFits m l.known)) (sym same) known.fits

    next : (told : Reply) → told_at_once m (get_or l.known (call_place call) nobody) call (call_kind call) ≡ Some told → Knows m (answered l told)
    next told is = record {
      real = λ o so. known.real o (sym (same-either (eqb (call_object (call_of l)) o) (knows l.done o)) ∙ ap (λ k. cond (eqb (call_object (call_of l)) o) k (knows l.done o)) (sym (mild-knows told (knows l.done o) (subst MildReply is (rest-mild m (get_or l.known (call_place call) nobody) call (call_kind call))))) ∙ so);
      fits = subst (λ (cs : List Call). All (CallFits m l.known) (drop 1 cs)) same (All-tail (CallFits m l.known) call calls fits);
    }

    right : (told : Reply) → told_at_once m (get_or l.known (call_place call) nobody) call (call_kind call) ≡ Some told → IsRight m lost before l.done (one-more l told)
    right told is asks unheld so =
        let poke : call_kind call ≡ Poke = ap (λ (c : Call). call_kind c) (sym mine) ∙ asks in
        let none : (get_or l.known (call_place call) nobody).frame ≡ 0 = unknown-poke m (get_or l.known (call_place call) nobody) (subst (λ k. told_at_once m (get_or l.known (call_place call) nobody) call k ≡ Some told) poke is ∙ ap (λ r. Some r) unheld) in
        let place : call_place call ≡ place_of l.known (call_object call) = (All-head (CallFits m l.known) call calls fits).place (ap names_object poke) in
        let real : 1 ≤ (known_of l.known (call_object call)).frame = known.real (call_object call) (ap (λ (c : Call). knows l.done (call_object c)) (sym mine) ∙ so) in
        absurd (let never : ⊥ = omega (arith, none, real, ap (λ n. (get_or l.known n nobody).frame) place) in never)

rests-at : (m : Setup) (lost : ℕ → ℕ → Type 0) (before : ℕ → Option BoardWord) (l : Local) (spot : Spot) → Knows m l → AreRight m lost before l.done → AreRight m lost before (rested_at m l spot).done
rests-at m lost before l Between known has = rests m lost before l.todo l refl known has
rests-at m lost before l _ known has = has

-- ---- a step

-- the object of a poke was there
misses-of : (m : Setup) (was : ℕ → Slot → Type 0) (lost : ℕ → ℕ → Type 0) (value : ℕ → LockValue) (l : Local) → Moment m was lost value → WereThere m was l.known → Misses m lost value l
misses-of m was lost value l moment there is owner real checks none =
    moment.lose l.cache (slot_at (here l))
    (subst (λ (k : ℕ). was k (slot_at (here l))) owner (there l.place (ap m.checks owner ∙ checks) real)) none

-- the worker's replies, and what it knows
record IsWell (m : Setup) (was : ℕ → Slot → Type 0) (lost : ℕ → ℕ → Type 0) (before : ℕ → Option BoardWord) (l : Local) : Type 0 where
  pub right : AreRight m lost before l.done
  pub there : WereThere m was l.known

-- what was in use before a turn was so after it, and what is in use then
record Goes (m : Setup) (was next : ℕ → Slot → Type 0) (value : ℕ → LockValue) : Type 0 where
  pub more : (k : ℕ) (slot : Slot) → was k slot → next k slot
  pub now : (k : ℕ) (slot : Slot) → IsUsed (slabs_by m value k) slot → next k slot

steps : (was next : ℕ → Slot → Type 0) (lost : ℕ → ℕ → Type 0) (opening : World) (m : Setup) (value : ℕ → LockValue) (words : List ℕ) (refused : Bool) (x : Worker) (others : List Worker) → length words ≡ word_count m → Stands (world_of m value words) (x ∷ others)
    → IsAccounted opening (world_of m value words) (x ∷ others) → Moment m was lost value → IsWell m was lost opening.board x.local
    → let step = step_of m value x.local in let n = number_of m step.place in let q = get_or words n 0 in let a = answer_of step.op q in
    let c = advance_of m refused value x.local a in Goes m was next c.value → IsWell m next lost opening.board c.local
unfolding world_of world_from
steps was next lost opening m value words refused x others long s ac moment has goes =
    let step = step_of m value x.local in
    let n = number_of m step.place in
    let q = get_or words n 0 in
    let a = answer_of step.op q in
    let after = set words n (after_op step.op q) in
    let turn = advance_at m value x.local x.local.spot a in
    let led = leads x.local.spot opening m value words x others (table m value words x others long s) refl s ac in
    let stands = noted-comes (world_of m value after) others turn.local turn.reply (turn-tells m value x.local x.local.spot a) led.0 in
    let says = turn-says m value x.local x.local.spot a in
    let l = noted turn.local turn.reply in
    let told : AreRight m lost opening.board l.done = noted-right m lost opening.board x.local turn.local turn.reply says.1 says.0 (step-right lost opening (world_of m value words) x others a ac) has.right in
    let w = world_of m value after in
    let comes : Comes opening w others l = (stands, led.1) in
    let here_known : WereThere m was l.known =
    recalled m was x.local.known l.known (subst (Recalls x.local.known) (sym (noted-known turn.local turn.reply)) (turn-keeps m value x.local x.local.spot a)) has.there (holds-now opening w others l was comes moment.now) in
    let c = at_once m refused value l l.spot in
    let first = once lost opening w refused others l comes (misses-of m was lost value l moment here_known) told in
    let again = comes_once opening w refused others l comes in
    let n = noted c.local c.reply in
    let none : is_wanting n.spot ≡ false = ap is_wanting (noted-spot c.local c.reply) ∙ once-leads m refused value l l.spot refl in
    let d = at_once m refused c.value n n.spot in
    let second = once lost opening (record w { value = c.value }) refused others n again (λ is _ _ _ _. absurd (false≢true (sym none ∙ ap is_wanting is))) first in
    let last = comes_once opening (record w { value = c.value }) refused others n again in
    let z = noted d.local d.reply in
    let knew : WereThere m next z.known =
    recalled m next l.known z.known (twice-keeps m refused value l) (λ i checks real. goes.more (get_or l.known i nobody).cache (slot_at (get_or l.known i nobody)) (here_known i checks real))
    (holds-now opening (record w { value = d.value }) others z next last goes.now) in
    record {
      right = rests-at m lost opening.board z z.spot (knows-of opening (record w { value = d.value }) others z last) second;
      there = subst (WereThere m next) (sym (rested-known m z z.spot)) knew;
    }

-- ---- a turn

begun-done : (m : Setup) (tries : Bool) (l : Local) (spot : Spot) → (begun_at m tries l spot).done ≡ l.done
begun-done m tries l Between = by l.todo
  where
    by : (calls : List Call) → (begun_with m tries l calls).done ≡ l.done
    by [] = refl
    by (call ∷ calls) = refl
begun-done m tries l _ = refl

abbrev WellIn : Setup → (ℕ → Slot → Type 0) → (ℕ → ℕ → Type 0) → World → System → Type 0
WellIn m was lost opening s = All (IsWell m was lost opening.board) s.locals

more-well : (m : Setup) (was next : ℕ → Slot → Type 0) (lost : ℕ → ℕ → Type 0) (before : ℕ → Option BoardWord) → ((k : ℕ) (slot : Slot) → was k slot → next k slot) → (l : Local) → IsWell m was lost before l → IsWell m next lost before l
more-well m was next lost before more l has = record { right = has.right; there = λ i checks real. more (get_or l.known i nobody).cache (slot_at (get_or l.known i nobody)) (has.there i checks real) }

turn_below : (was next : ℕ → Slot → Type 0) (lost : ℕ → ℕ → Type 0) (m : Setup) (opening : World) (s : System) (pick : Pick) → pick.worker < length s.locals → IsCoherentSystem m opening s → Moment m was lost s.value → Goes m was next (turn m s pick).value
    → WellIn m was lost opening s → WellIn m next lost opening (turn m s pick)
turn_below was next lost m opening s pick below is moment goes has =
    let b = has-begun m opening s pick below is in
    let k = pick.worker in
    let l = get_or s.locals k idle in
    let others = b.front ++ b.back in
    let mine : IsWell m was lost opening.board l = All-get_or (IsWell m was lost opening.board) s.locals k idle below has in
    let starts : IsWell m was lost opening.board b.x.local =
    subst (IsWell m was lost opening.board) (sym b.local) (record { right = subst (AreRight m lost opening.board) (sym (begun-done m pick.tries l l.spot)) mine.right; there = subst (WereThere m was) (sym (begun-known m pick.tries l l.spot)) mine.there }) in
    let step = step_of m s.value (begun m pick.tries l) in
    let q = get_or s.words (number_of m step.place) 0 in
    let c = advance_of m pick.refused s.value (begun m pick.tries l) (answer_of step.op q) in
    let led : IsWell m next lost opening.board c.local =
    subst (λ b. let step = step_of m s.value b in let q = get_or s.words (number_of m step.place) 0 in let c = advance_of m pick.refused s.value b (answer_of step.op q) in Goes m was next c.value → IsWell m next lost opening.board c.local) b.local
    (steps was next lost opening m s.value s.words pick.refused b.x others is.words b.stands b.accounted moment starts) goes in
    All-set (IsWell m next lost opening.board) s.locals k c.local led (All-weaker (IsWell m was lost opening.board) (IsWell m next lost opening.board) (more-well m was next lost opening.board goes.more) s.locals has)

turn_keeps : (was next : ℕ → Slot → Type 0) (lost : ℕ → ℕ → Type 0) (m : Setup) (opening : World) (s : System) (pick : Pick) → IsCoherentSystem m opening s → Moment m was lost s.value → Goes m was next (turn m s pick).value → WellIn m was lost opening s → WellIn m next lost opening (turn m s pick)
turn_keeps was next lost m opening s pick is moment goes has = elim (cases_lt pick.worker (length s.locals)) [
  | inl below ↦ turn_below was next lost m opening s pick below is moment goes has
  | inr past ↦ subst (λ (t : System). WellIn m next lost opening t) (sym (no-turn m s pick past)) (All-weaker (IsWell m was lost opening.board) (IsWell m next lost opening.board) (more-well m was next lost opening.board goes.more) s.locals has)
]

-- ---- a run: some turns, and the rest

module _ (m : Setup) (first : System) where
  -- the slabs of a cache after some turns
  abbrev pub slabs_after : List Pick → ℕ → CheckedState
  slabs_after front k = slabs_by m (run m first front).value k

  -- an object was in use after some of these turns
  pub record WasUsed (front : List Pick) (k : ℕ) (slot : Slot) : Type 0 where
    pub early : List Pick
    pub late : List Pick
    pub split : front ≡ early ++ late
    pub used : IsUsed (slabs_after early k) slot

  -- and after some more there is none
  pub record IsLost (picks : List Pick) (k address : ℕ) : Type 0 where
    pub slot : Slot
    pub is : address_of slot.frame slot.index (m.layout k) ≡ address
    pub early : List Pick
    pub late : List Pick
    pub rest : List Pick
    pub split : picks ≡ early ++ late ++ rest
    pub used : IsUsed (slabs_after early k) slot
    pub gone : state_of (slabs_after (early ++ late) k) slot ≡ None

  moment : (picks front rest : List Pick) → picks ≡ front ++ rest → Moment m (WasUsed front) (IsLost picks) (run m first front).value
  moment picks front rest split = record {
    now = λ k slot used. record { early = front; late = []; split = sym (append-nil front); used = used };
    lose = λ k slot was none. record {
      slot = slot;
      is = refl;
      early = was.early;
      late = was.late;
      rest = rest;
      split = split ∙ ap (λ (front : List Pick). front ++ rest) was.split;
      used = was.used;
      gone = subst (λ (front : List Pick). state_of (slabs_after front k) slot ≡ None) was.split none;
    };
  }

  run-more : (s : System) (ps qs : List Pick) → run m s (ps ++ qs) ≡ run m (run m s ps) qs
  run-more s [] qs = refl
  run-more s (p ∷ ps) qs = run-more (turn m s p) ps qs

  next : (front : List Pick) (pick : Pick) → Goes m (WasUsed front) (WasUsed (front ++ pick ∷ [])) (turn m (run m first front) pick).value
  next front pick = record {
    more = λ k slot was. record { early = was.early; late = was.late ++ pick ∷ []; split = ap (λ (front : List Pick). front ++ pick ∷ []) was.split ∙ append_assoc was.early was.late (pick ∷ []); used = was.used };
    now = λ k slot used. record {
      early = front ++ pick ∷ [];
      late = [];
      split = sym (append-nil (front ++ pick ∷ []));
      used = subst (λ (s : System). IsUsed (slabs_by m s.value k) slot) (sym (run-more first front (pick ∷ []))) used;
    };
  }

  abbrev pub RightIn : List Pick → World → System → Type 0
  RightIn picks opening s = All (λ (l : Local). AreRight m (IsLost picks) opening.board l.done) s.locals

  run_keeps : (picks front rest : List Pick) (opening : World) → picks ≡ front ++ rest → IsCoherentSystem m opening (run m first front) → WellIn m (WasUsed front) (IsLost picks) opening (run m first front) → RightIn picks opening (run m first picks)
  run_keeps picks front [] opening split is has =
      subst (λ (front : List Pick). RightIn picks opening (run m first front)) (sym (split ∙ append-nil front))
      (All-weaker (IsWell m (WasUsed front) (IsLost picks) opening.board) (λ (l : Local). AreRight m (IsLost picks) opening.board l.done) (λ l well. well.right) (run m first front).locals has)
  run_keeps picks front (pick ∷ rest) opening split is has =
      let e = run-more first front (pick ∷ []) in
      run_keeps picks (front ++ pick ∷ []) rest opening (split ∙ sym (append_assoc front (pick ∷ []) rest)) (subst (IsCoherentSystem m opening) (sym e) (turn_keeps_all m opening (run m first front) pick is))
      (subst (WellIn m (WasUsed (front ++ pick ∷ [])) (IsLost picks) opening) (sym e)
      (turn_keeps (WasUsed front) (WasUsed (front ++ pick ∷ [])) (IsLost picks) m opening (run m first front) pick is (moment picks front (pick ∷ rest) split) (next front pick) has))

-- ---- the beginning

none-known : (m : Setup) (was : ℕ → Slot → Type 0) (ks : List Known) → All (IsRoom m) ks → WereThere m was ks
none-known m was ks rooms i checks real = absurd (let none = at-none ks i rooms in let never : ⊥ = omega (arith, none, real) in never)
  where
    at-none : (ks : List Known) (i : ℕ) → All (IsRoom m) ks → (get_or ks i nobody).frame ≡ 0
    at-none [] i rooms = refl
    at-none (k ∷ ks) zero rooms = (All-head (IsRoom m) k ks rooms).1
    at-none (k ∷ ks) (suc i) rooms = at-none ks i (All-tail (IsRoom m) k ks rooms)

new-well : (m : Setup) (was : ℕ → Slot → Type 0) (lost : ℕ → ℕ → Type 0) (before : ℕ → Option BoardWord) (l : Local) (spot : Spot) → IsNew m l → IsWell m was lost before (rested_at m l spot)
new-well m was lost before l spot new = record {
  right = rests-at m lost before l spot (record { real = λ o known. absurd (false≢true (subst (λ ds. knows ds o ≡ true) new.done known)); fits = new.fits }) (subst (AreRight m lost before) (sym new.done) tt);
  there = subst (WereThere m was) (sym (rested-known m l spot)) (none-known m was l.known new.known);
}

-- after any turns of a round
pub round_right : (m : Setup) (s : System) (picks : List Pick) → IsOpening m s → RightIn m (opened m s) picks (world_of m s.value s.words) (run m (opened m s) picks)
round_right m s picks new =
    let w = world_of m s.value s.words in
    run_keeps m (opened m s) picks [] picks w refl (opens m s new)
    (All-map (IsWell m (WasUsed m (opened m s) []) (IsLost m (opened m s) picks) w.board) (rested m) s.locals (λ k d below. let l = get_or s.locals k d in new-well m _ _ w.board l l.spot (new.new k d below)))
