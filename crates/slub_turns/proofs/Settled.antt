-- Whether memory was refused in what is done at once, twice: only one place asks for it.
use Rattle.std.proofs.Common.{◌≡◌, ℕ, ◌∙◌, Bool, true, false, ◌||◌, nat_lt, if◌then◌else◌, List, [], ◌∷◌, length, Option, Some, None, refl, sym, ap, inl, inr}
use Rattle.std.proofs.lemmas.Bool.{cases_Bool, false≢true}
use Rattle.slub_trace.specs.declared.damage.Damage.{Damage}
use Rattle.slub_red_zone.specs.declared.checked.CheckedGive.{CheckedGive}
use Rattle.slub_red_zone.specs.declared.checked.CheckedGive.TheVariants as give
use Rattle.slub_red_zone.specs.State.{CheckedState, slab_of, objects_in}
use Rattle.slub_red_zone.specs.Steps.{damage_of_used}
use Rattle.slub_page_pool.specs.FreeFrames.{FreeFrames}
use Rattle.slub_object_layout.specs.declared.layout.Layout.{Layout}
use Rattle.slub_trace.specs.declared.reply.Reply.{Reply}
use Rattle.slub_trace.specs.declared.reply.Reply.TheVariants.{Poked, NotHeld, OutOfSlot}
use Rattle.slub_core.specs.declared.call.CallKind.{CallKind}
use Rattle.slub_core.specs.declared.call.CallKind.TheVariants.{Alloc, Free, Write, Read, Poke, Trim, Flush}
use Rattle.slub_core.specs.declared.local.FrameRun.{FrameRun}
use Rattle.slub_core.specs.declared.spot.Spot.{Spot}
use Rattle.slub_core.specs.declared.spot.Spot.TheVariants.{InAlloc, InPutAway, InDiscard, InFree, InMoveSet, InTrim, InChecked}
use Rattle.slub_core.specs.declared.spot.AllocSpot.{AllocSpot}
use Rattle.slub_core.specs.declared.spot.AllocSpot.TheVariants.{PopNode, TakeRun}
use Rattle.slub_core.specs.declared.spot.PutAwaySpot.{PutAwaySpot}
use Rattle.slub_core.specs.declared.spot.PutAwaySpot.TheVariants.{PutNode}
use Rattle.slub_core.specs.declared.spot.Away.{Away}
use Rattle.slub_core.specs.declared.spot.DiscardSpot.{DiscardSpot}
use Rattle.slub_core.specs.declared.spot.DiscardSpot.TheVariants.{PutRun}
use Rattle.slub_core.specs.declared.spot.Discard.{Discard}
use Rattle.slub_core.specs.declared.spot.FreeSpot.{FreeSpot}
use Rattle.slub_core.specs.declared.spot.FreeSpot.TheVariants.{TakeOff}
use Rattle.slub_core.specs.declared.spot.MoveSetSpot.{MoveSetSpot}
use Rattle.slub_core.specs.declared.spot.MoveSetSpot.TheVariants.{ChooseFront, PutTail}
use Rattle.slub_core.specs.declared.spot.MoveSet.{MoveSet}
use Rattle.slub_core.specs.declared.spot.TrimSpot.{TrimSpot}
use Rattle.slub_core.specs.declared.spot.TrimSpot.TheVariants.{ScanNode, DropScanned}
use Rattle.slub_core.specs.declared.spot.CheckedSpot.TheVariants.{DoChecked, MoveRun, AddSlab, GiveRun}
use Rattle.slub_core.specs.Calls.{call_offset}
use Rattle.slub_core.specs.Setup.{Setup, pool_lock}
use Rattle.slub_core.specs.World.{LockValue, pool_in}
use Rattle.slub_core.specs.Local.{Local, Change, here, call_of, noted, stays}
use Rattle.slub_core.specs.Alloc.{node_of, asks_for_another, pop_node, run_taken, found_run, alloc_at_once}
use Rattle.slub_core.specs.PutAway.{put_away_at_once}
use Rattle.slub_core.specs.Discard.{discard_at_once}
use Rattle.slub_core.specs.Free.{free_at_once}
use Rattle.slub_core.specs.MoveSet.{move_set_at_once}
use Rattle.slub_core.specs.Offline.{trim_at_once}
use Rattle.slub_core.specs.Checked.{slabs_of, slot_of, gave, took_back, is_offset, do_checked, move_run}
use Rattle.slub_core.specs.Steps.{at_once, changed, settled}
use Rattle.slub_checked_paths.specs.Slabs.{is_refused}

-- the one spot at which what is done asks whether memory is refused
abbrev pub is_adding : Spot → Bool
is_adding (InChecked AddSlab kind) = true
is_adding _ = false

-- ---- elsewhere it doesn't

alike : (m : Setup) (a b : Bool) (value : ℕ → LockValue) (l : Local) (s : Spot) → is_adding s ≡ false → at_once m a value l s ≡ at_once m b value l s
alike m a b value l (InChecked AddSlab kind) not_so = absurd (false≢true (sym not_so))
alike m a b value l (InChecked s kind) not_so = refl
alike m a b value l s not_so = refl

-- and it isn't replied that memory was refused
chosen_reply : (b : Bool) (x y : Change) → is_refused x.reply ≡ false → is_refused y.reply ≡ false → is_refused (if b then x else y).reply ≡ false
chosen_reply true x y one other = one
chosen_reply false x y one other = other

popped_reply : (m : Setup) (value : ℕ → LockValue) (l : Local) (frames : List ℕ) → is_refused (pop_node m value l frames).reply ≡ false
popped_reply m value l [] = refl
popped_reply m value l (frame ∷ frames) = chosen_reply (asks_for_another m l) _ _ refl refl

run_reply : (value : ℕ → LockValue) (pool : FreeFrames) (layout : Layout) (l : Local) (found : Option FrameRun) → is_refused (run_taken value pool layout l found).reply ≡ false
run_reply value pool layout l None = refl
run_reply value pool layout l (Some run) = refl

alloc_reply : (m : Setup) (value : ℕ → LockValue) (l : Local) (s : AllocSpot) → is_refused (alloc_at_once m value l s).reply ≡ false
alloc_reply m value l PopNode = popped_reply m value l (node_of value l)
alloc_reply m value l TakeRun = run_reply value (pool_in (value pool_lock)) (m.layout l.cache) _ (found_run m (pool_in (value pool_lock)) (m.layout l.cache))
alloc_reply m value l s = refl

away_reply : (value : ℕ → LockValue) (l : Local) (s : PutAwaySpot) (away : Away) → is_refused (put_away_at_once value l s away).reply ≡ false
away_reply value l PutNode away = refl
away_reply value l s away = refl

discard_reply : (value : ℕ → LockValue) (l : Local) (s : DiscardSpot) (discard : Discard) → is_refused (discard_at_once value l s discard).reply ≡ false
discard_reply value l PutRun discard = refl
discard_reply value l s discard = refl

free_reply : (m : Setup) (value : ℕ → LockValue) (l : Local) (s : FreeSpot) → is_refused (free_at_once m value l s).reply ≡ false
free_reply m value l TakeOff = refl
free_reply m value l s = refl

move_reply : (value : ℕ → LockValue) (l : Local) (s : MoveSetSpot) (move : MoveSet) → is_refused (move_set_at_once value l s move).reply ≡ false
move_reply value l ChooseFront move = refl
move_reply value l PutTail move = refl
move_reply value l s move = refl

trim_reply : (m : Setup) (value : ℕ → LockValue) (l : Local) (s : TrimSpot) → is_refused (trim_at_once m value l s).reply ≡ false
trim_reply m value l ScanNode = chosen_reply (nat_lt (length l.scanned) (length (node_of value l))) _ _ refl refl
trim_reply m value l DropScanned = refl
trim_reply m value l s = refl

gave_reply : (m : Setup) (value : ℕ → LockValue) (l : Local) (s : CheckedState) (gave_what : CheckedGive) → is_refused (gave m value l s gave_what).reply ≡ false
gave_reply m value l s (give.Given slot) = refl
gave_reply m value l s give.Empty = refl

took_reply : (m : Setup) (value : ℕ → LockValue) (l : Local) (s : CheckedState) (damage : Option Damage) → is_refused (took_back m value l s damage).reply ≡ false
took_reply m value l s None = refl
took_reply m value l s (Some damage) = refl

poke_told : (a b : Bool) → is_refused (Some (if a then (if b then Poked else NotHeld) else OutOfSlot)) ≡ false
poke_told true true = refl
poke_told true false = refl
poke_told false b = refl

do_reply : (m : Setup) (value : ℕ → LockValue) (l : Local) (kind : CallKind) (s : CheckedState) → is_refused (do_checked m value l kind s).reply ≡ false
do_reply m value l Alloc s = gave_reply m value l (m.means.give s) (m.means.gave s)
do_reply m value l Free s = took_reply m value l s (damage_of_used s (slot_of l))
do_reply m value l Write s = refl
do_reply m value l Read s = refl
do_reply m value l Poke s = poke_told (is_offset s.layout (call_offset (call_of l))) (nat_lt (here l).index (objects_in (slab_of s (here l).frame)))
do_reply m value l Trim s = refl
do_reply m value l Flush s = refl

move_run_reply : (m : Setup) (value : ℕ → LockValue) (l : Local) (kind : CallKind) (pool : FreeFrames) → is_refused (move_run m value l kind pool).reply ≡ false
move_run_reply m value l Alloc pool = run_reply value pool (m.layout l.cache) _ (found_run m pool (m.layout l.cache))
move_run_reply m value l kind pool = refl

not_refused : (m : Setup) (a : Bool) (value : ℕ → LockValue) (l : Local) (s : Spot) → is_adding s ≡ false → is_refused (at_once m a value l s).reply ≡ false
not_refused m a value l (InAlloc s) not_so = alloc_reply m value l s
not_refused m a value l (InPutAway s away) not_so = away_reply value l s away
not_refused m a value l (InDiscard s discard) not_so = discard_reply value l s discard
not_refused m a value l (InFree s) not_so = free_reply m value l s
not_refused m a value l (InMoveSet s move) not_so = move_reply value l s move
not_refused m a value l (InTrim s) not_so = trim_reply m value l s
not_refused m a value l (InChecked AddSlab kind) not_so = absurd (false≢true (sym not_so))
not_refused m a value l (InChecked DoChecked kind) not_so = do_reply m value l kind (slabs_of m value l)
not_refused m a value l (InChecked MoveRun kind) not_so = move_run_reply m value l kind (pool_in (value pool_lock))
not_refused m a value l (InChecked s kind) not_so = refl
not_refused m a value l s not_so = refl

-- ---- at that spot it leads to one that calls for a step

added : (m : Setup) (a : Bool) (value : ℕ → LockValue) (l : Local) (kind : CallKind) → (at_once m a value l (InChecked AddSlab kind)).local.spot ≡ InChecked GiveRun Alloc
added m true value l kind = refl
added m false value l kind = refl

leads_to_step : (m : Setup) (a : Bool) (value : ℕ → LockValue) (l : Local) (s : Spot) → is_adding s ≡ true → (at_once m a value l s).local.spot ≡ InChecked GiveRun Alloc
leads_to_step m a value l (InChecked AddSlab kind) is = added m a value l kind
leads_to_step m a value l (InChecked s kind) is = absurd (false≢true is)
leads_to_step m a value l s is = absurd (false≢true is)

noted_spot : (l : Local) (reply : Option Reply) → (noted l reply).spot ≡ l.spot
noted_spot l None = refl
noted_spot l (Some reply) = refl

-- ---- both

or_false : (a : Bool) → (a || false) ≡ a
or_false true = refl
or_false false = refl

-- the changes are those of one refusal
pub record AreOnce (m : Setup) (c one two : Change) : Type 0 where
  pub first : changed m (is_refused one.reply || is_refused two.reply) c ≡ one
  pub second : changed m (is_refused one.reply || is_refused two.reply) one ≡ two

adding_once : (m : Setup) (c one two : Change) → is_adding (noted c.local c.reply).spot ≡ true → one ≡ changed m (is_refused one.reply) c → two ≡ changed m (is_refused two.reply) one → AreOnce m c one two
adding_once m c one two adding first second =
    let l : Local = noted c.local c.reply in
    let k : Local = noted one.local one.reply in
    let spot : k.spot ≡ InChecked GiveRun Alloc = noted_spot one.local one.reply ∙ ap (λ (x : Change). x.local.spot) first ∙ leads_to_step m (is_refused one.reply) c.value l l.spot adding in
    let stay : (a : Bool) → at_once m a one.value k k.spot ≡ stays one.value k = λ a. ap (λ (s : Spot). at_once m a one.value k s) spot in
    let none : is_refused two.reply ≡ false = ap (λ (x : Change). is_refused x.reply) (second ∙ stay (is_refused two.reply)) in
    let is : (is_refused one.reply || is_refused two.reply) ≡ is_refused one.reply = ap (λ (b : Bool). is_refused one.reply || b) none ∙ or_false (is_refused one.reply) in
    record {
      first = ap (λ (a : Bool). changed m a c) is ∙ sym first;
      second = stay _ ∙ sym (second ∙ stay (is_refused two.reply));
    }

else_once : (m : Setup) (c one two : Change) → is_adding (noted c.local c.reply).spot ≡ false → one ≡ changed m (is_refused one.reply) c → two ≡ changed m (is_refused two.reply) one → AreOnce m c one two
else_once m c one two adding first second =
    let l : Local = noted c.local c.reply in
    let none : is_refused one.reply ≡ false = ap (λ (x : Change). is_refused x.reply) first ∙ not_refused m (is_refused one.reply) c.value l l.spot adding in
    let is : (is_refused one.reply || is_refused two.reply) ≡ is_refused two.reply = ap (λ (b : Bool). b || is_refused two.reply) none in
    record {
      first = alike m _ (is_refused one.reply) c.value l l.spot adding ∙ sym first;
      second = ap (λ (a : Bool). changed m a one) is ∙ sym second;
    }

pub once : (m : Setup) (c one two : Change) → one ≡ changed m (is_refused one.reply) c → two ≡ changed m (is_refused two.reply) one → AreOnce m c one two
once m c one two first second = elim (cases_Bool (is_adding (noted c.local c.reply).spot)) [
  | inl so ↦ adding_once m c one two so first second
  | inr not_so ↦ else_once m c one two not_so first second
]

pub settled_is : (m : Setup) (c one two : Change) → one ≡ changed m (is_refused one.reply) c → two ≡ changed m (is_refused two.reply) one → settled m (is_refused one.reply || is_refused two.reply) c ≡ two
settled_is m c one two first second =
    let both = once m c one two first second in
    let r : Bool = is_refused one.reply || is_refused two.reply in
    ap (λ (x : Change). changed m r x) both.first ∙ both.second
