-- Where workers stand: a spot with no change to come calls for a step, and no worker comes to a spot of a kind that isn't called there.
use Rattle.std.proofs.Common.{◌≡◌, ℕ, Bool, true, false, List, [], ◌∷◌, length, get_or, Option, Some, None, refl, sym, ap, ◌∙◌, subst, arith, inl, inr}
use Rattle.std.specs.Prelude.{All}
use Rattle.std.proofs.lemmas.Bool.{false≢true, cases_lt}
use Rattle.std.proofs.lemmas.List.{get_or_past}
use Rattle.std.proofs.lemmas.List.Elements.{All-set, All-map, All-weaker}
use Rattle.slub_trace.specs.declared.reply.Reply.{Reply}
use Rattle.slub_core.specs.declared.call.Call.{Call}
use Rattle.slub_core.specs.declared.call.CallKind.{CallKind}
use Rattle.slub_core.specs.declared.call.CallKind.TheVariants.{Alloc, Free, Write, Read, Poke, Trim, Flush}
use Rattle.slub_core.specs.declared.step.Step.{Step}
use Rattle.slub_core.specs.declared.step.Place.{Place}
use Rattle.slub_core.specs.declared.step.Place.TheVariants.{LockOf}
use Rattle.slub_core.specs.declared.step.Op.{Op}
use Rattle.slub_core.specs.declared.step.Op.TheVariants.{Load}
use Rattle.slub_core.specs.declared.step.Answer.{Answer}
use Rattle.slub_core.specs.declared.spot.Spot.{Spot}
use Rattle.slub_core.specs.declared.spot.Spot.TheVariants.{Between, InAlloc, InPutAway, InDiscard, InPutOnList, InFree, InMoveSet, InOffline, InTrim, WriteWord, ReadWord, InChecked}
use Rattle.slub_core.specs.declared.spot.AllocSpot.{AllocSpot}
use Rattle.slub_core.specs.declared.spot.AllocSpot.TheVariants.{PopNode, TakeRun}
use Rattle.slub_core.specs.declared.spot.Away.{Away}
use Rattle.slub_core.specs.declared.spot.PutAwaySpot.{PutAwaySpot}
use Rattle.slub_core.specs.declared.spot.PutAwaySpot.TheVariants.{PutNode}
use Rattle.slub_core.specs.declared.spot.Discard.{Discard}
use Rattle.slub_core.specs.declared.spot.DiscardSpot.{DiscardSpot}
use Rattle.slub_core.specs.declared.spot.DiscardSpot.TheVariants.{PutRun}
use Rattle.slub_core.specs.declared.spot.PutOnListSpot.{PutOnListSpot}
use Rattle.slub_core.specs.declared.spot.PutOnListSpot.TheVariants.{LoadList}
use Rattle.slub_core.specs.declared.spot.FreeSpot.{FreeSpot}
use Rattle.slub_core.specs.declared.spot.FreeSpot.TheVariants.{TakeOff}
use Rattle.slub_core.specs.declared.spot.MoveSet.{MoveSet}
use Rattle.slub_core.specs.declared.spot.MoveSetSpot.{MoveSetSpot}
use Rattle.slub_core.specs.declared.spot.MoveSetSpot.TheVariants.{ChooseFront, PutTail}
use Rattle.slub_core.specs.declared.spot.OfflineSpot.{OfflineSpot}
use Rattle.slub_core.specs.declared.spot.OfflineSpot.TheVariants.{LoadCurrent}
use Rattle.slub_core.specs.declared.spot.TrimSpot.{TrimSpot}
use Rattle.slub_core.specs.declared.spot.TrimSpot.TheVariants.{ScanNode, DropScanned}
use Rattle.slub_core.specs.declared.spot.CheckedSpot.{CheckedSpot}
use Rattle.slub_core.specs.declared.spot.CheckedSpot.TheVariants.{DoChecked, MoveRun, AddSlab}
use Rattle.slub_core.specs.Calls.{call_kind, call_cache, call_place}
use Rattle.slub_core.specs.Setup.{Setup}
use Rattle.slub_core.specs.Words.{number_of, answer_of}
use Rattle.slub_core.specs.World.{LockValue}
use Rattle.slub_core.specs.Local.{Local, nobody, noted, answered}
use Rattle.slub_core.specs.Ops.{no_step}
use Rattle.slub_core.specs.Alloc.{alloc_step}
use Rattle.slub_core.specs.PutAway.{put_away_step}
use Rattle.slub_core.specs.Discard.{discard_step}
use Rattle.slub_core.specs.PutOnList.{put_on_list_step}
use Rattle.slub_core.specs.Free.{free_step}
use Rattle.slub_core.specs.MoveSet.{move_set_step}
use Rattle.slub_core.specs.Offline.{offline_step, trim_step}
use Rattle.slub_core.specs.Checked.{checked_step}
use Rattle.slub_core.specs.Steps.{step_of, step_at, advance_at, advance_of, settled, told_at_once, or_step, rested_with, rested_at, rested, cache_for, first_spot, begun_with, begun_at, begun}
use Rattle.slub_core.specs.Run.{System, Pick, idle, turn}
use Rattle.slub_core.specs.Opening.{IsNew, opened}
use Rattle.slub_law_words.specs.Ends.{GoesOn, GoOnAlong}
use Rattle.slub_law_words.specs.Laws.{WorkersGoOn}
use Rattle.slub_law_words.proofs.Changes.{is_of_kind, is_checked_kind, checked_more, more, spot-noted, ended}
use Rattle.slub_law_words.proofs.CallKinds.{kind-advance}

-- ---- a spot with no change to come calls for a step

-- a step that loads a lock's word: no worker makes one
abbrev is_lock_load : Place → Op → Bool
is_lock_load (LockOf n) Load = true
is_lock_load place op = false

no-load : (step : Step) → is_lock_load step.place step.op ≡ false → step ≡ no_step → ⊥
no-load step not_so e = absurd (false≢true (sym not_so ∙ ap (λ (s : Step). is_lock_load s.place s.op) e))

steps-alloc : (m : Setup) (l : Local) (s : AllocSpot) → more (InAlloc s) ≡ 0 → is_lock_load (alloc_step m l s).place (alloc_step m l s).op ≡ false
steps-alloc m l PopNode none = absurd (omega (arith, none))
steps-alloc m l TakeRun none = absurd (omega (arith, none))
steps-alloc m l s none = refl

steps-put_away : (m : Setup) (value : ℕ → LockValue) (l : Local) (s : PutAwaySpot) (away : Away) → more (InPutAway s away) ≡ 0 → is_lock_load (put_away_step m value l s).place (put_away_step m value l s).op ≡ false
steps-put_away m value l PutNode away none = absurd (omega (arith, none))
steps-put_away m value l s away none = refl

steps-discard : (l : Local) (s : DiscardSpot) (discard : Discard) → more (InDiscard s discard) ≡ 0 → is_lock_load (discard_step l s).place (discard_step l s).op ≡ false
steps-discard l PutRun discard none = absurd (omega (arith, none))
steps-discard l s discard none = refl

steps-put_on_list : (l : Local) (s : PutOnListSpot) → is_lock_load (put_on_list_step l s).place (put_on_list_step l s).op ≡ false
steps-put_on_list l LoadList = refl
steps-put_on_list l s = refl

steps-free : (m : Setup) (l : Local) (s : FreeSpot) → more (InFree s) ≡ 0 → is_lock_load (free_step m l s).place (free_step m l s).op ≡ false
steps-free m l TakeOff none = absurd (omega (arith, none))
steps-free m l s none = refl

steps-move_set : (l : Local) (s : MoveSetSpot) (move : MoveSet) → more (InMoveSet s move) ≡ 0 → is_lock_load (move_set_step l s).place (move_set_step l s).op ≡ false
steps-move_set l ChooseFront move none = absurd (omega (arith, none))
steps-move_set l PutTail move none = absurd (omega (arith, none))
steps-move_set l s move none = refl

steps-offline : (m : Setup) (l : Local) (s : OfflineSpot) → is_lock_load (offline_step m l s).place (offline_step m l s).op ≡ false
steps-offline m l LoadCurrent = refl
steps-offline m l s = refl

steps-trim : (value : ℕ → LockValue) (l : Local) (s : TrimSpot) → more (InTrim s) ≡ 0 → is_lock_load (trim_step value l s).place (trim_step value l s).op ≡ false
steps-trim value l ScanNode none = absurd (omega (arith, none))
steps-trim value l DropScanned none = absurd (omega (arith, none))
steps-trim value l s none = refl

-- a call under a checked cache's lock begins with a change
begins-change : (kind : CallKind) → checked_more kind ≡ 0 → is_checked_kind kind ≡ true → ⊥
begins-change Trim none k = absurd (false≢true k)
begins-change Flush none k = absurd (false≢true k)
begins-change _ none k = absurd (omega (arith, none))

steps-checked : (l : Local) (s : CheckedSpot) (kind : CallKind) → more (InChecked s kind) ≡ 0 → is_checked_kind kind ≡ true → is_lock_load (checked_step l s).place (checked_step l s).op ≡ false
steps-checked l DoChecked kind none k = absurd (begins-change kind none k)
steps-checked l MoveRun kind none k = absurd (omega (arith, none))
steps-checked l AddSlab kind none k = absurd (omega (arith, none))
steps-checked l s kind none k = refl

-- a worker that stands at its spot to make a step, at a spot of a kind
pub record IsAtStep (l : Local) : Type 0 where
  pub none : more l.spot ≡ 0
  pub kind : is_of_kind l.spot ≡ true

has-step_at : (m : Setup) (value : ℕ → LockValue) (l : Local) (s : Spot) → more s ≡ 0 → is_of_kind s ≡ true → step_at m value l s ≡ no_step → s ≡ Between
has-step_at m value l Between none k e = refl
has-step_at m value l (InAlloc s) none k e = absurd (no-load (alloc_step m l s) (steps-alloc m l s none) e)
has-step_at m value l (InPutAway s away) none k e = absurd (no-load (put_away_step m value l s) (steps-put_away m value l s away none) e)
has-step_at m value l (InDiscard s discard) none k e = absurd (no-load (discard_step l s) (steps-discard l s discard none) e)
has-step_at m value l (InPutOnList s put) none k e = absurd (no-load (put_on_list_step l s) (steps-put_on_list l s) e)
has-step_at m value l (InFree s) none k e = absurd (no-load (free_step m l s) (steps-free m l s none) e)
has-step_at m value l (InMoveSet s move) none k e = absurd (no-load (move_set_step l s) (steps-move_set l s move none) e)
has-step_at m value l (InOffline s sweep) none k e = absurd (no-load (offline_step m l s) (steps-offline m l s) e)
has-step_at m value l (InTrim s) none k e = absurd (no-load (trim_step value l s) (steps-trim value l s none) e)
has-step_at m value l WriteWord none k e = absurd (no-load (step_at m value l WriteWord) refl e)
has-step_at m value l ReadWord none k e = absurd (no-load (step_at m value l ReadWord) refl e)
has-step_at m value l (InChecked s kind) none k e = absurd (no-load (checked_step l s) (steps-checked l s kind none k) e)

goes-on : (m : Setup) (value : ℕ → LockValue) (l : Local) → IsAtStep l → GoesOn m value l
goes-on m value l ok = record {
  step = has-step_at m value l l.spot ok.none ok.kind;
  kind = λ s kind is.
      let k : is_checked_kind kind ≡ true = sym (ap is_of_kind is) ∙ ok.kind in
      (λ e. false≢true (sym (ap is_checked_kind e) ∙ k), λ e. false≢true (sym (ap is_checked_kind e) ∙ k));
}

-- ---- the begin of a call, and replies that take no step

first-kind : (kind : CallKind) (checked held : Bool) → is_of_kind (first_spot kind checked held) ≡ true
first-kind Alloc false held = refl
first-kind Alloc true held = refl
first-kind Free checked false = refl
first-kind Free false true = refl
first-kind Free true true = refl
first-kind Write false held = refl
first-kind Write true held = refl
first-kind Read false held = refl
first-kind Read true held = refl
first-kind Poke checked held = refl
first-kind Trim checked held = refl
first-kind Flush checked held = refl

begun_with-kind : (m : Setup) (fast : Bool) (l : Local) (calls : List Call) → is_of_kind l.spot ≡ true → is_of_kind (begun_with m fast l calls).spot ≡ true
begun_with-kind m fast l [] k = k
begun_with-kind m fast l (call ∷ calls) k =
    let known = get_or l.known (call_place call) nobody in
    first-kind (call_kind call) (m.checks (cache_for m known (call_cache call) (call_kind call))) known.held

begun_at-kind : (m : Setup) (fast : Bool) (l : Local) (s : Spot) → is_of_kind l.spot ≡ true → is_of_kind (begun_at m fast l s).spot ≡ true
begun_at-kind m fast l Between k = begun_with-kind m fast l l.todo k
begun_at-kind m fast l _ k = k

or_step-spot : (l : Local) (next : Reply → Local) (r : Option Reply) → ((reply : Reply) → (next reply).spot ≡ l.spot) → (or_step l next r).spot ≡ l.spot
or_step-spot l next None same = refl
or_step-spot l next (Some reply) same = same reply

rested_with-spot : (m : Setup) (calls : List Call) (l : Local) → (rested_with m calls l).spot ≡ l.spot
rested_with-spot m [] l = refl
rested_with-spot m (call ∷ calls) l =
    or_step-spot l (λ reply. rested_with m calls (answered l reply)) (told_at_once m (get_or l.known (call_place call) nobody) call (call_kind call)) (λ reply. rested_with-spot m calls (answered l reply))

rested_at-spot : (m : Setup) (l : Local) (s : Spot) → (rested_at m l s).spot ≡ l.spot
rested_at-spot m l Between = rested_with-spot m l.todo l
rested_at-spot m l _ = refl

at-spot : (l : Local) (s : Spot) → l.spot ≡ s → more s ≡ 0 → is_of_kind s ≡ true → IsAtStep l
at-spot l s is none kind = record { none = ap more is ∙ none; kind = ap is_of_kind is ∙ kind }

rested-step : (m : Setup) (l : Local) → IsAtStep l → IsAtStep (rested m l)
rested-step m l ok = at-spot (rested m l) l.spot (rested_at-spot m l l.spot) ok.none ok.kind

-- ---- a turn, a run and a round

-- where a worker was at a spot of a kind, there is no change to come after its turn
advanced-step : (m : Setup) (refused : Bool) (value : ℕ → LockValue) (l : Local) (a : Answer) → is_of_kind l.spot ≡ true → IsAtStep (advance_of m refused value l a).local
advanced-step m refused value l a k =
    let to = advance_at m value l l.spot a in
    let c = settled m refused (record { value = value; local = to.local; reply = to.reply }) in
    let end = ended m refused (record { value = value; local = to.local; reply = to.reply }) in
    rested-step m (noted c.local c.reply) (at-spot (noted c.local c.reply) c.local.spot (spot-noted c.local c.reply) end.none (end.kind (kind-advance m value l l.spot a k k)))

worker-step : (ls : List Local) (k : ℕ) → All IsAtStep ls → IsAtStep (get_or ls k idle)
worker-step ls k all =
    elim (cases_lt k (length ls)) [
      | inl below ↦ all k idle below
      | inr past ↦ subst IsAtStep (sym (get_or_past ls k idle past)) (record { none = refl; kind = refl })
    ]

turn-steps : (m : Setup) (s : System) (pick : Pick) → All IsAtStep s.locals → All IsAtStep (turn m s pick).locals
turn-steps m s pick all =
    let l = get_or s.locals pick.worker idle in
    let b = begun m pick.tries l in
    let step = step_of m s.value b in
    let x = get_or s.words (number_of m step.place) 0 in
    All-set IsAtStep s.locals pick.worker (advance_of m pick.refused s.value b (answer_of step.op x)).local
    (advanced-step m pick.refused s.value b (answer_of step.op x) (begun_at-kind m pick.tries l l.spot (worker-step s.locals pick.worker all).kind)) all

all-go_on : (m : Setup) (s : System) → All IsAtStep s.locals → All (GoesOn m s.value) s.locals
all-go_on m s all = All-weaker IsAtStep (GoesOn m s.value) (λ l ok. goes-on m s.value l ok) s.locals all

run-steps : (m : Setup) (s : System) (picks : List Pick) → All IsAtStep s.locals → GoOnAlong m s picks
run-steps m s [] all = all-go_on m s all
run-steps m s (pick ∷ picks) all = (all-go_on m s all, run-steps m (turn m s pick) picks (turn-steps m s pick all))

new-step : (m : Setup) (l : Local) → IsNew m l → IsAtStep (rested m l)
new-step m l new = rested-step m l (at-spot l Between new.between refl refl)

pub workers_go_on : WorkersGoOn
workers_go_on m s picks opening =
    run-steps m (opened m s) picks (All-map IsAtStep (rested m) s.locals (All-weaker (IsNew m) (λ l. IsAtStep (rested m l)) (new-step m) s.locals opening.new))
