-- A turn of any worker keeps what is said of bytes that are off, and so does a run of turns; and a round begins so.
use Rattle.std.proofs.Common.{◌≡◌, ℕ, ◌+◌, ◌*◌, ◌<◌, Bool, true, false, List, [], ◌∷◌, ◌++◌, length, get_or, set, map, Option, Some, None, refl, sym, ap, ◌∙◌, subst, arith, inl, inr, ℤ}
use Rattle.std.specs.Prelude.{All, pos}
use Rattle.std.specs.List.{Contains}
use Rattle.std.proofs.lemmas.Bool.{cases_eq, cases_lt}
use Rattle.std.proofs.lemmas.List.{append-nil}
use Rattle.std.proofs.lemmas.List.Elements.{All-nil, All-map, All-contains_itself}
use Rattle.slub_object_layout.specs.declared.layout.Flags.{Flags}
use Rattle.slub_object_layout.specs.declared.layout.Layout.{Layout}
use Rattle.slub_red_zone.specs.declared.slab.ObjectState.{ObjectState}
use Rattle.slub_red_zone.specs.declared.slab.ObjectState.TheVariants.{Free, Used, Aside}
use Rattle.slub_red_zone.specs.State.{CheckedState, slab_of, state_of}
use Rattle.slub_words.specs.declared.board.BoardWord.{BoardWord}
use Rattle.slub_trace.specs.declared.reply.Reply.{Reply}
use Rattle.slub_trace.specs.declared.reply.Reply.TheVariants as reply
use Rattle.slub_core.specs.declared.call.Call.{Call}
use Rattle.slub_core.specs.declared.local.Answered.{Answered}
use Rattle.slub_core.specs.declared.spot.Spot.{Spot}
use Rattle.slub_core.specs.declared.spot.Spot.TheVariants.{Between, InChecked}
use Rattle.slub_core.specs.declared.spot.CheckedSpot.TheVariants.{DoChecked, AddSlab}
use Rattle.slub_core.specs.Calls.{call_kind, call_place}
use Rattle.slub_core.specs.Setup.{Setup, node_lock}
use Rattle.slub_core.specs.Words.{word_count, number_of, after_op, answer_of}
use Rattle.slub_core.specs.World.{World, LockValue, Checked, world_from, world_of}
use Rattle.slub_core.specs.Local.{Local, Worker, Turn, nobody, no_call, answered, call_of, noted}
use Rattle.slub_core.specs.Checked.{slabs_in}
use Rattle.slub_core.specs.Steps.{step_of, advance_at, advance_of, at_once, settled, begun, begun_at, begun_with, told_at_once, or_step, rested, rested_with, rested_at}
use Rattle.slub_core.specs.Run.{System, Pick, idle, run, turn}
use Rattle.slub_core.specs.Listed.{IsCheckedOf}
use Rattle.slub_core.specs.Coherent.{Stands}
use Rattle.slub_core.specs.Accounted.{IsAccounted}
use Rattle.slub_core.specs.Opening.{IsOpening, opened}
use Rattle.slub_core.specs.Law.{IsCoherentSystem, replies_of}
use Rattle.slub_core.proofs.Accounts.{Comes}
use Rattle.slub_core.proofs.Among.{All-middle, All-back}
use Rattle.slub_core.proofs.Dispatch.{leads}
use Rattle.slub_core.proofs.Leads.{table}
use Rattle.slub_core.proofs.Noted.{noted-comes}
use Rattle.slub_core.proofs.Onces.{makes}
use Rattle.slub_core.proofs.Opens.{opens}
use Rattle.slub_core.proofs.Rests.{joined}
use Rattle.slub_core.proofs.Scripts.{change-leaves, turn-says}
use Rattle.slub_core.proofs.TaleSettled.{comes_once}
use Rattle.slub_core.proofs.Tells.{turn-tells}
use Rattle.slub_core.proofs.Turns.{turn_keeps as turn_keeps_all}
use Rattle.slub_core.proofs.UnderLock.{checked-is}
use Rattle.slub_law_opening.proofs.Turns.{has-begun, map-set, no-turn}
use Rattle.slub_law_rounds.proofs.Clean.{parts_of}
use Rattle.slub_law_rounds.proofs.Cleaning.{Clean}
use Rattle.slub_law_rounds.specs.Contents.{IsReport, slabs_at}
use Rattle.slub_law_rounds.specs.Law.{examined}
use Rattle.slub_law_rounds.proofs.Acts.{one-more}
use Rattle.slub_law_rounds.proofs.Grows.{Grows}
use Rattle.slub_law_rounds.proofs.Mild.{IsOther, MildReply, Spares, Stepped, frees, gives, is_doing, keeps, once-milder, reads, rest-mild, takes, turn-step, writes}
use Rattle.slub_law_rounds.proofs.Moves.{Goes, goes-none}
use Rattle.slub_law_replay.specs.Off.{AreFound, Finds, IsOff, RoundsEndWithPokes}
use Rattle.slub_law_replay.proofs.Acts.{HasAt, HasAfter, adds_slab, does_checked}
use Rattle.slub_law_replay.proofs.Grows.{GoesAll, Has, Put, clean-later, has-goes, has-later, has-reply, told-grown}

-- ---- replies that tell of no damage

abbrev TellsNone : Option Reply → Type 0
TellsNone (Some (reply.Corrupt damage)) = ⊥
TellsNone _ = Unit {0}

none-finds : (came : ℕ → ℤ → ℕ → Type 0) (m : Setup) (board : ℕ → Option BoardWord) (own : List Answered) (call : Call) (r : Reply) → TellsNone (Some r) → Finds came m board own call r
none-finds came m board own call (reply.Corrupt damage) none = absurd none
none-finds came m board own call _ none = tt

mild-none : (r : Option Reply) → MildReply r → TellsNone r
mild-none None mild = tt
mild-none (Some (reply.Corrupt damage)) mild = mild
mild-none (Some _) mild = tt

stepped-none : (l : Local) (spot : Spot) (turn : Turn) → Stepped l spot turn → TellsNone turn.reply
stepped-none l spot turn (keeps known mild) = mild-none turn.reply mild
stepped-none l spot turn (gives k a known object at r) = subst TellsNone (sym r) tt
stepped-none l spot turn (frees k a known object at r) = subst TellsNone (sym r) tt
stepped-none l spot turn (takes k known object at r) = subst TellsNone (sym r) tt
stepped-none l spot turn (writes at known r) = subst TellsNone (sym r) tt
stepped-none l spot turn (reads v at known r) = subst TellsNone (sym r) tt

-- ---- what guards no slabs of a checked cache

the-slabs : (w : World) (xs : List Worker) (cache : ℕ) → Stands w xs → w.setup.checks cache ≡ true → (slabs : CheckedState) × (w.value (node_lock cache) ≡ Checked slabs) × IsCheckedOf w.setup cache slabs
the-slabs w xs cache s checks =
    let setup = s.fresh.setup in
    let lives = setup.checked cache checks in
    let few = setup.live cache lives in
    let count = setup.locks in
    checked-is w.setup cache (w.value (node_lock cache)) (few, lives, checks) (s.listed.shaped.guarded (node_lock cache) (omega arith))

spares-same : (w : World) (xs : List Worker) (after : ℕ → LockValue) → Stands (record w { value = after }) xs → Spares w.value after → (cache : ℕ) → w.setup.checks cache ≡ true → slabs_at w.setup after cache ≡ slabs_at w.setup w.value cache
spares-same w xs after s spares cache checks =
    elim (spares cache) [
      | inl same ↦ ap (slabs_in (w.setup.layout cache)) same
      | inr other ↦ absurd (subst IsOther (the-slabs (record w { value = after }) xs cache s checks).1 other)
    ]

-- ---- lists of workers

abbrev done_of : Worker → List Answered
done_of x = x.local.done

done-mapped : (xs : List Worker) → map (λ (l : Local). l.done) (map (λ (x : Worker). x.local) xs) ≡ map done_of xs
done-mapped [] = refl
done-mapped (x ∷ xs) = ap (λ ds. x.local.done ∷ ds) (done-mapped xs)

done-middle : (front back : List Worker) (x : Worker) → map (λ (l : Local). l.done) (map (λ (x : Worker). x.local) (front ++ x ∷ back)) ≡ map done_of front ++ x.local.done ∷ map done_of back
done-middle [] back x = ap (λ ds. x.local.done ∷ ds) (done-mapped back)
done-middle (y ∷ front) back x = ap (λ ds. y.local.done ∷ ds) (done-middle front back x)

local-middle : (front back : List Worker) (x : Worker) → get_or (map (λ (x : Worker). x.local) (front ++ x ∷ back)) (length front) idle ≡ x.local
local-middle [] back x = refl
local-middle (y ∷ front) back x = local-middle front back x

same-grows : (xs ys : List (List Answered)) → All (Contains ys) xs → Grows xs ys
same-grows xs ys all ds there = ([], subst (Contains ys) there.2 (all there.0 ds there.1))

to-front-grows : (front back : List (List Answered)) (ds : List Answered) → Grows (front ++ ds ∷ back) (ds ∷ (front ++ back))
to-front-grows front back ds = same-grows (front ++ ds ∷ back) (ds ∷ (front ++ back)) (All-back (Contains (ds ∷ (front ++ back))) front back ds (All-contains_itself (ds ∷ (front ++ back))))

from-front-grows : (front back : List (List Answered)) (ds : List Answered) → Grows (ds ∷ (front ++ back)) (front ++ ds ∷ back)
from-front-grows front back ds = same-grows (ds ∷ (front ++ back)) (front ++ ds ∷ back) (All-middle (Contains (front ++ ds ∷ back)) front back ds (All-contains_itself (front ++ ds ∷ back)))

-- a call that begins was answered nothing yet
begun-done : (m : Setup) (tries : Bool) (l : Local) (spot : Spot) → (begun_at m tries l spot).done ≡ l.done
begun-done m tries l Between = by l.todo
  where
    by : (calls : List Call) → (begun_with m tries l calls).done ≡ l.done
    by [] = refl
    by (call ∷ calls) = refl
begun-done m tries l _ = refl

module _ (said : ℕ → ℤ → ℕ → Type 0) where
  -- ---- a reply, or none, and other values of locks

  noted-has : (m : Setup) (opening : World) (rest : List (List Answered)) (value after : ℕ → LockValue) (l n : Local) (r : Option Reply) → n.done ≡ l.done → n.todo ≡ l.todo → TellsNone r → ((dones : List (List Answered)) → GoesAll said m opening dones value after)
      → HasAt said m opening rest value l → HasAt said m opening rest after (noted n r)
  noted-has m opening rest value after l n None done todo none goes has = subst (λ ds. Has said m opening after (ds ∷ rest)) (sym done) (has-goes said m opening value after (l.done ∷ rest) (goes (l.done ∷ rest)) has)
  noted-has m opening rest value after l n (Some r) done todo none goes has =
      let d = one-more l r in
      let more = (d ∷ l.done) ∷ rest in
      let e : (answered n r).done ≡ d ∷ l.done = (λ i. record { call = get_or (todo i) 0 no_call; reply = r } ∷ done i) in
      subst (λ ds. Has said m opening after (ds ∷ rest)) (sym e)
      (has-goes said m opening value after more (goes more) (has-reply said m opening value l.done rest d (none-finds (Put said m opening more) m opening.board l.done (call_of l) r none) has))

  no-goes : (m : Setup) (opening : World) (value : ℕ → LockValue) (dones : List (List Answered)) → GoesAll said m opening dones value value
  no-goes m opening value dones cache checks clean = goes-none (Put said m opening dones cache) (slabs_at m value cache) clean

  spares-goes : (opening w : World) (xs : List Worker) (after : ℕ → LockValue) → Stands (record w { value = after }) xs → Spares w.value after → (dones : List (List Answered)) → GoesAll said w.setup opening dones w.value after
  spares-goes opening w xs after s spares dones cache checks clean =
      subst (λ slabs. Goes (Put said w.setup opening dones cache) (slabs_at w.setup w.value cache) slabs) (sym (spares-same w xs after s spares cache checks)) (goes-none (Put said w.setup opening dones cache) (slabs_at w.setup w.value cache) clean)

  -- ---- what is done at once

  mild-once : (spot : Spot) (opening w : World) (refused : Bool) (x : Worker) (others : List Worker) (rest : List (List Answered)) → is_doing spot ≡ false → x.local.spot ≡ spot → Stands w (x ∷ others)
      → HasAt said w.setup opening rest w.value x.local → HasAfter said w.setup opening rest (at_once w.setup refused w.value x.local spot)
  mild-once spot opening w refused x others rest mild is s has =
      let c = at_once w.setup refused w.value x.local spot in
      let made = makes w refused x others spot is s in
      let milder = once-milder w.setup refused w.value x.local spot mild in
      let leaves = change-leaves w.setup refused w.value x.local spot in
      noted-has w.setup opening rest w.value c.value x.local c.local c.reply leaves.1 leaves.0 (mild-none c.reply milder.1) (spares-goes opening w (made.0 ∷ others) c.value made.2 milder.0) has

  once-at : (spot : Spot) (opening w : World) (refused : Bool) (x : Worker) (others : List Worker) (rest : List (List Answered)) → x.local.spot ≡ spot → Stands w (x ∷ others) → IsAccounted opening w (x ∷ others)
      → HasAt said w.setup opening rest w.value x.local → HasAfter said w.setup opening rest (at_once w.setup refused w.value x.local spot)
  once-at (InChecked DoChecked kind) opening w refused x others rest is s ac has = does_checked said kind opening w x others rest is s ac has
  once-at (InChecked AddSlab kind) opening w refused x others rest is s ac has = adds_slab said opening w x others rest refused kind is s has
  once-at spot opening w refused x others rest is s ac has = mild-once spot opening w refused x others rest refl is s has

  once : (opening w : World) (refused : Bool) (others : List Worker) (rest : List (List Answered)) (l : Local) → Comes opening w others l → HasAt said w.setup opening rest w.value l → HasAfter said w.setup opening rest (at_once w.setup refused w.value l l.spot)
  once opening w refused others rest l comes =
      let z = joined opening w others l comes in
      subst (λ l. HasAt said w.setup opening rest w.value l → HasAfter said w.setup opening rest (at_once w.setup refused w.value l l.spot)) z.1
      (λ has. once-at z.0.local.spot opening w refused z.0 others rest refl z.2 z.3 has)

  settles : (opening w : World) (refused : Bool) (others : List Worker) (rest : List (List Answered)) (l : Local) (r : Option Reply) → Comes opening w others (noted l r) → HasAt said w.setup opening rest w.value (noted l r)
      → HasAfter said w.setup opening rest (settled w.setup refused (record { value = w.value; local = l; reply = r }))
  settles opening w refused others rest l r comes has =
      let n = noted l r in
      let c = at_once w.setup refused w.value n n.spot in
      once opening (record w { value = c.value }) refused others rest (noted c.local c.reply) (comes_once opening w refused others n comes) (once opening w refused others rest n comes has)

  -- ---- replies that take no step

  or-has : (P : Local → Type 0) (l : Local) (more : Reply → Local) (r : Option Reply) → P l → ((reply : Reply) → r ≡ Some reply → P (more reply)) → P (or_step l more r)
  or-has P l more None a b = a
  or-has P l more (Some reply) a b = b reply refl

  rests : (m : Setup) (opening : World) (rest : List (List Answered)) (value : ℕ → LockValue) (calls : List Call) (l : Local) → HasAt said m opening rest value l → HasAt said m opening rest value (rested_with m calls l)
  rests m opening rest value [] l has = has
  rests m opening rest value (call ∷ calls) l has =
      or-has (HasAt said m opening rest value) l (λ reply. rested_with m calls (answered l reply)) (told_at_once m (get_or l.known (call_place call) nobody) call (call_kind call)) has
      (λ reply is. rests m opening rest value calls (answered l reply)
      (noted-has m opening rest value value l l (Some reply) refl refl (mild-none (Some reply) (subst MildReply is (rest-mild m (get_or l.known (call_place call) nobody) call (call_kind call)))) (no-goes m opening value) has))

  rests-at : (m : Setup) (opening : World) (rest : List (List Answered)) (value : ℕ → LockValue) (l : Local) (spot : Spot) → HasAt said m opening rest value l → HasAt said m opening rest value (rested_at m l spot)
  rests-at m opening rest value l Between has = rests m opening rest value l.todo l has
  rests-at m opening rest value l _ has = has

  -- ---- a step

  steps : (opening : World) (m : Setup) (value : ℕ → LockValue) (words : List ℕ) (refused : Bool) (x : Worker) (others : List Worker) (rest : List (List Answered)) → length words ≡ word_count m → Stands (world_of m value words) (x ∷ others)
      → IsAccounted opening (world_of m value words) (x ∷ others) → HasAt said m opening rest value x.local
      → let step = step_of m value x.local in let n = number_of m step.place in let q = get_or words n 0 in let a = answer_of step.op q in
      let c = advance_of m refused value x.local a in HasAt said m opening rest c.value c.local
  unfolding world_of world_from
  steps opening m value words refused x others rest long s ac has =
      let step = step_of m value x.local in
      let n = number_of m step.place in
      let q = get_or words n 0 in
      let a = answer_of step.op q in
      let after = set words n (after_op step.op q) in
      let turn = advance_at m value x.local x.local.spot a in
      let led = leads x.local.spot opening m value words x others (table m value words x others long s) refl s ac in
      let stands = noted-comes (world_of m value after) others turn.local turn.reply (turn-tells m value x.local x.local.spot a) led.0 in
      let c = settled m refused (record { value = value; local = turn.local; reply = turn.reply }) in
      let says = turn-says m value x.local x.local.spot a in
      let told = noted-has m opening rest value value x.local turn.local turn.reply says.1 says.0 (stepped-none x.local x.local.spot turn (turn-step m value x.local x.local.spot a)) (no-goes m opening value) has in
      let z = noted c.local c.reply in
      rests-at m opening rest c.value z z.spot (settles opening (world_of m value after) refused others rest turn.local turn.reply (stands, led.1) told)

  -- ---- a turn

  to-front : (m : Setup) (opening : World) (value : ℕ → LockValue) (front back : List (List Answered)) (ds : List Answered) → Has said m opening value (front ++ ds ∷ back) → Has said m opening value (ds ∷ (front ++ back))
  to-front m opening value front back ds has =
      let here = ds ∷ (front ++ back) in
      let there = front ++ ds ∷ back in
      let grows = to-front-grows front back ds in
      has-later said m opening value there here grows (All-middle (AreFound (Put said m opening here) m opening.board) front back ds (told-grown said m opening there here there grows has.told)) has

  from-front : (m : Setup) (opening : World) (value : ℕ → LockValue) (front back : List (List Answered)) (ds : List Answered) → Has said m opening value (ds ∷ (front ++ back)) → Has said m opening value (front ++ ds ∷ back)
  from-front m opening value front back ds has =
      let here = ds ∷ (front ++ back) in
      let there = front ++ ds ∷ back in
      let grows = from-front-grows front back ds in
      has-later said m opening value here there grows (All-back (AreFound (Put said m opening there) m opening.board) front back ds (told-grown said m opening here there here grows has.told)) has

  abbrev HasIn : Setup → World → System → Type 0
  HasIn m opening s = Has said m opening s.value (replies_of s)

  turn_below : (m : Setup) (opening : World) (s : System) (pick : Pick) → pick.worker < length s.locals → IsCoherentSystem m opening s → HasIn m opening s → HasIn m opening (turn m s pick)
  turn_below m opening s pick below is has =
      let b = has-begun m opening s pick below is in
      let k = pick.worker in
      let l = get_or s.locals k idle in
      let others = b.front ++ b.back in
      let before = map done_of b.front in
      let behind = map done_of b.back in
      let rest = before ++ behind in
      let mine : b.was.local ≡ l = sym (local-middle b.front b.back b.was) ∙ ap (λ ls. get_or ls (length b.front) idle) b.locals ∙ ap (λ n. get_or s.locals n idle) b.at in
      let laid : replies_of s ≡ before ++ b.was.local.done ∷ behind = ap (map (λ (l : Local). l.done)) (sym b.locals) ∙ done-middle b.front b.back b.was in
      let first : HasAt said m opening rest s.value l = subst (λ l. HasAt said m opening rest s.value l) mine (to-front m opening s.value before behind b.was.local.done (subst (Has said m opening s.value) laid has)) in
      let starts : HasAt said m opening rest s.value (begun m pick.tries l) = subst (λ ds. Has said m opening s.value (ds ∷ rest)) (sym (begun-done m pick.tries l l.spot)) first in
      let step = step_of m s.value (begun m pick.tries l) in
      let q = get_or s.words (number_of m step.place) 0 in
      let c = advance_of m pick.refused s.value (begun m pick.tries l) (answer_of step.op q) in
      let led : HasAt said m opening rest c.value c.local =
      subst (λ b. HasAt said m opening rest s.value b → let step = step_of m s.value b in let q = get_or s.words (number_of m step.place) 0 in let c = advance_of m pick.refused s.value b (answer_of step.op q) in HasAt said m opening rest c.value c.local) b.local
      (steps opening m s.value s.words pick.refused b.x others rest is.words b.stands b.accounted) starts in
      let new : Worker = record b.was { local = c.local } in
      let locals : set s.locals k c.local ≡ map (λ (x : Worker). x.local) (b.front ++ new ∷ b.back) =
      ap (λ ls. set ls k c.local) (sym b.locals) ∙ ap (λ n. set (map (λ (x : Worker). x.local) (b.front ++ b.was ∷ b.back)) n c.local) (sym b.at) ∙ map-set (λ (x : Worker). x.local) b.front b.back b.was new in
      let now : map (λ (l : Local). l.done) (set s.locals k c.local) ≡ before ++ c.local.done ∷ behind = ap (map (λ (l : Local). l.done)) locals ∙ done-middle b.front b.back new in
      subst (Has said m opening c.value) (sym now) (from-front m opening c.value before behind c.local.done led)

  turn_keeps : (m : Setup) (opening : World) (s : System) (pick : Pick) → IsCoherentSystem m opening s → HasIn m opening s → HasIn m opening (turn m s pick)
  turn_keeps m opening s pick is has = elim (cases_lt pick.worker (length s.locals)) [
    | inl below ↦ turn_below m opening s pick below is has
    | inr past ↦ subst (λ (t : System). HasIn m opening t) (sym (no-turn m s pick past)) has
  ]

  run_keeps : (m : Setup) (opening : World) (s : System) (picks : List Pick) → IsCoherentSystem m opening s → HasIn m opening s → HasIn m opening (run m s picks)
  run_keeps m opening s [] is has = has
  run_keeps m opening s (pick ∷ picks) is has = run_keeps m opening (turn m s pick) picks (turn_keeps_all m opening s pick is) (turn_keeps m opening s pick is has)

  -- ---- the beginning

  -- no reply of a worker tells of a damage
  found-rested : (m : Setup) (opening : World) (dones : List (List Answered)) (calls : List Call) (l : Local) → AreFound (Put said m opening dones) m opening.board l.done → AreFound (Put said m opening dones) m opening.board (rested_with m calls l).done
  found-rested m opening dones [] l told = told
  found-rested m opening dones (call ∷ calls) l told =
      or-has (λ l. AreFound (Put said m opening dones) m opening.board l.done) l (λ reply. rested_with m calls (answered l reply)) (told_at_once m (get_or l.known (call_place call) nobody) call (call_kind call)) told
      (λ reply is. found-rested m opening dones calls (answered l reply)
      (none-finds (Put said m opening dones) m opening.board l.done (call_of l) reply (mild-none (Some reply) (subst MildReply is (rest-mild m (get_or l.known (call_place call) nobody) call (call_kind call)))), told))

  found-new : (m : Setup) (opening : World) (dones : List (List Answered)) (l : Local) (spot : Spot) → l.done ≡ [] → AreFound (Put said m opening dones) m opening.board (rested_at m l spot).done
  found-new m opening dones l Between none = found-rested m opening dones l.todo l (rw none tt)
  found-new m opening dones l _ none = rw none tt

  round_begins : (m : Setup) (s : System) → IsOpening m s → ((cache : ℕ) → m.checks cache ≡ true → Clean (said cache) (slabs_at m s.value cache)) → HasIn m (world_of m s.value s.words) (opened m s)
  unfolding world_of world_from
  round_begins m s new start =
      let w = world_of m s.value s.words in
      let dones = replies_of (opened m s) in
      record {
        slabs = λ cache checks. record {
          number = refl;
          layout = refl;
          found = [];
          added = sym (append-nil (slabs_at m s.value cache).reports);
          told = All-nil (IsReport (Put said m w dones cache) (slabs_at m s.value cache));
          aside = λ slot is. inl is;
          more_aside = λ frame more. absurd (omega (arith, more));
        };
        bytes = λ cache checks. clean-later (said cache) (Put said m w dones cache) (slabs_at m s.value cache) (λ at byte is. inl is) (start cache checks);
        told = All-map (AreFound (Put said m w dones) m w.board) (λ (l : Local). l.done) (map (rested m) s.locals)
            (All-map (λ (l : Local). AreFound (Put said m w dones) m w.board l.done) (rested m) s.locals (λ k d below. let l = get_or s.locals k d in found-new m w dones l l.spot (new.new k d below).done));
      }

  -- ---- the round

  pub round_ends : (m : Setup) (s : System) (picks : List Pick) → IsOpening m s → ((cache : ℕ) → m.checks cache ≡ true → Clean (said cache) (slabs_at m s.value cache))
      → Has said m (world_of m s.value s.words) (run m (opened m s) picks).value (replies_of (run m (opened m s) picks))
  round_ends m s picks new start = run_keeps m (world_of m s.value s.words) (opened m s) picks (opens m s new) (round_begins m s new start)

-- ---- bytes that were off before

examined-same : (layout : Layout) (flags : Flags) (x : Option ObjectState) → examined layout flags x ≡ parts_of layout flags x
examined-same layout flags None = refl
examined-same layout flags (Some Free) = refl
examined-same layout flags (Some Used) = refl
examined-same layout flags (Some Aside) = refl

-- a byte that is looked at is the wanted one, or is off
off-clean : (s : CheckedState) → Clean (IsOff s) s
off-clean s frame index place part there has =
    let byte = get_or (slab_of s frame).bytes (index * s.layout.size + place) 0 in
    elim (cases_eq byte part.wanted) [
      | inl whole ↦ inl whole
      | inr differs ↦
          inr (record {
            slot = record { frame = frame; index = index };
            part = part;
            looked_at = subst (λ ps. Contains ps part) (sym (examined-same s.layout s.flags (state_of s (record { frame = frame; index = index })))) there;
            place = place;
            inside = has;
            address = refl;
            is = refl;
            unwanted = differs;
          })
    ]

-- so what is so of each byte that is looked at and isn't the wanted one is so of each that is off
pub clean-off : (came : ℤ → ℕ → Type 0) (s : CheckedState) → Clean came s → (at : ℤ) (byte : ℕ) → IsOff s at byte → came at byte
clean-off came s clean at byte off =
    elim (clean off.slot.frame off.slot.index off.place off.part (subst (λ ps. Contains ps off.part) (examined-same s.layout s.flags (state_of s off.slot)) off.looked_at) off.inside) [
      | inl whole ↦ absurd (off.unwanted (sym off.is ∙ whole))
      | inr did ↦ subst (λ z. came z byte) off.address (subst (λ b. came (pos (off.slot.frame * 4096 + off.slot.index * s.layout.size + off.place)) b) off.is did)
    ]

pub rounds_poked : RoundsEndWithPokes
unfolding world_of world_from
rounds_poked m s picks new =
    let w = world_of m s.value s.words in
    let end = run m (opened m s) picks in
    let off : ℕ → ℤ → ℕ → Type 0 = λ cache at byte. IsOff (slabs_at m s.value cache) at byte in
    let has = round_ends off m s picks new (λ cache checks. off-clean (slabs_at m s.value cache)) in
    record {
      bytes = λ cache checks at byte is. clean-off (Put off m w (replies_of end) cache) (slabs_at m end.value cache) (has.bytes cache checks) at byte is;
      slabs = has.slabs;
      told = has.told;
    }
