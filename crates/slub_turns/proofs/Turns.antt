-- A turn of a worker of a coherent machine is one that the bodies can make: its step, and what is done at once after it.
use Rattle.std.proofs.Common.{◌≡◌, ◌≤◌, Bool, Option, Some, None, List, [], ◌∷◌, ◌++◌, length, get_or, set, map, refl, sym, ap, ◌∙◌, subst, arith, inl, inr}
use Rattle.std.specs.Prelude.{IsSome}
use Rattle.std.proofs.lemmas.List.{length-map, map-append}
use Rattle.std.proofs.lemmas.Option.{none-some}
use Rattle.slub_trace.specs.declared.reply.Reply.{Reply}
use Rattle.slub_core.specs.declared.spot.Spot.{Spot}
use Rattle.slub_core.specs.declared.spot.Spot.TheVariants.{Between}
use Rattle.slub_core.specs.Setup.{Setup}
use Rattle.slub_core.specs.Words.{word_count, number_of, after_op, answer_of}
use Rattle.slub_core.specs.World.{World, world_from, world_of}
use Rattle.slub_core.specs.Local.{Local, Worker, noted}
use Rattle.slub_core.specs.Spots.{doing}
use Rattle.slub_core.specs.Steps.{step_of, advance_at, at_once, begun}
use Rattle.slub_core.specs.Run.{System, idle}
use Rattle.slub_core.specs.Coherent.{Stands}
use Rattle.slub_core.specs.Accounted.{IsAccounted}
use Rattle.slub_core.specs.Law.{TakesStep}
use Rattle.slub_core.proofs.Accounts.{Comes}
use Rattle.slub_core.proofs.Among.{to_front}
use Rattle.slub_core.proofs.Begin.{begin}
use Rattle.slub_core.proofs.CallsStay.{has-call}
use Rattle.slub_core.proofs.Dispatch.{leads}
use Rattle.slub_core.proofs.Leads.{table}
use Rattle.slub_core.proofs.MayBegin.{may_begin}
use Rattle.slub_core.proofs.Noted.{noted-comes}
use Rattle.slub_core.proofs.Rests.{joined}
use Rattle.slub_core.proofs.Scripts.{Leaves, turn-says, change-leaves}
use Rattle.slub_core.proofs.TaleBegin.{told_begin, accounted_to_front}
use Rattle.slub_core.proofs.TaleSettled.{comes_once}
use Rattle.slub_core.proofs.Tells.{turn-tells}
use Rattle.slub_core.proofs.Turns.{split}
use Rattle.slub_core.specs.declared.guarded.Guarded.{Guarded}
use Rattle.slub_turns.specs.Fits.{AtOnceFits, AreValues, HasCallFor, ChangeFits, TurnFits, picked, BeginFits, PickFits, LeavesRoom}
use Rattle.slub_turns.specs.FitLaws.{TurnsFit}
use Rattle.slub_turns.proofs.BeginFits.{begin_fits}
use Rattle.slub_turns.proofs.Counts.{counts-fit}
use Rattle.slub_turns.proofs.Steps.{step_fits, once_fits}
use Rattle.slub_turns.proofs.UseFits.{own-kind}

-- ---- at each spot

-- what is done at once at the spot of a worker fits what the locks guard
once-comes : (opening w : World) (others : List Worker) (l : Local) → Comes opening w others l → (guarded : List Guarded) → AreValues w.setup w.value guarded → AtOnceFits guarded l l.spot
once-comes opening w others l comes guarded are =
    let j = joined opening w others l comes in
    subst (λ (l : Local). AtOnceFits guarded l l.spot) j.1 (once_fits w j.0 others guarded j.0.local.spot refl j.2 (own-kind opening w j.0 others j.3) are)

-- a reply is that of a call
has-reply : (l n : Local) (s : Spot) (r : Option Reply) → Leaves l s n r → (IsSome (doing s) → 1 ≤ length l.todo) → HasCallFor n r
has-reply l n s None leaves some = tt
has-reply l n s (Some r) (todo, done, inl none) some = absurd (none-some r (sym none))
has-reply l n s (Some r) (todo, done, inr at) some = rw todo (some at)

-- a change after which all stands
change-fits : (opening w : World) (others : List Worker) (l : Local) (reply : Option Reply) → HasCallFor l reply → Comes opening w others (noted l reply) → ChangeFits w.setup (record { value = w.value; local = l; reply = reply })
change-fits opening w others l reply call comes = record { call = call; at_once = once-comes opening w others (noted l reply) comes }

-- what is done at once comes with the reply of a call
once-call : (opening w : World) (refused : Bool) (others : List Worker) (l : Local) → Comes opening w others l → let c = at_once w.setup refused w.value l l.spot in HasCallFor c.local c.reply
once-call opening w refused others l comes =
    let c = at_once w.setup refused w.value l l.spot in
    has-reply l c.local l.spot c.reply (change-leaves w.setup refused w.value l l.spot) (has-call opening w others l comes)

-- ---- a step, and what is done at once after it

pub turn_fits : (opening : World) (m : Setup) (s : System) (refused : Bool) (x : Worker) (others : List Worker) → length s.words ≡ word_count m → Stands (world_of m s.value s.words) (x ∷ others)
    → IsAccounted opening (world_of m s.value s.words) (x ∷ others) → LeavesRoom x.local → TurnFits m refused s x.local
unfolding world_of world_from
turn_fits opening m s refused x others long st ac room =
    let w = world_of m s.value s.words in
    let l = x.local in
    let step = step_of m s.value l in
    let n = number_of m step.place in
    let q = get_or s.words n 0 in
    let a = answer_of step.op q in
    let v = world_of m s.value (set s.words n (after_op step.op q)) in
    let turn = advance_at m s.value l l.spot a in
    let led = leads l.spot opening m s.value s.words x others (table m s.value s.words x others long st) refl st ac in
    let told = noted turn.local turn.reply in
    let comes : Comes opening v others told = (noted-comes v others turn.local turn.reply (turn-tells m s.value l l.spot a) led.0, led.1) in
    let c = at_once m refused s.value told told.spot in
    let next : World = record v { value = c.value } in
    let then : Comes opening next others (noted c.local c.reply) = comes_once opening v refused others told comes in
    record {
      step = step_fits w x others l.spot refl st (own-kind opening w x others ac) (counts-fit l l.spot room);
      first = change-fits opening v others turn.local turn.reply (has-reply l turn.local l.spot turn.reply (turn-says m s.value l l.spot a) (has-call opening w others l ((x, refl, st), (x, refl, ac)))) comes;
      second = change-fits opening next others c.local c.reply (once-call opening v refused others told comes) then;
      last = once-call opening next refused others (noted c.local c.reply) then;
    }

-- ---- a worker among the others

get_or-middle : {X : Type 0} (front back : List X) (x d : X) → get_or (front ++ x ∷ back) (length front) d ≡ x
get_or-middle [] back x d = refl
get_or-middle (y ∷ front) back x d = get_or-middle front back x d

-- ---- the law

pub turns : TurnsFit
unfolding world_of world_from
turns m opening s pick is below room =
    let r = split is.workers pick.worker (let e = ap (λ ls. length ls) is.locals in let g = length-map is.workers (λ (x : Worker). x.local) in omega arith) in
    let w = world_of m s.value s.words in
    let all : Stands w is.workers = record { chains = is.chains; placed = is.coherent.placed; listed = is.coherent.listed; fresh = is.coherent.fresh } in
    by_split r.0 r.2 r.1 r.4 (sym (ap (map (λ (x : Worker). x.local)) r.3) ∙ is.locals) (subst (Stands w) r.3 all) (subst (IsAccounted opening w) r.3 is.coherent.accounted)
  where
    by_split : (front back : List Worker) (x : Worker) → length front ≡ pick.worker → map (λ (x : Worker). x.local) (front ++ x ∷ back) ≡ s.locals → Stands (world_of m s.value s.words) (front ++ x ∷ back) → IsAccounted opening (world_of m s.value s.words) (front ++ x ∷ back) → PickFits m s pick
    by_split front back x at locals all ac =
        let w = world_of m s.value s.words in
        let k = pick.worker in
        let l = picked s pick in
        let others = front ++ back in
        let local : Worker → Local = λ x. x.local in
        let lay : map local front ++ x.local ∷ map local back ≡ s.locals = sym (map-append local front (x ∷ back)) ∙ locals in
        let long : length (map local front) ≡ k = length-map front local ∙ at in
        let mine : x.local ≡ l = sym (subst (λ ls. get_or ls (length (map local front)) idle ≡ x.local) lay (get_or-middle (map local front) (map local back) x.local idle)) ∙ ap (λ n. get_or s.locals n idle) long in
        let rested = is.rested k idle below in
        let rest = subst (λ l. l.spot ≡ Between → TakesStep m l l.todo) (sym mine) rested in
        let stood = to_front w front back x all in
        let agrees = accounted_to_front opening w front back x ac in
        let began = subst (λ l. Comes opening w others (begun m pick.tries l)) mine (begin pick.tries w x others stood (λ _. may_begin opening w x others agrees) rest, told_begin pick.tries opening w x others rest agrees) in
        let y = joined opening w others (begun m pick.tries l) began in
        record {
          begin = subst (λ (l : Local). BeginFits l l.spot) mine (begin_fits opening w x others stood agrees);
          rested = rested;
          turn = λ refused. subst (TurnFits m refused s) y.1 (turn_fits opening m s refused y.0 others is.words y.2 y.3 (subst LeavesRoom (sym y.1) room));
        }
