-- Turns of a worker alone after which it has one reply by a step are those of one call.
use Rattle.std.proofs.Common.{◌≡◌, ℕ, zero, suc, ◌-◌, ◌<◌, ◌≤◌, ◌++◌, ◌==◌, false, List, [], ◌∷◌, length, get_or, drop, set, refl, sym, ap, ◌∙◌, subst, arith}
use Rattle.std.proofs.lemmas.List.Elements.{All-get_or}
use Rattle.slub_trace.specs.declared.reply.Reply.{Reply}
use Rattle.slub_lists.specs.State.{State}
use Rattle.slub_core.specs.declared.call.Call.{Call}
use Rattle.slub_core.specs.declared.local.Known.{Known}
use Rattle.slub_core.specs.declared.spot.Spot.TheVariants.{Between}
use Rattle.slub_core.specs.Calls.{call_kind, call_place}
use Rattle.slub_core.specs.Setup.{Setup}
use Rattle.slub_core.specs.World.{World, world_of}
use Rattle.slub_core.specs.Local.{Local, nobody}
use Rattle.slub_core.specs.Steps.{told_at_once, rested, rested_at, rested_with}
use Rattle.slub_core.specs.Law.{IsCoherentSystem}
use Rattle.slub_core.specs.Run.{System, idle}
use Rattle.slub_law_opening.specs.Opening.{Beside, setup_of}
use Rattle.slub_law_opening.specs.Rests.{IsBetween}
use Rattle.slub_law_alone.specs.Alone.{alone, worker_at, IsAtRest, IsNext, HasReply, Replies}
use Rattle.slub_law_alone.specs.Busy.{IsBetweenCalls, AreOfOneCall}
use Rattle.slub_law_alone.proofs.Ended.{alone_keeps}
use Rattle.slub_law_alone.proofs.OneCall.{Ends, call-ends, rested-spot, rested-fast, rested-known}
use Rattle.slub_law_alone.proofs.FirstEnd.{alone-split, alone-long, least, idle-turns}
use Rattle.slub_law_alone.proofs.Onward.{Grown, grown-then, rested-grown, turns-later}
use Rattle.slub_law_alone.proofs.Unstepped.{answer, compared, no_reply_at_once}
use Rattle.slub_law_alone.proofs.StaysKnown.{stays_known}

rested-between : (m : Setup) (l : Local) (calls : List Call) → l.spot ≡ Between → l.todo ≡ calls → rested m l ≡ rested_with m calls l
rested-between m l calls is todo = ap (rested_at m l) is ∙ ap (λ calls. rested_with m calls l) todo

module _ (m : Setup) (opening : World) (x : ℕ) (before : Local) (call asked : Call) where
  -- another call of the worker, made by its turns, would be one that has its reply without a step
  no-other : (mid : System) (turns : ℕ) (reply : Reply) (next : Call) (more : List Call) → x < length mid.locals → IsCoherentSystem m opening mid → Ends before call m (worker_at mid x) → IsBetweenCalls mid x
      → IsBetweenCalls (alone m x (suc turns) mid) x → HasReply m before asked reply (worker_at (alone m x (suc turns) mid) x) → (worker_at mid x).todo ≡ next ∷ more → ⊥
  no-other mid turns reply next more below coherent first at ends replied todo =
      let last = alone m x (suc turns) mid in
      let l = worker_at mid x in
      let n = worker_at last x in
      let u = first.told in
      let v = replied.told in
      let calls = drop 1 before.todo in
      let one = least m x turns mid ends in
      let few : one.last ≤ turns = one.few in
      let then = alone m x (suc one.last) mid in
      let other = call-ends m mid x next more one.last below at todo one.ends in
      let w = other.told in
      -- the reply by a step stands among those at the end
      let long = alone-long m x (suc one.last) mid below in
      let plain : (worker_at then x).fast ≡ false = ap (λ (l : Local). l.fast) other.rests ∙ rested-fast m w ∙ other.plain in
      let on = turns-later m x (turns - one.last) then long plain in
      let end : last ≡ alone m x (turns - one.last) then = alone-split m x (suc one.last) (turns - one.last) (suc turns) mid (omega (arith, few)) in
      let grown-w : Grown w.done (worker_at then x).done = subst (λ (l : Local). Grown w.done l.done) (sym other.rests) (rested-grown m w) in
      let grown : Grown w.done n.done = subst (λ (s : System). Grown w.done (worker_at s x).done) (sym end) (grown-then w.done (worker_at then x).done _ grown-w on.done) in
      let told : n.done ≡ grown.0 ++ answer next other.has.reply ∷ l.done = grown.1 ∙ ap (λ ds. grown.0 ++ ds) other.has.done in
      -- and so without a step
      let u-rests : l ≡ rested_with m calls u = first.rests ∙ rested-between m u calls first.between first.has.todo in
      let v-rests : n ≡ rested_with m calls v = replied.rested ∙ rested-between m v calls replied.between replied.todo in
      let both = compared m calls u v next more other.has.reply grown.0 first.has.todo replied.todo (ap length first.has.done ∙ sym (ap length replied.done))
      (sym (ap (λ (l : Local). l.todo) u-rests) ∙ todo)
      (sym (ap (λ (l : Local). l.done) v-rests) ∙ told ∙ ap (λ (l : Local). grown.0 ++ answer next other.has.reply ∷ l.done) u-rests) in
      let u-known : l.known ≡ u.known = ap (λ (l : Local). l.known) first.rests ∙ rested-known m u in
      let v-known : n.known ≡ v.known = ap (λ (l : Local). l.known) replied.rested ∙ rested-known m v in
      let mid-plain : l.fast ≡ false = ap (λ (l : Local). l.fast) first.rests ∙ rested-fast m u ∙ first.plain in
      let all = turns-later m x (suc turns) mid below mid-plain in
      no_reply_at_once m (get_or u.known (call_place next) nobody) (get_or v.known (call_place next) nobody) next (call_kind next) other.has.reply
      (λ poke. subst (λ (ks : List Known). ((get_or ks (call_place next) nobody).frame == 0) ≡ false) v-known
      (stays_known m opening mid last x next more below (alone-long m x (suc turns) mid below) coherent (alone_keeps m opening x (suc turns) mid coherent) at todo poke
      (ap (λ (ks : List Known). told_at_once m (get_or ks (call_place next) nobody) next (call_kind next)) u-known ∙ both.0) all.known all.done))
      other.has.stepped both.0 both.1

  -- the turns after the end of the call change nothing
  none-after : (mid : System) (turns : ℕ) (reply : Reply) → x < length mid.locals → IsCoherentSystem m opening mid → Ends before call m (worker_at mid x) → IsBetweenCalls mid x
      → IsBetweenCalls (alone m x turns mid) x → HasReply m before asked reply (worker_at (alone m x turns mid) x) → mid ≡ alone m x turns mid
  none-after mid zero reply below coherent first at ends replied = refl
  none-after mid (suc turns) reply below coherent first at ends replied = by (worker_at mid x).todo refl
    where
      by : (calls : List Call) → (worker_at mid x).todo ≡ calls → mid ≡ alone m x (suc turns) mid
      by [] todo = sym (idle-turns m x (suc turns) mid below at todo)
      by (next ∷ more) todo = absurd (no-other mid turns reply next more below coherent first at ends replied todo)

-- where a worker between calls has one reply more by a step, after so many turns alone, they are those of one call
pub one_call : (m : Setup) (opening : World) (system : System) (worker : ℕ) (call : Call) (calls : List Call) (turns : ℕ) (asked : Call) (reply : Reply) → worker < length system.locals → IsCoherentSystem m opening system → IsBetweenCalls system worker
    → (worker_at system worker).todo ≡ call ∷ calls → HasReply m (worker_at system worker) asked reply (worker_at (alone m worker (suc turns) system) worker) → (k : ℕ) × AreOfOneCall m system worker (suc turns) (suc k)
one_call m opening system worker call calls turns asked reply there coherent start todo has =
    let ends : IsBetweenCalls (alone m worker (suc turns) system) worker = ap (λ (l : Local). l.spot) has.rested ∙ rested-spot m has.told ∙ has.between in
    let one = least m worker turns system ends in
    let few : one.last ≤ turns = one.few in
    let mid = alone m worker (suc one.last) system in
    let first = call-ends m system worker call calls one.last there start todo one.ends in
    let all : alone m worker (suc turns) system ≡ alone m worker (turns - one.last) mid = alone-split m worker (suc one.last) (turns - one.last) (suc turns) system (omega (arith, few)) in
    let same : mid ≡ alone m worker (suc turns) system = none-after m opening worker (worker_at system worker) call asked mid (turns - one.last) reply (alone-long m worker (suc one.last) system there)
    (alone_keeps m opening worker (suc one.last) system coherent) first one.ends.ends
    (subst (λ s. IsBetweenCalls s worker) all ends) (subst (λ t. HasReply m (worker_at system worker) asked reply (worker_at t worker)) all has) ∙ sym all in
    (one.last, record { few = omega (arith, few); one = one.ends; same = same })

-- at rest each worker is between calls
between-at : (opening : World) (s : State) (b : Beside) (system : System) (x : ℕ) → IsAtRest opening s b system → x < length system.locals → IsBetweenCalls system x
between-at opening s b system x rest below =
    (All-get_or (IsBetween (world_of (setup_of s b) system.value system.words).setup) system.locals x idle below rest.rests.rests.workers).between

pub turns_of_one : (opening : World) (s : State) (b : Beside) (system : System) (worker : ℕ) (call : Call) (turns : ℕ) (reply : Reply) (after : State) (d : Beside) → IsAtRest opening s b system → IsNext system worker call
    → Replies opening s b system worker call (suc turns) reply after d → (k : ℕ) × AreOfOneCall (setup_of s b) system worker (suc turns) (suc k) × Replies opening s b system worker call (suc k) reply after d
turns_of_one opening s b system worker call turns reply after d rest next r =
    let m = setup_of s b in
    let one = one_call m opening system worker call next.calls turns call reply next.there rest.coherent (between-at opening s b system worker rest next.there) next.todo r.replied in
    let same = one.1.same in (
      one.0,
      one.1,
      record {
        setup = r.setup;
        rest = subst (IsAtRest opening after d) (sym same) r.rest;
        replied = subst (λ t. HasReply m (worker_at system worker) call reply (worker_at t worker)) (sym same) r.replied;
        others = subst (λ (t : System). t.locals ≡ set system.locals worker (worker_at t worker)) (sym same) r.others;
      },
    )
