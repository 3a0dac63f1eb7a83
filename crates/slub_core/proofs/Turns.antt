-- A turn of any worker keeps all, and so does a run of turns.
use Rattle.std.proofs.Common.{◌≡◌, ℕ, zero, suc, ◌<◌, ◌≤◌, Bool, List, [], ◌∷◌, ◌++◌, length, get_or, set, map, refl, sym, ap, ◌∙◌, subst, arith, inl, inr}
use Rattle.std.proofs.lemmas.List.{length-set, set-get_or}
use Rattle.std.proofs.lemmas.List.Elements.{All-set}
use Rattle.std.proofs.lemmas.Bool.{cases_lt}
use Rattle.slub_core.specs.declared.spot.Spot.TheVariants.{Between}
use Rattle.slub_core.specs.Setup.{Setup}
use Rattle.slub_core.specs.Words.{word_count, number_of, after_op, answer_of}
use Rattle.slub_core.specs.World.{World, LockValue, world_from, world_of}
use Rattle.slub_core.specs.Local.{Local, Worker, noted}
use Rattle.slub_core.specs.Steps.{step_of, advance_at, advance_of, settled, begun}
use Rattle.slub_core.specs.Run.{System, Pick, idle, after_step, turn, run}
use Rattle.slub_core.specs.Coherent.{Stands}
use Rattle.slub_core.specs.Accounted.{IsAccounted}
use Rattle.slub_core.specs.Law.{TakesStep, IsRested, IsCoherentSystem, TurnsKeepAll, RunsKeepAll}
use Rattle.slub_core.proofs.Accounts.{Comes}
use Rattle.slub_core.proofs.MayBegin.{may_begin}
use Rattle.slub_core.proofs.Noted.{noted-comes}
use Rattle.slub_core.proofs.TaleSettled.{comes_settled}
use Rattle.slub_core.proofs.Rests.{joined, rests-at, is_rested}
use Rattle.slub_core.proofs.CallsStay.{script, has-call, step-script, begun-script, scripts-set}
use Rattle.slub_core.proofs.Scripts.{turn-says}
use Rattle.slub_core.proofs.TaleBegin.{told_begin, accounted_to_front, accounted_from_front}
use Rattle.slub_core.proofs.Among.{to_front, from_front}
use Rattle.slub_core.proofs.Begin.{begin}
use Rattle.slub_core.proofs.Dispatch.{leads}
use Rattle.slub_core.proofs.Leads.{table}
use Rattle.slub_core.proofs.Tells.{turn-tells}

-- ---- a step

pub steps : (opening : World) (m : Setup) (value : ℕ → LockValue) (words : List ℕ) (refused : Bool) (x : Worker) (others : List Worker) → length words ≡ word_count m → Stands (world_of m value words) (x ∷ others)
    → IsAccounted opening (world_of m value words) (x ∷ others)
    → let step = step_of m value x.local in let n = number_of m step.place in let q = get_or words n 0 in let a = answer_of step.op q in
    let c = advance_of m refused value x.local a in Comes opening (world_of m c.value (set words n (after_op step.op q))) others c.local × (script c.local ≡ script x.local)
unfolding world_of world_from
steps opening m value words refused x others long s ac =
    let step = step_of m value x.local in
    let n = number_of m step.place in
    let q = get_or words n 0 in
    let a = answer_of step.op q in
    let after = set words n (after_op step.op q) in
    let turn = advance_at m value x.local x.local.spot a in
    let led = leads x.local.spot opening m value words x others (table m value words x others long s) refl s ac in
    let stands = noted-comes (world_of m value after) others turn.local turn.reply (turn-tells m value x.local x.local.spot a) led.0 in
    let c = settled m refused (record { value = value; local = turn.local; reply = turn.reply }) in
    let l = noted c.local c.reply in (
      rests-at opening (world_of m c.value after) others l l.spot refl (comes_settled opening (world_of m value after) refused others turn.local turn.reply (stands, led.1)),
      step-script opening (world_of m value after) refused others x.local turn.local x.local.spot turn.reply (turn-says m value x.local x.local.spot a)
          (has-call opening (world_of m value words) others x.local ((x, refl, s), (x, refl, ac))) (stands, led.1),
    )

-- ---- a worker among the others

-- what stands at a place, what is before it and what is after it
pub split : {X : Type 0} (xs : List X) (k : ℕ) → k < length xs → (front : List X) × (x : X) × (back : List X) × (xs ≡ front ++ x ∷ back) × (length front ≡ k)
split [] k below = absurd (omega arith)
split (x ∷ xs) zero below = ([], x, xs, refl, refl)
split (x ∷ xs) (suc k) below = let r = split xs k (omega arith) in (x ∷ r.0, r.1, r.2, ap (λ ys. x ∷ ys) r.3, ap suc r.4)

get_or-middle : {X : Type 0} (front back : List X) (x d : X) → get_or (front ++ x ∷ back) (length front) d ≡ x
get_or-middle [] back x d = refl
get_or-middle (y ∷ front) back x d = get_or-middle front back x d

set-middle : {X : Type 0} (front back : List X) (x v : X) → set (front ++ x ∷ back) (length front) v ≡ front ++ v ∷ back
set-middle [] back x v = refl
set-middle (y ∷ front) back x v = ap (λ ys. y ∷ ys) (set-middle front back x v)

map-append : {X Y : Type 0} (f : X → Y) (front back : List X) → map f (front ++ back) ≡ map f front ++ map f back
map-append f [] back = refl
map-append f (x ∷ front) back = ap (λ ys. f x ∷ ys) (map-append f front back)

-- ---- a turn, and a run

length-mapped : {X Y : Type 0} (f : X → Y) (xs : List X) → length (map f xs) ≡ length xs
length-mapped f [] = refl
length-mapped f (x ∷ xs) = ap suc (length-mapped f xs)

-- the worker that a system's Local is of
locals-middle : (f : Worker → Local) (front back : List Worker) (x : Worker) (ls : List Local) (k : ℕ) → length front ≡ k → map f (front ++ x ∷ back) ≡ ls → (map f front ++ f x ∷ map f back ≡ ls) × (length (map f front) ≡ k)
locals-middle f front back x ls k at is = (sym (map-append f front (x ∷ back)) ∙ is, length-mapped f front ∙ at)

turn_below : (m : Setup) (opening : World) (s : System) (pick : Pick) → pick.worker < length s.locals → IsCoherentSystem m opening s → IsCoherentSystem m opening (turn m s pick) × (map script (turn m s pick).locals ≡ map script s.locals)
unfolding world_of world_from
turn_below m opening s pick below is =
    let r = split is.workers pick.worker (let e = ap (λ ls. length ls) is.locals in let g = length-mapped (λ (x : Worker). x.local) is.workers in omega arith) in
    let w = world_of m s.value s.words in
    let all : Stands w is.workers = record { chains = is.chains; placed = is.coherent.placed; listed = is.coherent.listed; fresh = is.coherent.fresh } in
    by_split r.0 r.2 r.1 r.4 (sym (ap (map (λ (x : Worker). x.local)) r.3) ∙ is.locals) (subst (Stands w) r.3 all) (subst (IsAccounted opening w) r.3 is.coherent.accounted)
  where
    by_split : (front back : List Worker) (x : Worker) → length front ≡ pick.worker → map (λ (x : Worker). x.local) (front ++ x ∷ back) ≡ s.locals → Stands (world_of m s.value s.words) (front ++ x ∷ back) → IsAccounted opening (world_of m s.value s.words) (front ++ x ∷ back)
        → IsCoherentSystem m opening (turn m s pick) × (map script (turn m s pick).locals ≡ map script s.locals)
    by_split front back x at locals all ac =
        let w = world_of m s.value s.words in
        let k = pick.worker in
        let l = get_or s.locals k idle in
        let others = front ++ back in
        let lay = locals-middle (λ (x : Worker). x.local) front back x s.locals k at locals in
        let mine : x.local ≡ l = sym (subst (λ ls. get_or ls (length (map (λ (x : Worker). x.local) front)) idle ≡ x.local) lay.0 (get_or-middle (map (λ (x : Worker). x.local) front) (map (λ (x : Worker). x.local) back) x.local idle)) ∙ ap (λ n. get_or s.locals n idle) lay.1 in
        let rest = subst (λ l. l.spot ≡ Between → TakesStep m l l.todo) (sym mine) (is.rested k idle below) in
        let stood = to_front w front back x all in
        let agrees = accounted_to_front opening w front back x ac in
        let began = subst (λ l. Comes opening w others (begun m pick.tries l)) mine (begin pick.tries w x others stood (λ _. may_begin opening w x others agrees) rest, told_begin pick.tries opening w x others rest agrees) in
        let y = joined opening w others (begun m pick.tries l) began in
        let step = step_of m s.value (begun m pick.tries l) in
        let n = number_of m step.place in
        let q = get_or s.words n 0 in
        let c = advance_of m pick.refused s.value (begun m pick.tries l) (answer_of step.op q) in
        let v = world_of m c.value (set s.words n (after_op step.op q)) in
        let led : Comes opening v others c.local × (script c.local ≡ script (begun m pick.tries l))
        = subst (λ b. let step = step_of m s.value b in let n = number_of m step.place in let q = get_or s.words n 0 in let a = answer_of step.op q in
        let c = advance_of m pick.refused s.value b a in Comes opening (world_of m c.value (set s.words n (after_op step.op q))) others c.local × (script c.local ≡ script b)) y.1
        (steps opening m s.value s.words pick.refused y.0 others is.words y.2 y.3) in
        let z = joined opening v others c.local led.0 in
        let turned = advance_at m s.value (begun m pick.tries l) (begun m pick.tries l).spot (answer_of step.op q) in
        let last = settled m pick.refused (record { value = s.value; local = turned.local; reply = turned.reply }) in
        let told_last = noted last.local last.reply in
        let stands = from_front v front back z.0 z.2 in (
          record {
            words = length-set s.words n (after_op step.op q) ∙ is.words;
            workers = front ++ z.0 ∷ back;
            locals = map-append (λ (x : Worker). x.local) front (z.0 ∷ back) ∙ sym (set-middle (map (λ (x : Worker). x.local) front) (map (λ (x : Worker). x.local) back) x.local z.0.local)
                ∙ ap (λ v. set (map (λ (x : Worker). x.local) front ++ x.local ∷ map (λ (x : Worker). x.local) back) (length (map (λ (x : Worker). x.local) front)) v) z.1
                ∙ ap (λ ls. set ls (length (map (λ (x : Worker). x.local) front)) c.local) lay.0 ∙ ap (λ n. set s.locals n c.local) lay.1;
            chains = stands.chains;
            coherent = record { placed = stands.placed; listed = stands.listed; fresh = stands.fresh; accounted = accounted_from_front opening v front back z.0 z.3 };
            rested = All-set (IsRested m) s.locals k c.local (is_rested m told_last told_last.spot refl) is.rested;
          },
          scripts-set s.locals k c.local idle (led.1 ∙ begun-script m pick.tries l l.spot),
        )

-- a pick of no worker changes nothing
set-beyond : {X : Type 0} (xs : List X) (k : ℕ) (v : X) → length xs ≤ k → set xs k v ≡ xs
set-beyond [] k v past = refl
set-beyond (x ∷ xs) zero v past = absurd (omega arith)
set-beyond (x ∷ xs) (suc k) v past = ap (λ ys. x ∷ ys) (set-beyond xs k v (omega arith))

get_or-beyond : {X : Type 0} (xs : List X) (k : ℕ) (d : X) → length xs ≤ k → get_or xs k d ≡ d
get_or-beyond [] k d past = refl
get_or-beyond (x ∷ xs) zero d past = absurd (omega arith)
get_or-beyond (x ∷ xs) (suc k) d past = get_or-beyond xs k d (omega arith)

idle-turn : (m : Setup) (s : System) (refused : Bool) (k : ℕ) → length s.locals ≤ k → after_step m refused s k idle ≡ s
idle-turn m s refused k past =
    let words = set-get_or s.words 0 0 in
    let locals = set-beyond s.locals k idle past in
    λ i. record { words = words i; value = s.value; locals = locals i }

no-turn : (m : Setup) (s : System) (pick : Pick) → length s.locals ≤ pick.worker → turn m s pick ≡ s
no-turn m s pick past = ap (λ l. after_step m pick.refused s pick.worker (begun m pick.tries l)) (get_or-beyond s.locals pick.worker idle past) ∙ idle-turn m s pick.refused pick.worker past

turn_both : (m : Setup) (opening : World) (s : System) (pick : Pick) → IsCoherentSystem m opening s → IsCoherentSystem m opening (turn m s pick) × (map script (turn m s pick).locals ≡ map script s.locals)
turn_both m opening s pick is = elim (cases_lt pick.worker (length s.locals)) [
  | inl below ↦ turn_below m opening s pick below is
  | inr past ↦ subst (λ t. IsCoherentSystem m opening t × (map script t.locals ≡ map script s.locals)) (sym (no-turn m s pick past)) (is, refl)
]

pub turn_keeps : TurnsKeepAll
turn_keeps m opening s pick is = (turn_both m opening s pick is).0

pub run_keeps : RunsKeepAll
run_keeps m opening s [] is = is
run_keeps m opening s (pick ∷ picks) is = (is, run_keeps m opening (turn m s pick) picks (turn_keeps m opening s pick is))

-- after a run
pub run_both : (m : Setup) (opening : World) (s : System) (picks : List Pick) → IsCoherentSystem m opening s → IsCoherentSystem m opening (run m s picks) × (map script (run m s picks).locals ≡ map script s.locals)
run_both m opening s [] is = (is, refl)
run_both m opening s (pick ∷ picks) is =
    let t = turn_both m opening s pick is in
    let r = run_both m opening (turn m s pick) picks t.0 in
    (r.0, r.1 ∙ t.1)
