-- A turn of any worker keeps the bounds, and so does a run of turns.
use Rattle.std.proofs.Common.{◌≡◌, ℕ, zero, suc, ◌<◌, ◌≤◌, Bool, List, [], ◌∷◌, ◌++◌, length, get_or, set, map, refl, sym, ap, ◌∙◌, subst, arith, inl, inr, Option}
use Rattle.std.specs.Prelude.{All}
use Rattle.std.proofs.lemmas.List.{length-set, length-map, set-get_or, get_or-set_same, get_or-set_other}
use Rattle.std.proofs.lemmas.List.Elements.{All-head, All-tail, All-cons, All-map}
use Rattle.std.proofs.lemmas.Bool.{cases_lt, cases_eq}
use Rattle.slub_object_layout.specs.declared.layout.Flags.{Flags}
use Rattle.slub_core.specs.declared.spot.Spot.TheVariants.{Between}
use Rattle.slub_core.specs.Setup.{Setup}
use Rattle.slub_core.specs.Words.{word_count, number_of, after_op, answer_of}
use Rattle.slub_core.specs.World.{World, LockValue, world_from, world_of}
use Rattle.slub_core.specs.Local.{Local, Worker, noted}
use Rattle.slub_core.specs.Steps.{step_of, advance_at, advance_of, at_once, begun}
use Rattle.slub_core.specs.Run.{System, Pick, idle, after_step, turn, run}
use Rattle.slub_core.specs.Coherent.{Stands}
use Rattle.slub_core.specs.Accounted.{IsAccounted}
use Rattle.slub_core.specs.Law.{TakesStep, IsCoherentSystem}
use Rattle.slub_core.proofs.Accounts.{Comes}
use Rattle.slub_core.proofs.Among.{All-middle, All-back, to_front}
use Rattle.slub_core.proofs.Begin.{begin}
use Rattle.slub_core.proofs.Dispatch.{leads}
use Rattle.slub_core.proofs.Leads.{at_work, table}
use Rattle.slub_core.proofs.MayBegin.{may_begin}
use Rattle.slub_core.proofs.Noted.{noted-comes}
use Rattle.slub_core.proofs.Rests.{joined}
use Rattle.slub_core.proofs.TaleBegin.{told_begin, accounted_to_front}
use Rattle.slub_core.proofs.TaleSettled.{comes_once}
use Rattle.slub_core.proofs.Tells.{turn-tells}
use Rattle.slub_core.proofs.Turns.{split, turn_keeps}
use Rattle.slub_law_opening.specs.Bounded.{IsWithin, IsUnused, IsBounded}
use Rattle.slub_law_opening.specs.BoundLaws.{TurnsKeepBounds, RunsKeepBounds}
use Rattle.slub_law_opening.proofs.Idle.{IsOfMachine, unused-stays}
use Rattle.slub_law_opening.proofs.Carried.{SameNode, Carries, answered-carries, rested-keeps, begun-within, begun-worker, step-carries, once-carries, other-within}

-- ---- a step of a worker that is in a call or has nothing to do

of-machine : (m : Setup) (value : ℕ → LockValue) (words : List ℕ) (x : Worker) (others : List Worker) → Stands (world_of m value words) (x ∷ others) → IsOfMachine m x.local x.local.spot
unfolding world_of world_from
of-machine m value words x others s =
    let ok = at_work (world_of m value words) x others s in
    let setup = s.fresh.setup in
    record { frames = setup.frames.0; cpus = setup.cpus.1; cpu = ok.spot.cpu; plain = λ is. (ok.spot.plain is).0; checked = λ is. (ok.spot.checked is).0 }

cpu_words-of : (m : Setup) (value : ℕ → LockValue) (words : List ℕ) (xs : List Worker) → Stands (world_of m value words) xs → m.cpu_words ≡ 512
unfolding world_of world_from
cpu_words-of m value words xs s = s.fresh.setup.cpu_words

steps-carry : (opening : World) (m : Setup) (flags : ℕ → Option Flags) (old : ℕ → LockValue) (number : ℕ) (value : ℕ → LockValue) (words : List ℕ) (refused : Bool) (x : Worker) (others : List Worker) → length words ≡ word_count m → ((cache : ℕ) → (m.layout cache).cpu_partial_slabs ≤ 8192)
    → length m.plain ≤ 32 → Stands (world_of m value words) (x ∷ others) → IsAccounted opening (world_of m value words) (x ∷ others) → Carries m flags old number others value x.local
    → let step = step_of m value x.local in let q = get_or words (number_of m step.place) 0 in let c = advance_of m refused value x.local (answer_of step.op q) in Carries m flags old number others c.value c.local
unfolding world_of world_from
steps-carry opening m flags old number value words refused x others long tuned plain s ac ok =
    let step = step_of m value x.local in
    let n = number_of m step.place in
    let q = get_or words n 0 in
    let a = answer_of step.op q in
    let after = set words n (after_op step.op q) in
    let turn = advance_at m value x.local x.local.spot a in
    let led = leads x.local.spot opening m value words x others (table m value words x others long s) refl s ac in
    let w = world_of m value after in
    let l = noted turn.local turn.reply in
    let comes : Comes opening w others l = (noted-comes w others turn.local turn.reply (turn-tells m value x.local x.local.spot a) led.0, led.1) in
    let stepped = step-carries opening m flags old number value words x others tuned plain s ac ok in
    let first = at_once m refused value l l.spot in
    let once = once-carries opening w refused flags old number l others plain comes stepped in
    let v = world_of m first.value after in
    let k = noted first.local first.reply in
    let twice = once-carries opening v refused flags old number k others plain (comes_once opening w refused others l comes) once in
    let second = at_once m refused first.value k k.spot in
    rested-keeps (Carries m flags old number others second.value) (λ l r ok. answered-carries m flags old number others second.value l r ok) m (noted second.local second.reply) twice

-- ---- lists of workers

pub All-unmap : {X Y : Type 0} (P : Y → Type 0) (f : X → Y) (xs : List X) → All P (map f xs) → All (λ x. P (f x)) xs
All-unmap P f [] all = λ k d below. absurd (omega arith)
All-unmap P f (x ∷ xs) all = All-cons (λ x. P (f x)) x xs (All-head P (f x) (map f xs) all) (All-unmap P f xs (All-tail P (f x) (map f xs) all))

map-append : {X Y : Type 0} (f : X → Y) (front back : List X) → map f (front ++ back) ≡ map f front ++ map f back
map-append f [] back = refl
map-append f (x ∷ front) back = ap (λ ys. f x ∷ ys) (map-append f front back)

pub map-set : {X Y : Type 0} (f : X → Y) (front back : List X) (x z : X) → set (map f (front ++ x ∷ back)) (length front) (f z) ≡ map f (front ++ z ∷ back)
map-set f [] back x z = refl
map-set f (y ∷ front) back x z = ap (λ ys. f y ∷ ys) (map-set f front back x z)

map-get_or : {X Y : Type 0} (f : X → Y) (front back : List X) (x : X) (d : Y) → get_or (map f (front ++ x ∷ back)) (length front) d ≡ f x
map-get_or f [] back x d = refl
map-get_or f (y ∷ front) back x d = map-get_or f front back x d

-- others keep theirs where two facts of each make a third
All-with : {X : Type 0} (P Q R : X → Type 0) → ((x : X) → P x → Q x → R x) → (xs : List X) → All P xs → All Q xs → All R xs
All-with P Q R step xs p q = λ k d below. step (get_or xs k d) (p k d below) (q k d below)

-- ---- a turn

-- the machine as its turn begins: the worker in its call, among the others
pub record Begun (m : Setup) (opening : World) (s : System) (pick : Pick) : Type 0 where
  pub front : List Worker
  pub back : List Worker
  pub was : Worker
  pub x : Worker
  pub at : length front ≡ pick.worker
  pub locals : map (λ (x : Worker). x.local) (front ++ was ∷ back) ≡ s.locals
  pub local : x.local ≡ begun m pick.tries (get_or s.locals pick.worker idle)
  pub stands : Stands (world_of m s.value s.words) (x ∷ (front ++ back))
  pub accounted : IsAccounted opening (world_of m s.value s.words) (x ∷ (front ++ back))

pub has-begun : (m : Setup) (opening : World) (s : System) (pick : Pick) → pick.worker < length s.locals → IsCoherentSystem m opening s → Begun m opening s pick
unfolding world_of world_from
has-begun m opening s pick below is =
    let r = split is.workers pick.worker (let e = ap (λ ls. length ls) is.locals in let g = length-map is.workers (λ (x : Worker). x.local) in omega arith) in
    let w = world_of m s.value s.words in
    let all : Stands w is.workers = record { chains = is.chains; placed = is.coherent.placed; listed = is.coherent.listed; fresh = is.coherent.fresh } in
    by_split r.0 r.2 r.1 r.4 (sym (ap (map (λ (x : Worker). x.local)) r.3) ∙ is.locals) (subst (Stands w) r.3 all) (subst (IsAccounted opening w) r.3 is.coherent.accounted)
  where
    by_split : (front back : List Worker) (x : Worker) → length front ≡ pick.worker → map (λ (x : Worker). x.local) (front ++ x ∷ back) ≡ s.locals → Stands (world_of m s.value s.words) (front ++ x ∷ back) → IsAccounted opening (world_of m s.value s.words) (front ++ x ∷ back)
        → Begun m opening s pick
    by_split front back x at locals all ac =
        let w = world_of m s.value s.words in
        let k = pick.worker in
        let l = get_or s.locals k idle in
        let others = front ++ back in
        let mine : x.local ≡ l = sym (map-get_or (λ (x : Worker). x.local) front back x idle) ∙ ap (λ ls. get_or ls (length front) idle) locals ∙ ap (λ n. get_or s.locals n idle) at in
        let rest = subst (λ l. l.spot ≡ Between → TakesStep m l l.todo) (sym mine) (is.rested k idle below) in
        let stood = to_front w front back x all in
        let agrees = accounted_to_front opening w front back x ac in
        let began = subst (λ l. Comes opening w others (begun m pick.tries l)) mine (begin pick.tries w x others stood (λ _. may_begin opening w x others agrees) rest, told_begin pick.tries opening w x others rest agrees) in
        let y = joined opening w others (begun m pick.tries l) began in
        record { front = front; back = back; was = x; x = y.0; at = at; locals = locals; local = y.1; stands = y.2; accounted = y.3 }

turn_below : (m : Setup) (flags : ℕ → Option Flags) (opening : World) (s : System) (pick : Pick) → pick.worker < length s.locals → IsCoherentSystem m opening s → IsBounded m flags s → IsBounded m flags (turn m s pick)
turn_below m flags opening s pick below is ok =
    let b = has-begun m opening s pick below is in
    let k = pick.worker in
    let l = get_or s.locals k idle in
    let f = λ (x : Worker). x.local in
    let others = b.front ++ b.back in
    let all = All-unmap (IsWithin m s.value) f (b.front ++ b.was ∷ b.back) (subst (All (IsWithin m s.value)) (sym b.locals) ok.workers) in
    let rest = All-tail (λ (x : Worker). IsWithin m s.value x.local) b.was others (All-middle (λ (x : Worker). IsWithin m s.value x.local) b.front b.back b.was all) in
    let begins : Carries m flags s.value k others s.value (begun m pick.tries l) =
    record { within = begun-within m pick.tries s.value l (ok.workers k idle below); worker = begun-worker m pick.tries l ∙ ok.numbers k below; flags = ok.flags; others = λ k d below has. refl } in
    let step = step_of m s.value (begun m pick.tries l) in
    let n = number_of m step.place in
    let q = get_or s.words n 0 in
    let c = advance_of m pick.refused s.value (begun m pick.tries l) (answer_of step.op q) in
    let carried : Carries m flags s.value k others c.value c.local =
    subst (λ b. let step = step_of m s.value b in let q = get_or s.words (number_of m step.place) 0 in let c = advance_of m pick.refused s.value b (answer_of step.op q) in Carries m flags s.value k others c.value c.local) b.local
    (steps-carry opening m flags s.value k s.value s.words pick.refused b.x others is.words ok.tuned ok.plain b.stands b.accounted (subst (Carries m flags s.value k others s.value) (sym b.local) begins)) in
    let after = set s.words n (after_op step.op q) in
    let same : set s.locals k c.local ≡ map f (b.front ++ record b.was { local = c.local } ∷ b.back) =
    ap (λ ls. set ls k c.local) (sym b.locals) ∙ ap (λ n. set (map f (b.front ++ b.was ∷ b.back)) n c.local) (sym b.at) ∙ map-set f b.front b.back b.was (record b.was { local = c.local }) in
    let now = All-with (λ (x : Worker). IsWithin m s.value x.local) (SameNode s.value c.value) (λ (x : Worker). IsWithin m c.value x.local) (λ o was same. other-within m s.value c.value o same was) others rest carried.others in
    record {
      tuned = ok.tuned;
      plain = ok.plain;
      unused = λ j under past.
          subst (λ b. let step = step_of m s.value b in let n = number_of m step.place in IsUnused (world_of m c.value (set s.words n (after_op step.op (get_or s.words n 0)))) j) b.local
          (unused-stays m s.value c.value s.words b.x.local b.x.local.spot _ j (of-machine m s.value s.words b.x others b.stands) (cpu_words-of m s.value s.words (b.x ∷ others) b.stands) under past (ok.unused j under past));
      numbers = λ j under. number j (subst (λ n. j < n) (length-set s.locals k c.local) under) c.local carried.worker;
      workers = subst (All (IsWithin m c.value)) (sym same)
          (All-map (IsWithin m c.value) f (b.front ++ record b.was { local = c.local } ∷ b.back)
          (All-back (λ (x : Worker). IsWithin m c.value x.local) b.front b.back (record b.was { local = c.local }) (All-cons (λ (x : Worker). IsWithin m c.value x.local) (record b.was { local = c.local }) others carried.within now)));
      flags = carried.flags;
    }
  where
    number : (j : ℕ) → j < length s.locals → (v : Local) → v.worker ≡ pick.worker → (get_or (set s.locals pick.worker v) j idle).worker ≡ j
    number j under v e = elim (cases_eq j pick.worker) [
      | inl same ↦ subst (λ n. (get_or (set s.locals pick.worker v) n idle).worker ≡ n) (sym same) (ap (λ (l : Local). l.worker) (get_or-set_same s.locals pick.worker v idle below) ∙ e)
      | inr d ↦ ap (λ (l : Local). l.worker) (get_or-set_other s.locals pick.worker j v idle d) ∙ ok.numbers j under
    ]

-- a pick of no worker changes nothing
set-beyond : {X : Type 0} (xs : List X) (k : ℕ) (v : X) → length xs ≤ k → set xs k v ≡ xs
set-beyond [] k v past = refl
set-beyond (x ∷ xs) zero v past = absurd (omega arith)
set-beyond (x ∷ xs) (suc k) v past = ap (λ ys. x ∷ ys) (set-beyond xs k v (omega arith))

pub get_or-beyond : {X : Type 0} (xs : List X) (k : ℕ) (d : X) → length xs ≤ k → get_or xs k d ≡ d
get_or-beyond [] k d past = refl
get_or-beyond (x ∷ xs) zero d past = absurd (omega arith)
get_or-beyond (x ∷ xs) (suc k) d past = get_or-beyond xs k d (omega arith)

idle-turn : (m : Setup) (s : System) (refused : Bool) (k : ℕ) → length s.locals ≤ k → after_step m refused s k idle ≡ s
idle-turn m s refused k past =
    let words = set-get_or s.words 0 0 in
    let locals = set-beyond s.locals k idle past in
    λ i. record { words = words i; value = s.value; locals = locals i }

pub no-turn : (m : Setup) (s : System) (pick : Pick) → length s.locals ≤ pick.worker → turn m s pick ≡ s
no-turn m s pick past = ap (λ l. after_step m pick.refused s pick.worker (begun m pick.tries l)) (get_or-beyond s.locals pick.worker idle past) ∙ idle-turn m s pick.refused pick.worker past

pub turn-bounded : TurnsKeepBounds
turn-bounded m flags opening s pick is ok = elim (cases_lt pick.worker (length s.locals)) [
  | inl below ↦ turn_below m flags opening s pick below is ok
  | inr past ↦ subst (IsBounded m flags) (sym (no-turn m s pick past)) ok
]

-- ---- a run

pub run-bounded : RunsKeepBounds
run-bounded m flags opening s [] is ok = ok
run-bounded m flags opening s (pick ∷ picks) is ok = (ok, run-bounded m flags opening (turn m s pick) picks (turn_keeps m opening s pick is) (turn-bounded m flags opening s pick is ok))

-- after a run
pub after-bounded : (m : Setup) (flags : ℕ → Option Flags) (opening : World) (s : System) (picks : List Pick) → IsCoherentSystem m opening s → IsBounded m flags s → IsBounded m flags (run m s picks)
after-bounded m flags opening s [] is ok = ok
after-bounded m flags opening s (pick ∷ picks) is ok = after-bounded m flags opening (turn m s pick) picks (turn_keeps m opening s pick is) (turn-bounded m flags opening s pick is ok)
