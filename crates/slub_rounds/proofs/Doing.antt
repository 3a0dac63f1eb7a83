-- The workers do the events in their order: whose turn is next, and what is done of them.
use Rattle.std.proofs.Common.{◌≡◌, ◌≢◌, ℕ, zero, suc, ◌+◌, ◌-◌, ◌^◌, ◌<◌, ◌≤◌, ◌==◌, Bool, true, false, cond, List, [], ◌∷◌, ◌++◌, length, take, get_or, set, replicate, Option, Some, None, All, refl, sym, ap, ◌∙◌, subst, arith, inl, inr}
use Rattle.std.specs.Prelude.{nat_lt}
use Rattle.std.specs.List.{range_with_len}
use Rattle.std.specs.Option.{option_or}
use Rattle.std.proofs.lemmas.Bool.{cases_Bool, cases_eq, cases_lt, and_cases, and_from, and_parts, eq-eqb, ne_eqb, ltb-true, ltb-false, lt-ltb, false≢true}
use Rattle.std.proofs.lemmas.List.{get_or-set_same, get_or-set_other, length-append, length-map, length-replicate, length-set, take_all}
use Rattle.std.proofs.lemmas.List.Elements.{All-from_get_or}
use Rattle.std.proofs.lemmas.List.Filters.{length-filter_more}
use Rattle.std.proofs.lemmas.List.FromFn.{get_or-map-range_with_len, length-range_with_len}
use Rattle.std.proofs.Math.ListN.{get_or-map}
use mir.Syntax.{w64}
use mir.Val.{Fits}
use Rattle.slub_common.proofs.Writes.{get_or-replicate_any}
use Rattle.slub_trace.specs.declared.event.Event.{Event}
use Rattle.slub_trace.specs.declared.event.Round.{Round}
use Rattle.slub_trace.specs.declared.trace.Trace.{Trace}
use Rattle.slub_cache_create.specs.Table.{Table}
use Rattle.slub_lists.specs.State.{State}
use Rattle.slub_core.specs.declared.call.Call.{Call}
use Rattle.slub_core.specs.declared.spot.Spot.{Spot}
use Rattle.slub_core.specs.declared.spot.Spot.TheVariants.{Between}
use Rattle.slub_core.specs.Setup.{Setup}
use Rattle.slub_core.specs.World.{World, update}
use Rattle.slub_core.specs.Local.{Local}
use Rattle.slub_core.specs.Law.{IsCoherentSystem}
use Rattle.slub_core.specs.Run.{System, Pick, idle, run, turn, IsFinished}
use Rattle.slub_core.specs.Steps.{rested}
use Rattle.slub_core.proofs.CallsStay.{script, rested_at-script}
use Rattle.slub_core.proofs.Turns.{run_both}
use Rattle.slub_core.proofs.Update.{update_same, update_other}
use Rattle.slub_schedule.specs.Schedule.{is_between, unfinished, IsCall}
use Rattle.slub_schedule.specs.Turns.{turns_of}
use Rattle.slub_schedule.proofs.Picks.{all_finished}
use Rattle.slub_law_opening.proofs.Turns.{get_or-beyond}
use Rattle.slub_calls.specs.Calls.{events_by, worker_of, workers_of}
use Rattle.slub_open_close.specs.declared.beside.Beside.{Beside}
use Rattle.slub_open_close.specs.declared.opened.Rest.{Rest}
use Rattle.slub_turns.specs.declared.machine.StepMachine.{StepMachine}
use Rattle.slub_law_opening.specs.Opening.{setup_of}
use Rattle.slub_rounds.specs.Doing.{AreUnder, AwaitsEvents, ComesThrough, HasTurned, StaysUnder, is_through, local_at}
use Rattle.slub_rounds.specs.InOrder.{AreInOrder, EndsInOrder, IsSpentInOrder, answered, busy_from, next_in, next_worker}
use Rattle.slub_rounds.specs.Machine.{IsBegun, MayRun, beside_in}
use Rattle.slub_rounds.proofs.Telling.{in_order-length, inside-round, none-by}
use Rattle.slub_rounds.proofs.Threads.{all-between}

-- ---- how many events a worker has

abbrev pub count : ℕ → List Event → ℕ
count worker events = length (events_by worker events)

pub count-own : (e : Event) (es : List Event) (v : ℕ) → e.worker ≡ v → count v (e ∷ es) ≡ suc (count v es)
count-own e es v is = rw (eq-eqb e.worker v is) refl

pub count-other : (e : Event) (es : List Event) (v : ℕ) → e.worker ≢ v → count v (e ∷ es) ≡ count v es
count-other e es v other = rw (ne_eqb e.worker v other) refl

-- among one event more
pub more-own : (es : List Event) (k v : ℕ) (d : Event) → k < length es → (get_or es k d).worker ≡ v → count v (take (k + 1) es) ≡ count v (take k es) + 1
more-own es k v d below is =
    length-filter_more (λ (e : Event). e.worker == v) es k d below
    ∙ ap (λ (b : Bool). count v (take k es) + cond b 1 0) (eq-eqb (get_or es k d).worker v is)

pub more-other : (es : List Event) (k v : ℕ) (d : Event) → k < length es → (get_or es k d).worker ≢ v → count v (take (k + 1) es) ≡ count v (take k es)
more-other es k v d below other =
    length-filter_more (λ (e : Event). e.worker == v) es k d below
    ∙ ap (λ (b : Bool). count v (take k es) + cond b 1 0) (ne_eqb (get_or es k d).worker v other) ∙ (let e : count v (take k es) + 0 ≡ count v (take k es) = omega arith in e)

pub few-taken : (es : List Event) (n v : ℕ) → count v (take n es) ≤ count v es
few-taken [] zero v = omega arith
few-taken [] (suc n) v = omega arith
few-taken (e ∷ es) zero v = omega arith
few-taken (e ∷ es) (suc n) v = elim (cases_eq e.worker v) [
  | inl own ↦ omega (arith, count-own e (take n es) v own, count-own e es v own, few-taken es n v)
  | inr other ↦ omega (arith, count-other e (take n es) v other, count-other e es v other, few-taken es n v)
]

-- ---- whose turn is next

-- where all but one worker have replies to their events among the first n, and that one has not, the
-- first event without a reply is its
pub next-is : (es : List Event) (n w : ℕ) (answers : ℕ → ℕ) → ((v : ℕ) → v ≢ w → count v (take n es) ≤ answers v) → answers w < count w (take n es) → next_worker es answers ≡ Some w
next-is [] zero w answers others less = absurd (let never : ⊥ = omega (arith, less) in never)
next-is [] (suc n) w answers others less = absurd (let never : ⊥ = omega (arith, less) in never)
next-is (e ∷ es) zero w answers others less = absurd (let never : ⊥ = omega (arith, less) in never)
next-is (e ∷ es) (suc n) w answers others less =
    let x = answers e.worker in
    elim (cases_eq e.worker w) [
      | inl own ↦ elim (cases_eq x 0) [
        | inl none ↦ rw (eq-eqb x 0 none) (ap Some own)
        | inr some ↦
            let same : answers e.worker ≡ answers w = ap answers own in
            let now : update answers e.worker (x - 1) w ≡ x - 1 = subst (λ k. update answers e.worker (x - 1) k ≡ x - 1) own (update_same answers e.worker (x - 1)) in
            rw (ne_eqb x 0 some) (next-is es n w (update answers e.worker (x - 1))
            (λ v other.
            let away : e.worker ≢ v = λ is. other (sym is ∙ own) in
            omega (arith, update_other answers e.worker (x - 1) v (λ is. away (sym is)), count-other e (take n es) v away, others v other))
            (omega (arith, now, same, some, count-own e (take n es) w own, less)))
      ]
      | inr away ↦
          let mine : count e.worker (e ∷ take n es) ≡ suc (count e.worker (take n es)) = count-own e (take n es) e.worker refl in
          let had : count e.worker (e ∷ take n es) ≤ x = others e.worker away in
          rw (ne_eqb x 0 (λ none. absurd (let never : ⊥ = omega (arith, none, mine, had) in never))) (next-is es n w (update answers e.worker (x - 1))
          (λ v other. elim (cases_eq v e.worker) [
            | inl is ↦
                let now : update answers e.worker (x - 1) v ≡ x - 1 = subst (λ k. update answers e.worker (x - 1) k ≡ x - 1) (sym is) (update_same answers e.worker (x - 1)) in
                let same : count v (take n es) ≡ count e.worker (take n es) = ap (λ k. count k (take n es)) is in
                omega (arith, now, same, mine, had)
            | inr not ↦ omega (arith, update_other answers e.worker (x - 1) v not, count-other e (take n es) v (λ is. not (sym is)), others v other)
          ])
          (omega (arith, update_other answers e.worker (x - 1) w (λ is. away (sym is)), count-other e (take n es) w away, less)))
    ]

pub none-busy : (n : ℕ) (ls : List Local) → ((v : ℕ) → (get_or ls v idle).spot ≡ Between) → busy_from n ls ≡ None
none-busy n [] all = refl
none-busy n (l ∷ ls) all =
    let first : is_between l.spot ≡ true = ap is_between (all 0) in
    rw first (none-busy (suc n) ls (λ v. all (suc v)))

one-busy : (n w : ℕ) (ls : List Local) → w < length ls → is_between (get_or ls w idle).spot ≡ false → ((v : ℕ) → v ≢ w → (get_or ls v idle).spot ≡ Between) → busy_from n ls ≡ Some (n + w)
one-busy n w [] below busy others = absurd (let never : ⊥ = omega (arith, below) in never)
one-busy n zero (l ∷ ls) below busy others =
    let first : is_between l.spot ≡ false = busy in
    let same : n ≡ n + 0 = omega arith in
    rw first (ap Some same)
one-busy n (suc w) (l ∷ ls) below busy others =
    let first : is_between l.spot ≡ true = ap is_between (others 0 (λ is. absurd (let never : ⊥ = omega (arith, is) in never))) in
    let same : suc n + w ≡ n + suc w = omega arith in
    let under : w < length ls = omega (arith, below) in
    rw first (one-busy (suc n) w ls under busy (λ v other. others (suc v) (λ is. other (let e : v ≡ w = omega (arith, is) in e))) ∙ ap Some same)

pub between-spot : (s : Spot) → is_between s ≡ true → s ≡ Between
between-spot Between is = refl
between-spot _ is = absurd (false≢true is)

next-busy : (es : List Event) (s : System) (w : ℕ) → w < length s.locals → is_between (local_at s w).spot ≡ false → ((v : ℕ) → v ≢ w → (local_at s v).spot ≡ Between) → next_in es s ≡ Some w
next-busy es s w below busy others =
    let same : 0 + w ≡ w = omega arith in
    ap (λ (o : Option ℕ). option_or o (next_worker es (answered s))) (one-busy 0 w s.locals below busy others) ∙ ap Some same

pub next-free : (es : List Event) (s : System) (w : ℕ) → ((v : ℕ) → (local_at s v).spot ≡ Between) → next_worker es (answered s) ≡ Some w → next_in es s ≡ Some w
next-free es s w free is = ap (λ (o : Option ℕ). option_or o (next_worker es (answered s))) (none-busy 0 s.locals free) ∙ is

-- ---- the turns of one worker

pub turn-long : (m : Setup) (s : System) (pick : Pick) → length (turn m s pick).locals ≡ length s.locals
turn-long m s pick = length-set s.locals pick.worker _

turn-other : (m : Setup) (s : System) (pick : Pick) (v : ℕ) → v ≢ pick.worker → local_at (turn m s pick) v ≡ local_at s v
turn-other m s pick v other = get_or-set_other s.locals pick.worker v _ idle other

-- by them the others stay as they are, and they are in the order of the text where the others have
-- the replies to their events among the first n, and are in no call
pub record Leads (m : Setup) (es : List Event) (w : ℕ) (s t : System) (picks : List Pick) : Type 0 where
  pub in_order : AreInOrder m es s picks
  pub long : length t.locals ≡ length s.locals
  pub others : (v : ℕ) → v ≢ w → local_at t v ≡ local_at s v

pub leads : (m : Setup) (es : List Event) (n w passed : ℕ) (s : System) (picks : List Pick) → w < length s.locals → ((v : ℕ) → v ≢ w → (local_at s v).spot ≡ Between) → ((v : ℕ) → v ≢ w → count v (take n es) ≤ answered s v)
    → passed < count w (take n es) → AreUnder m w passed s picks → Leads m es w s (run m s picks) picks
leads m es n w passed s [] below free had less under = record { in_order = tt; long = refl; others = λ v other. refl }
leads m es n w passed s (pick ∷ picks) below free had less under =
    let t = turn m s pick in
    let mine : pick.worker ≡ w = under.0 in
    let away : (v : ℕ) → v ≢ w → v ≢ pick.worker = λ v other is. other (is ∙ mine) in
    let stay : (v : ℕ) → v ≢ w → local_at t v ≡ local_at s v = λ v other. turn-other m s pick v (away v other) in
    let long : length t.locals ≡ length s.locals = turn-long m s pick in
    let rest = leads m es n w passed t picks (omega (arith, long, below))
    (λ v other. ap (λ (l : Local). l.spot) (stay v other) ∙ free v other)
    (λ v other. subst (λ k. count v (take n es) ≤ k) (sym (ap (λ (l : Local). length l.done) (stay v other))) (had v other))
    less under.3 in
    record {
      in_order = (next ∙ ap Some (sym mine), under.1, rest.in_order);
      long = rest.long ∙ long;
      others = λ v other. rest.others v other ∙ stay v other;
    }
  where
    next : next_in es s ≡ Some w
    next = elim (cases_Bool (is_between (local_at s w).spot)) [
      | inr busy ↦ next-busy es s w below busy free
      | inl so ↦ elim (and_cases (is_between (local_at s w).spot) (nat_lt passed (answered s w)) under.2) [
        | inl not ↦ absurd (false≢true (sym not ∙ so))
        | inr few ↦
            let late : answered s w ≤ passed = ltb-false passed (answered s w) few in
            next-free es s w
            (λ v. elim (cases_eq v w) [
              | inl is ↦ subst (λ k. (local_at s k).spot ≡ Between) (sym is) (between-spot (local_at s w).spot so)
              | inr other ↦ free v other
            ])
            (next-is es n w (answered s) had (omega (arith, late, less)))
      ]
    ]

-- ---- the turns of a round

pub order-more : (m : Setup) (es : List Event) (s : System) (ps qs : List Pick) → AreInOrder m es s ps → AreInOrder m es (run m s ps) qs → AreInOrder m es s (ps ++ qs)
order-more m es s [] qs one other = other
order-more m es s (p ∷ ps) qs one other = (one.0, one.1, order-more m es (turn m s p) ps qs one.2 other)

pub run-more : (m : Setup) (s : System) (ps qs : List Pick) → run m s (ps ++ qs) ≡ run m (run m s ps) qs
run-more m s [] qs = refl
run-more m s (p ∷ ps) qs = run-more m (turn m s p) ps qs

under-more : (m : Setup) (w passed : ℕ) (s : System) (ps : List Pick) (pick : Pick) → AreUnder m w passed s ps → pick.worker ≡ w → IsCall pick → is_through passed (local_at (run m s ps) w) ≡ false → AreUnder m w passed s (ps ++ pick ∷ [])
under-more m w passed s [] pick under is call not = (is, call, not, tt)
under-more m w passed s (p ∷ ps) pick under is call not = (under.0, under.1, under.2, under-more m w passed (turn m s p) ps pick under.3 is call not)

pub turned-none : (m : Setup) (w passed : ℕ) (s : System) (made : ℕ) → HasTurned m w passed s s made made
turned-none m w passed s made = record { picks = []; under = tt; run = refl; count = (let e : made + 0 ≡ made = omega arith in e) }

pub turned-more : (m k : Setup) (w passed : ℕ) (first s t : System) (made now : ℕ) (refused : Bool) → HasTurned m w passed first s made now → k ≡ m → is_through passed (local_at s w) ≡ false
    → t ≡ turn k s (record { worker = w; refused = refused; tries = false }) → HasTurned m w passed first t made (now + 1)
turned-more m k w passed first s t made now refused turned same not is =
    let pick : Pick = record { worker = w; refused = refused; tries = false } in
    let ps = turned.picks in
    let long : length (ps ++ pick ∷ []) ≡ length ps + 1 = length-append ps (pick ∷ []) in
    record {
      picks = ps ++ pick ∷ [];
      under = under-more m w passed first ps pick turned.under refl refl (subst (λ (x : System). is_through passed (local_at x w) ≡ false) turned.run not);
      run = is ∙ (λ i. turn (same i) (turned.run i) pick) ∙ sym (run-more m first ps (pick ∷ []));
      count = omega (arith, long, turned.count);
    }

-- ---- the events that are done

-- the first k events are done, by so many turns; by worker, how many of its events these are
pub record HasDone (m : Setup) (es : List Event) (first : System) (k made : ℕ) (passed : List ℕ) (s : System) : Type 0 where
  pub picks : List Pick
  pub in_order : AreInOrder m es first picks
  pub run : s ≡ run m first picks
  pub count_is : length picks ≡ made
  pub workers : length s.locals ≡ length first.locals
  pub between : (v : ℕ) → (local_at s v).spot ≡ Between
  pub long : length passed ≡ length first.locals
  pub passes : (v : ℕ) → v < length passed → get_or passed v 0 ≡ count v (take k es)
  pub replies : (v : ℕ) → count v (take k es) ≤ answered s v

pub done-none : (m : Setup) (es : List Event) (first : System) (passed : List ℕ) → AwaitsEvents es first.locals → passed ≡ replicate (length first.locals) 0 → HasDone m es first 0 0 passed first
done-none m es first passed awaits is = record {
  picks = [];
  in_order = tt;
  run = refl;
  count_is = refl;
  workers = refl;
  between = awaits.between;
  long = ap (λ (xs : List ℕ). length xs) is ∙ length-replicate (length first.locals) 0;
  passes = λ v below. ap (λ (xs : List ℕ). get_or xs v 0) is ∙ get_or-replicate_any (length first.locals) v 0;
  replies = λ v. omega arith;
}

-- each worker has as many calls as events throughout
pub calls-stay : (m : Setup) (opening : World) (first : System) (picks : List Pick) (es : List Event) → IsCoherentSystem m opening first → AwaitsEvents es first.locals → (v : ℕ)
    → length (local_at (run m first picks) v).done + length (local_at (run m first picks) v).todo ≡ count v es
calls-stay m opening first picks es coherent awaits v =
    let last = run m first picks in
    let both = (run_both m opening first picks coherent).1 in
    let same : script (local_at last v) ≡ script (local_at first v) = sym (get_or-map script last.locals v idle) ∙ ap (λ (cs : List (List Call)). get_or cs v []) both ∙ get_or-map script first.locals v idle in
    sym (in_order-length (local_at last v).done (local_at last v).todo) ∙ ap (λ (cs : List Call). length cs) same ∙ in_order-length (local_at first v).done (local_at first v).todo ∙ awaits.calls v

-- the next event is that of this worker, which comes through
module _ (m k : Setup) (es : List Event) (first s t : System) (i made now turns : ℕ) (passed : List ℕ) (d : Event) (w before : ℕ)
    (done : HasDone m es first i made passed s) (same : k ≡ m) (below : i < length es) (mine : (get_or es i d).worker ≡ w) (there : w < length first.locals) (had : before ≡ get_or passed w 0) where
  counted : before ≡ count w (take i es)
  counted = had ∙ done.passes w (omega (arith, there, done.long))

  others-had : (v : ℕ) → v ≢ w → count v (take (i + 1) es) ≤ answered s v
  others-had v other = omega (arith, more-other es i v d below (λ is. other (sym is ∙ mine)), done.replies v)

  less : before < count w (take (i + 1) es)
  less = omega (arith, more-own es i w d below mine, counted)

  all-lead : (n : ℕ) (turned : HasTurned k w before s t made n) → Leads m es w s t turned.picks
  all-lead n turned =
      let under : AreUnder m w before s turned.picks = subst (λ (x : Setup). AreUnder x w before s turned.picks) same turned.under in
      let ran : run m s turned.picks ≡ t = sym (turned.run ∙ ap (λ (x : Setup). run x s turned.picks) same) in
      subst (λ (x : System). Leads m es w s x turned.picks) ran
      (leads m es (i + 1) w before s turned.picks (omega (arith, there, done.workers)) (λ v other. done.between v) others-had less under)

  all-in-order : (n : ℕ) (turned : HasTurned k w before s t made n) → AreInOrder m es first (done.picks ++ turned.picks)
  all-in-order n turned = order-more m es first done.picks turned.picks done.in_order
      (subst (λ (x : System). AreInOrder m es x turned.picks) done.run (all-lead n turned).in_order)

  all-run : (n : ℕ) (turned : HasTurned k w before s t made n) → t ≡ run m first (done.picks ++ turned.picks)
  all-run n turned = turned.run ∙ (λ j. run (same j) (done.run j) turned.picks) ∙ sym (run-more m first done.picks turned.picks)

  all-count : (n : ℕ) (turned : HasTurned k w before s t made n) → length (done.picks ++ turned.picks) ≡ n
  all-count n turned = omega (arith, length-append done.picks turned.picks, done.count_is, turned.count)

  pub done-more : ComesThrough k w before s t made now turns → HasDone m es first (i + 1) now (set passed w (before + 1)) t
  done-more comes =
      let turned = comes.turned in
      let led = all-lead now turned in
      let parts = and_parts (is_between (local_at t w).spot) (nat_lt before (answered t w)) comes.through in
      let more : before < answered t w = ltb-true before (answered t w) parts.1 in
      record {
        picks = done.picks ++ turned.picks;
        in_order = all-in-order now turned;
        run = all-run now turned;
        count_is = all-count now turned;
        workers = led.long ∙ done.workers;
        between = λ v. elim (cases_eq v w) [
          | inl is ↦ subst (λ n. (local_at t n).spot ≡ Between) (sym is) (between-spot (local_at t w).spot parts.0)
          | inr other ↦ ap (λ (l : Local). l.spot) (led.others v other) ∙ done.between v
        ];
        long = length-set passed w (before + 1) ∙ done.long;
        passes = λ v inside. elim (cases_eq v w) [
          | inl is ↦ subst (λ n. get_or (set passed w (before + 1)) n 0 ≡ count n (take (i + 1) es)) (sym is)
              (get_or-set_same passed w (before + 1) 0 (omega (arith, there, done.long)) ∙ ap (λ n. n + 1) counted ∙ sym (more-own es i w d below mine))
          | inr other ↦ get_or-set_other passed w v (before + 1) 0 other ∙ done.passes v (omega (arith, inside, length-set passed w (before + 1)))
              ∙ sym (more-other es i v d below (λ is. other (sym is ∙ mine)))
        ];
        replies = λ v. elim (cases_eq v w) [
          | inl is ↦ subst (λ n. count n (take (i + 1) es) ≤ answered t n) (sym is) (omega (arith, more-own es i w d below mine, counted, more))
          | inr other ↦ subst (λ n. count v (take (i + 1) es) ≤ n) (sym (ap (λ (l : Local). length l.done) (led.others v other))) (others-had v other)
        ];
      }

  -- or all turns are made before
  pub done-spent : (opening : World) → IsCoherentSystem m opening first → AwaitsEvents es first.locals → turns ≡ turns_of first → StaysUnder k w before s t made turns → (picks : List Pick) × IsSpentInOrder m es first picks t
  done-spent opening coherent awaits all stays =
      let turned = stays.turned in (
        done.picks ++ turned.picks,
        record {
          in_order = all-in-order turns turned;
          run = all-run turns turned;
          all = all-count turns turned ∙ all;
          unfinished = elim (cases_lt 0 (length (unfinished t))) [
            | inl some ↦ omega (arith, some)
            | inr none ↦ absurd (never (all_finished 0 t.locals (let e : length (unfinished t) ≡ 0 = omega (arith, none) in e)))
          ];
        },
      )
    where
      never : All IsFinished t.locals → ⊥
      never finished =
          let inside : w < length t.locals = omega (arith, there, done.workers, (all-lead turns stays.turned).long) in
          let is : IsFinished (local_at t w) = finished w idle inside in
          let calls = calls-stay m opening first (done.picks ++ stays.turned.picks) es coherent awaits w in
          let same : local_at t w ≡ local_at (run m first (done.picks ++ stays.turned.picks)) w = ap (λ (x : System). local_at x w) (all-run turns stays.turned) in
          let none : length (local_at t w).todo ≡ 0 = ap (λ (cs : List Call). length cs) is.none in
          let replied : answered t w ≡ count w es = omega (arith, calls, ap (λ (l : Local). length l.done + length l.todo) same, none) in
          let late : before < answered t w = omega (arith, replied, less, few-taken es (i + 1) w) in
          false≢true (sym stays.under ∙ and_from (is_between (local_at t w).spot) (nat_lt before (answered t w)) (ap is_between is.between) (lt-ltb before (answered t w) late))

-- the same of an event of the list
module _ (m k : Setup) (es : List Event) (first s t : System) (i made now turns : ℕ) (passed : List ℕ) (event : Event) (before : ℕ)
    (done : HasDone m es first i made passed s) (same : k ≡ m) (below : i < length es) (is : event ≡ get_or es i event) (there : event.worker < length first.locals) (had : before ≡ get_or passed event.worker 0) where
  mine : (get_or es i event).worker ≡ event.worker
  mine = sym (ap (λ (e : Event). e.worker) is)

  pub event-done : ComesThrough k event.worker before s t made now turns → HasDone m es first (i + 1) now (set passed event.worker (before + 1)) t
  event-done comes = done-more m k es first s t i made now turns passed event event.worker before done same below mine there had comes

  pub event-spent : (opening : World) → IsCoherentSystem m opening first → AwaitsEvents es first.locals → turns ≡ turns_of first → StaysUnder k event.worker before s t made turns → (picks : List Pick) × IsSpentInOrder m es first picks t
  event-spent opening coherent awaits all stays = done-spent m k es first s t i made now turns passed event event.worker before done same below mine there had opening coherent awaits all stays

pub event-inside : (workers n : ℕ) (es : List Event) (i : ℕ) (d : Event) → All (λ (e : Event). e.worker < workers) es → i < length es → n ≡ workers → (get_or es i d).worker < n
event-inside workers n es i d all below same = omega (arith, all i d below, same)

count-few : (es : List Event) (n v : ℕ) → count v (take n es) ≤ n
count-few [] zero v = omega arith
count-few [] (suc n) v = omega arith
count-few (e ∷ es) zero v = omega arith
count-few (e ∷ es) (suc n) v = elim (cases_eq e.worker v) [
  | inl own ↦ omega (arith, count-own e (take n es) v own, count-few es n v)
  | inr other ↦ omega (arith, count-other e (take n es) v other, count-few es n v)
]

pub few-done : (m : Setup) (es : List Event) (first s : System) (i made : ℕ) (passed : List ℕ) (d : Event) → HasDone m es first i made passed s → All (λ (e : Event). e.worker < length first.locals) es → i < length es → length es ≤ 2 ^ 32
    → Fits w64 (get_or passed (get_or es i d).worker 0 + 1)
few-done m es first s i made passed d done all below few =
    let w = (get_or es i d).worker in
    omega (arith, done.passes w (omega (arith, all i d below, done.long)), count-few es i w, below, few)

no-calls : (calls : List Call) → length calls ≡ 0 → calls ≡ []
no-calls [] none = refl
no-calls (call ∷ calls) none = absurd (let never : ⊥ = omega (arith, none) in never)

-- all events are done
pub done-all : (m : Setup) (opening : World) (es : List Event) (first s : System) (n made : ℕ) (passed : List ℕ) → IsCoherentSystem m opening first → AwaitsEvents es first.locals → HasDone m es first n made passed s → length es ≤ n → made ≤ turns_of first
    → (picks : List Pick) × EndsInOrder m es first picks s
done-all m opening es first s n made passed coherent awaits done all within = (
  done.picks,
  record {
    in_order = done.in_order;
    run = done.run;
    within = omega (arith, done.count_is, within);
    finished = All-from_get_or IsFinished s.locals idle (λ v below.
        let calls = calls-stay m opening first done.picks es coherent awaits v in
        let same : local_at s v ≡ local_at (run m first done.picks) v = ap (λ (x : System). local_at x v) done.run in
        let whole : count v (take n es) ≡ count v es = ap (count v) (take_all n es all) in
        let none : length (local_at s v).todo ≡ 0 = omega (arith, calls, ap (λ (l : Local). length l.done + length l.todo) same, whole, done.replies v) in
        record { between = done.between v; none = no-calls (local_at s v).todo none });
  },
)

-- ---- the begin

-- each worker has its events as calls
pub events-each : (table : Table) (round : Round) → All (λ (e : Event). e.worker < round.workers) round.events → (v : ℕ)
    → length (get_or (workers_of table round) v idle).done + length (get_or (workers_of table round) v idle).todo ≡ count v round.events
events-each table round inside v =
    let ls = workers_of table round in
    let long : length ls ≡ round.workers = length-map (range_with_len 0 round.workers) (worker_of table round) ∙ length-range_with_len 0 round.workers in
    elim (cases_lt v round.workers) [
      | inl below ↦
          let there : get_or ls v idle ≡ worker_of table round v = get_or-map-range_with_len (worker_of table round) 0 round.workers v v idle below (omega arith) in
          let todo : length (worker_of table round v).todo ≡ count v round.events = length-map (events_by v round.events) _ in
          ap (λ (l : Local). length l.done + length l.todo) there ∙ (let e : 0 + length (worker_of table round v).todo ≡ count v round.events = omega (arith, todo) in e)
      | inr past ↦
          let gone : get_or ls v idle ≡ idle = get_or-beyond ls v idle (omega (arith, long, past)) in
          let none : count v round.events ≡ 0 = ap (λ (es : List Event). length es) (none-by v round.workers round.events past inside) in
          ap (λ (l : Local). length l.done + length l.todo) gone ∙ (let e : 0 + 0 ≡ count v round.events = omega (arith, none) in e)
    ]

pub awaits-begun : (s : State) (ids : List ℕ) (b : Beside) (trace : Trace) (round : Round) (m : StepMachine) (rest : Rest) → MayRun s ids b trace round → IsBegun s b round m rest → AwaitsEvents round.events m.locals.items
awaits-begun s ids b trace round m rest may begun = record {
  between = λ v. elim (cases_lt v (length m.locals.items)) [
    | inl below ↦ all-between s b round m rest begun v idle below
    | inr past ↦ ap (λ (l : Local). l.spot) (get_or-beyond m.locals.items v idle past)
  ];
  calls = λ v.
      let setup = setup_of s (beside_in b) in
      let ls = workers_of s.table round in
      let own : get_or m.locals.items v idle ≡ rested setup (get_or ls v idle) = ap (λ (y : System). get_or y.locals v idle) begun.system ∙ get_or-map (rested setup) ls v idle in
      let old : Local = get_or ls v idle in
      let new : Local = rested setup old in
      ap (λ (l : Local). length l.done + length l.todo) own
      ∙ sym (in_order-length new.done new.todo) ∙ ap (λ (cs : List Call). length cs) (rested_at-script setup old old.spot) ∙ in_order-length old.done old.todo
      ∙ events-each s.table round (inside-round trace s round may.does) v;
}
