-- Turns by which the events of a round are made one after the other are in the order of the text.
use Rattle.std.proofs.Common.{◌≡◌, ◌≢◌, ℕ, zero, suc, ◌+◌, ◌<◌, ◌≤◌, Bool, true, false, ◌&&◌, cond, eqb, List, [], ◌∷◌, ◌++◌, length, take, drop, get_or, replicate, All, refl, sym, ap, ◌∙◌, subst, arith, inl, inr}
use Rattle.std.specs.Prelude.{nat_lt}
use Rattle.std.proofs.lemmas.Bool.{cases_eq, false≢true, le-ltb}
use Rattle.std.proofs.lemmas.List.Elements.{All-append, All-cons, All-head, All-nil, All-tail}
use Rattle.slub_trace.specs.declared.reply.Reply.{Reply}
use Rattle.slub_trace.specs.declared.event.Event.{Event}
use Rattle.slub_core.specs.declared.call.Call.{Call}
use Rattle.slub_core.specs.declared.spot.Spot.{Spot}
use Rattle.slub_core.specs.declared.spot.Spot.TheVariants.{Between}
use Rattle.slub_core.specs.Setup.{Setup}
use Rattle.slub_core.specs.World.{World}
use Rattle.slub_core.specs.Local.{Local}
use Rattle.slub_core.specs.Law.{IsCoherentSystem}
use Rattle.slub_core.specs.Run.{System, Pick, run, turn}
use Rattle.slub_core.proofs.Turns.{run_both}
use Rattle.slub_schedule.specs.Schedule.{is_between}
use Rattle.slub_calls.specs.Calls.{events_by}
use Rattle.slub_law_alone.specs.Alone.{own_pick, alone, worker_at, HasReply}
use Rattle.slub_law_alone.specs.Busy.{AreOfOneCall}
use Rattle.slub_law_alone.proofs.Onward.{Grown, rested-grown}
use Rattle.slub_law_alone.proofs.Unstepped.{grown-long}
use Rattle.slub_law_alone.proofs.TurnsOfOne.{one_call}
use Rattle.slub_law_alone.specs.OnTheWay.{ComesInText, IsUnderWay}
use Rattle.slub_law_alone.specs.Serial.{IsMade, RunsInText}
use Rattle.slub_rounds.specs.Doing.{AreUnder, AwaitsEvents, is_through, local_at}
use Rattle.slub_rounds.specs.InOrder.{AreInOrder, answered}
use Rattle.slub_rounds.proofs.Doing.{Leads, calls-stay, count, leads, more-other, more-own, order-more, run-more}
use Rattle.slub_law_replay.specs.InOrder.{RefuseNothing}

-- ---- the events from one on

drop-next : {X : Type 0} (xs : List X) (k : ℕ) (x d : X) (rest : List X) → drop k xs ≡ x ∷ rest → (k < length xs) × (get_or xs k d ≡ x) × (drop (k + 1) xs ≡ rest)
drop-next [] zero x d rest e = absurd (let n = ap length e in omega arith)
drop-next [] (suc k) x d rest e = absurd (let n = ap length e in omega arith)
drop-next (y ∷ ys) zero x d rest e = (omega arith, ap (λ zs. get_or zs 0 d) e, ap (drop 1) e)
drop-next (y ∷ ys) (suc k) x d rest e = let r = drop-next ys k x d rest e in (omega (arith, r.0), r.1, ap (λ n. drop n (y ∷ ys)) (let n : suc k + 1 ≡ suc (k + 1) = omega arith in n) ∙ r.2)

count-split : (es : List Event) (k v : ℕ) → count v es ≡ count v (take k es) + count v (drop k es)
count-split [] zero v = omega arith
count-split [] (suc k) v = omega arith
count-split (e ∷ es) zero v = let none : count v (e ∷ es) ≡ 0 + count v (e ∷ es) = omega arith in none
count-split (e ∷ es) (suc k) v = by (eqb e.worker v) (count-split es k v)
  where
    by : (b : Bool) → count v es ≡ count v (take k es) + count v (drop k es) → length (cond b (e ∷ events_by v es) (events_by v es)) ≡ length (cond b (e ∷ events_by v (take k es)) (events_by v (take k es))) + count v (drop k es)
    by true same = omega (arith, same)
    by false same = same

-- ---- turns of one worker

in_call : (s : Spot) → s ≢ Between → is_between s ≡ false
in_call Between not = absurd (not refl)
in_call _ not = refl

under-alone : (m : Setup) (w passed n : ℕ) (s : System) → ((j : ℕ) → j < n → is_through passed (local_at (alone m w j s) w) ≡ false) → AreUnder m w passed s (replicate n (own_pick w))
under-alone m w passed zero s not = tt
under-alone m w passed (suc n) s not = (refl, refl, not 0 (omega arith), under-alone m w passed n (turn m s (own_pick w)) (λ j below. not (suc j) (omega (arith, below))))

nothing : (n w : ℕ) → RefuseNothing (replicate n (own_pick w))
nothing zero w = All-nil (λ (p : Pick). p.refused ≡ false)
nothing (suc n) w = All-cons (λ (p : Pick). p.refused ≡ false) (own_pick w) (replicate n (own_pick w)) refl (nothing n w)

and-false : (b c : Bool) → c ≡ false → (b && c) ≡ false
and-false true c is = is
and-false false c is = refl

busy-false : (b c : Bool) → b ≡ false → (b && c) ≡ false
busy-false true c is = absurd (false≢true (sym is))
busy-false false c is = refl

-- it has no reply more before the last of them
under-busy : (m : Setup) (w k : ℕ) (s : System) → ((j : ℕ) → 1 ≤ j → j < k → (local_at (alone m w j s) w).spot ≢ Between) → AreUnder m w (answered s w) s (replicate k (own_pick w))
under-busy m w k s busy = under-alone m w (answered s w) k s by
  where
    by : (j : ℕ) → j < k → is_through (answered s w) (local_at (alone m w j s) w) ≡ false
    by zero below = and-false (is_between (local_at s w).spot) (nat_lt (answered s w) (answered s w)) (le-ltb (answered s w) (answered s w) (omega arith))
    by (suc j) below = busy-false (is_between (local_at (alone m w (suc j) s) w).spot) (nat_lt (answered s w) (length (local_at (alone m w (suc j) s) w).done))
        (in_call (local_at (alone m w (suc j) s) w).spot (busy (suc j) (omega arith) below))

more-replies : (m : Setup) (before after : Local) (call : Call) (reply : Reply) → HasReply m before call reply after → suc (length before.done) ≤ length after.done
more-replies m before after call reply has =
    let grown = grown-long has.told.done after.done (subst (λ (l : Local). Grown has.told.done l.done) (sym has.rested) (rested-grown m has.told)) in
    let long = ap length has.done in
    omega (arith, grown, long)

-- ---- the events in their order

module _ (m : Setup) (opening : World) (es : List Event) (calls : Event → Call) (first : System) (coherent : IsCoherentSystem m opening first) (awaits : AwaitsEvents es first.locals) (workers : ℕ)
    (many : length first.locals ≡ workers) where
  -- so many events are made by turns in the order of the text
  pub record Made (k : ℕ) (s : System) : Type 0 where
    pub picks : List Pick
    pub in_order : AreInOrder m es first picks
    pub kept : RefuseNothing picks
    pub run_is : s ≡ run m first picks
    pub long : length s.locals ≡ workers
    pub between : (v : ℕ) → (local_at s v).spot ≡ Between
    pub replies : (v : ℕ) → count v (take k es) ≤ answered s v

  pub none-made : Made 0 first
  none-made = record {
    picks = [];
    in_order = tt;
    kept = All-nil (λ (p : Pick). p.refused ≡ false);
    run_is = refl;
    long = many;
    between = awaits.between;
    replies = λ v. omega arith;
  }

  module _ (k : ℕ) (s : System) (event : Event) (events : List Event) (is : Made k s) (here : drop k es ≡ event ∷ events) (inside : event.worker < workers) where
    w : ℕ
    w = event.worker

    next : (k < length es) × (get_or es k event ≡ event) × (drop (k + 1) es ≡ events)
    next = drop-next es k event event events here

    mine : get_or es k event ≡ event
    mine = next.1

    own-more : count w (take (k + 1) es) ≡ count w (take k es) + 1
    unfolding w
    own-more = more-own es k w event next.0 (ap (λ (e : Event). e.worker) mine)

    other-more : (v : ℕ) → v ≢ w → count v (take (k + 1) es) ≡ count v (take k es)
    unfolding w
    other-more v other = more-other es k v event next.0 (λ e. other (sym e ∙ ap (λ (e : Event). e.worker) mine))

    -- the worker's calls to come are those to its events from here on
    left-is : answered s w + length (local_at s w).todo ≡ count w (take (k + 1) es) + count w events
    left-is = subst (λ (t : System). answered t w + length (local_at t w).todo ≡ count w es) (sym is.run_is) (calls-stay m opening first is.picks es coherent awaits w)
        ∙ count-split es (k + 1) w ∙ ap (λ xs. count w (take (k + 1) es) + count w xs) next.2

    -- its reply is there already
    none-more : length (local_at s w).todo ≤ count w events → Made (k + 1) s
    none-more few = record {
      picks = is.picks;
      in_order = is.in_order;
      kept = is.kept;
      run_is = is.run_is;
      long = is.long;
      between = is.between;
      replies = λ v. elim (cases_eq v w) [
        | inl e ↦ subst (λ v. count v (take (k + 1) es) ≤ answered s v) (sym e) (omega (arith, left-is, few))
        | inr other ↦ omega (arith, other-more v other, is.replies v)
      ];
    }

    there : w < length s.locals
    unfolding w
    there = omega (arith, inside, is.long)

    now-coherent : IsCoherentSystem m opening s
    now-coherent = subst (IsCoherentSystem m opening) (sym is.run_is) (run_both m opening first is.picks coherent).0

    -- the worker makes its call alone
    module _ (turns last : ℕ) (asked : Call) (reply : Reply) (more : count w events < length (local_at s w).todo) (one : AreOfOneCall m s w turns (suc last)) (has : HasReply m (worker_at s w) asked reply (worker_at (alone m w turns s) w)) where
      picks : List Pick
      picks = replicate (suc last) (own_pick w)

      led : Leads m es w s (run m s picks) picks
      unfolding picks
      led = leads m es (k + 1) w (answered s w) s picks there (λ v other. is.between v)
          (λ v other. omega (arith, other-more v other, is.replies v)) (omega (arith, left-is, more)) (under-busy m w (suc last) s one.one.busy)

      ended : run m s picks ≡ alone m w turns s
      unfolding picks
      ended = one.same

      one-made : Made (k + 1) (run m s picks)
      unfolding picks
      one-made = record {
        picks = is.picks ++ picks;
        in_order = order-more m es first is.picks picks is.in_order (subst (λ (t : System). AreInOrder m es t picks) is.run_is led.in_order);
        kept = All-append (λ (p : Pick). p.refused ≡ false) is.picks picks is.kept (nothing (suc last) w);
        run_is = ap (λ (t : System). run m t picks) is.run_is ∙ sym (run-more m first is.picks picks);
        long = led.long ∙ is.long;
        between = λ v. elim (cases_eq v w) [
          | inl e ↦ subst (λ v. (local_at (run m s picks) v).spot ≡ Between) (sym e) one.one.ends
          | inr other ↦ ap (λ (l : Local). l.spot) (led.others v other) ∙ is.between v
        ];
        replies = λ v. elim (cases_eq v w) [
          | inl e ↦
              let told : suc (answered s w) ≤ answered (run m s picks) w = subst (λ (t : System). suc (answered s w) ≤ answered t w) (sym ended) (more-replies m (worker_at s w) (worker_at (alone m w turns s) w) asked reply has) in
              subst (λ v. count v (take (k + 1) es) ≤ answered (run m s picks) v) (sym e) (omega (arith, own-more, is.replies w, told))
          | inr other ↦ omega (arith, other-more v other, is.replies v, ap (λ (l : Local). length l.done) (led.others v other))
        ];
      }

    by-turns : (turns : ℕ) (asked : Call) (reply : Reply) → count w events < length (local_at s w).todo → HasReply m (worker_at s w) asked reply (worker_at (alone m w turns s) w) → Made (k + 1) (alone m w turns s)
    by-turns zero asked reply more has = absurd (let told = more-replies m (worker_at s w) (worker_at s w) asked reply has in omega arith)
    by-turns (suc turns) asked reply more has = by (local_at s w).todo refl
      where
        by : (todo : List Call) → (local_at s w).todo ≡ todo → Made (k + 1) (alone m w (suc turns) s)
        by [] none = absurd (let long = ap length none in omega arith)
        by (c ∷ cs) todo =
            let one = one_call m opening s w c cs turns asked reply there now-coherent (is.between w) todo has in
            subst (Made (k + 1)) (ended (suc turns) one.0 asked reply more one.1 has) (one-made (suc turns) one.0 asked reply more one.1 has)

    pub event-made : (turns : ℕ) → IsMade m s event.worker (calls event) (length (events_by event.worker events)) turns → Made (k + 1) (alone m event.worker turns s)
    unfolding w
    event-made turns (inl (none, few)) = subst (λ n. Made (k + 1) (alone m event.worker n s)) (sym none) (none-more few)
    event-made turns (inr (more, (reply, has))) = by-turns turns (calls event) reply more has

  -- such turns come to this machine
  pub record ComesInOrder (here : System) : Type 0 where
    pub picks : List Pick
    pub in_order : AreInOrder m es first picks
    pub kept : RefuseNothing picks
    pub run_is : here ≡ run m first picks

  -- and turns more of the worker of the next event
  goes-on : (k : ℕ) (s : System) (event : Event) (events : List Event) (turns : ℕ) → Made k s → drop k es ≡ event ∷ events → event.worker < workers → IsUnderWay m s event.worker (count event.worker events) turns → ComesInOrder (alone m event.worker turns s)
  unfolding w
  goes-on k s event events turns is here inside under =
      let v = event.worker in
      let picks = replicate turns (own_pick v) in
      let led : Leads m es v s (run m s picks) picks = leads m es (k + 1) v (answered s v) s picks (there k s event events is here inside) (λ v other. is.between v)
      (λ u other. omega (arith, other-more k s event events is here inside u other, is.replies u)) (omega (arith, left-is k s event events is here inside, under.more)) (under-busy m v turns s (λ j some few. under.busy j some (omega (arith, few)))) in
      record {
        picks = is.picks ++ picks;
        in_order = order-more m es first is.picks picks is.in_order (subst (λ (t : System). AreInOrder m es t picks) is.run_is led.in_order);
        kept = All-append (λ (p : Pick). p.refused ≡ false) is.picks picks is.kept (nothing turns v);
        run_is = ap (λ (t : System). run m t picks) is.run_is ∙ sym (run-more m first is.picks picks);
      }

  pub comes-in-order : (events : List Event) (k : ℕ) (s here : System) → drop k es ≡ events → All (λ (e : Event). e.worker < workers) events → ComesInText m calls events s here → Made k s → ComesInOrder here
  comes-in-order [] k s here left inside comes is = absurd comes
  comes-in-order (event ∷ events) k s here left inside (inl (turns, under, at)) is =
      subst ComesInOrder (sym at) (goes-on k s event events turns is left (All-head (λ (e : Event). e.worker < workers) event events inside) under)
  comes-in-order (event ∷ events) k s here left inside (inr (turns, made, rest)) is =
      comes-in-order events (k + 1) (alone m event.worker turns s) here (drop-next es k event event events left).2 (All-tail (λ (e : Event). e.worker < workers) event events inside) rest
      (event-made k s event events is left (All-head (λ (e : Event). e.worker < workers) event events inside) turns made)

  pub all-made : (events : List Event) (k : ℕ) (s last : System) → drop k es ≡ events → All (λ (e : Event). e.worker < workers) events → RunsInText m calls events s last → Made k s → (n : ℕ) × Made n last
  all-made [] k s last here inside runs is = (k, subst (Made k) (sym runs) is)
  all-made (event ∷ events) k s last here inside (turns, made, rest) is =
      all-made events (k + 1) (alone m event.worker turns s) last (drop-next es k event event events here).2 (All-tail (λ (e : Event). e.worker < workers) event events inside) rest
      (event-made k s event events is here (All-head (λ (e : Event). e.worker < workers) event events inside) turns made)
