-- A worker alone in a call that isn't a try: up to the end of the call it has one reply by a step, that to the call.
use Rattle.std.proofs.Common.{◌≡◌, ◌≢◌, ◌⊎◌, ℕ, zero, suc, ◌<◌, Bool, true, false, Option, Some, None, List, ◌∷◌, length, get_or, drop, refl, sym, ap, ◌∙◌, subst, arith, inl, inr}
use Rattle.std.proofs.lemmas.Bool.{false≢true}
use Rattle.std.proofs.lemmas.Option.{none-some, same_Some}
use Rattle.std.proofs.lemmas.List.{get_or-set_same, length-set}
use Rattle.slub_trace.specs.declared.reply.Reply.{Reply}
use Rattle.slub_core.specs.declared.call.Call.{Call}
use Rattle.slub_core.specs.declared.call.CallKind.{CallKind}
use Rattle.slub_core.specs.declared.call.CallKind.TheVariants.{Alloc, Free, Write, Read, Poke, Trim, Flush}
use Rattle.slub_core.specs.declared.local.Answered.{Answered}
use Rattle.slub_core.specs.declared.step.Answer.{Answer}
use Rattle.slub_core.specs.declared.spot.Spot.{Spot}
use Rattle.slub_core.specs.declared.spot.Spot.TheVariants.{Between}
use Rattle.slub_core.specs.Calls.{call_kind}
use Rattle.slub_core.specs.Setup.{Setup}
use Rattle.slub_core.specs.Words.{number_of, answer_of}
use Rattle.slub_core.specs.World.{LockValue}
use Rattle.slub_core.specs.Local.{Local, Change, no_call, noted}
use Rattle.slub_core.specs.Steps.{step_of, advance_at, advance_of, at_once, changed, rested, rested_at, begun, begun_at, begun_with, first_spot}
use Rattle.slub_core.specs.Spots.{doing}
use Rattle.slub_core.specs.Run.{System, idle, turn}
use Rattle.slub_core.proofs.Scripts.{Leaves, turn-says, change-leaves}
use Rattle.slub_law_alone.specs.Alone.{own_pick, alone, worker_at, IsNext, HasReply}
use Rattle.slub_law_alone.specs.Busy.{IsBetweenCalls, EndsCall}
use Rattle.slub_law_alone.proofs.Goes.{Goes, Tells, unstepped, turn-goes, change-goes}
use Rattle.slub_law_alone.proofs.Workers.{rested_calls}

-- ---- in no call, or in one

abbrev is_idle : Spot → Bool
is_idle Between = true
is_idle _ = false

pub in_no_call : (s : Spot) → (s ≡ Between) ⊎ (s ≢ Between)
in_no_call Between = inl refl
in_no_call _ = inr (λ e. absurd (false≢true (ap is_idle e)))

rested-stays : (m : Setup) (l : Local) (s : Spot) → s ≢ Between → rested_at m l s ≡ l
rested-stays m l Between not = absurd (not refl)
rested-stays m l _ not = refl

begun-stays : (m : Setup) (fast : Bool) (l : Local) (s : Spot) → s ≢ Between → begun_at m fast l s ≡ l
begun-stays m fast l Between not = absurd (not refl)
begun-stays m fast l _ not = refl

-- replies that take no step leave a worker where it is
pub rested-spot : (m : Setup) (l : Local) → (rested m l).spot ≡ l.spot
rested-spot m l = elim (in_no_call l.spot) [
  | inl is ↦ ap (λ (l : Local). l.spot) (rested_calls m l is).same
  | inr not ↦ ap (λ (l : Local). l.spot) (rested-stays m l l.spot not)
]

pub rested-fast : (m : Setup) (l : Local) → (rested m l).fast ≡ l.fast
rested-fast m l = elim (in_no_call l.spot) [
  | inl is ↦ ap (λ (l : Local). l.fast) (rested_calls m l is).same
  | inr not ↦ ap (λ (l : Local). l.fast) (rested-stays m l l.spot not)
]

pub rested-known : (m : Setup) (l : Local) → (rested m l).known ≡ l.known
rested-known m l = elim (in_no_call l.spot) [
  | inl is ↦ ap (λ (l : Local). l.known) (rested_calls m l is).same
  | inr not ↦ ap (λ (l : Local). l.known) (rested-stays m l l.spot not)
]

-- ---- what each step keeps

pub record Kept (P : Local → Type 0) : Type 0 where
  pub plain : (l : Local) → P l → l.fast ≡ false
  pub steps : (l n : Local) (s : Spot) (r : Option Reply) → l.spot ≡ s → Leaves l s n r → Goes l s n r → P l → P (noted n r)

module _ (P : Local → Type 0) (kept : Kept P) where
  kept-once : (m : Setup) (refused : Bool) (c : Change) → P (noted c.local c.reply) → let d = changed m refused c in P (noted d.local d.reply)
  kept-once m refused c is =
      let l = noted c.local c.reply in
      let d = at_once m refused c.value l l.spot in
      kept.steps l d.local l.spot d.reply refl (change-leaves m refused c.value l l.spot) (change-goes m refused c.value l l.spot refl) is

  -- where an answer leads
  leads : (m : Setup) (refused : Bool) (value : ℕ → LockValue) (l : Local) (a : Answer) → P l → (n : Local) × P n × ((advance_of m refused value l a).local ≡ rested m n)
  leads m refused value l a is =
      let t = advance_at m value l l.spot a in
      let first : Change = record { value = value; local = t.local; reply = t.reply } in
      let second = changed m refused first in
      let third = changed m refused second in (
        noted third.local third.reply,
        kept-once m refused second (kept-once m refused first (kept.steps l t.local l.spot t.reply refl (turn-says m value l l.spot a) (turn-goes m value l l.spot a refl (kept.plain l is)) is)),
        refl,
      )

  -- a turn, up to the replies that take no step
  pub kept-turn : (m : Setup) (x : ℕ) (system : System) → x < length system.locals → P (begun m false (worker_at system x)) → (n : Local) × P n × (worker_at (turn m system (own_pick x)) x ≡ rested m n)
  kept-turn m x system below is =
      let l = begun m false (worker_at system x) in
      let step = step_of m system.value l in
      let r = leads m false system.value l (answer_of step.op (get_or system.words (number_of m step.place) 0)) is in
      (r.0, r.1, get_or-set_same system.locals x _ idle below ∙ r.2)

pub turn-long : (m : Setup) (x : ℕ) (system : System) → x < length system.locals → x < length (turn m system (own_pick x)).locals
turn-long m x system below = subst (λ n. x < n) (sym (length-set system.locals x _)) below

-- ---- a call that the worker has begun

-- it has no reply yet
abbrev Waits : Local → Call → Local → Type 0
Waits before call l = (doing l.spot ≡ Some (call_kind call)) × (l.todo ≡ before.todo) × (l.done ≡ before.done)

-- it has one, by a step
pub record Has (before : Local) (call : Call) (l : Local) : Type 0 where
  pub after : doing l.spot ≡ None
  pub reply : Reply
  pub stepped : unstepped (call_kind call) reply ≡ false
  pub done : l.done ≡ record { call = call; reply = reply } ∷ before.done
  pub todo : l.todo ≡ drop 1 before.todo

record Along (before : Local) (call : Call) (l : Local) : Type 0 where
  plain : l.fast ≡ false
  number : l.worker ≡ before.worker
  at : Waits before call l ⊎ Has before call l

-- as it is between calls again
pub record Ends (before : Local) (call : Call) (m : Setup) (after : Local) : Type 0 where
  pub told : Local
  pub has : Has before call told
  pub between : told.spot ≡ Between
  pub plain : told.fast ≡ false
  pub number : told.worker ≡ before.worker
  pub rests : after ≡ rested m told

answer : Call → Reply → List Answered → List Answered
answer call reply done = record { call = call; reply = reply } ∷ done

pub noted-same : (n : Local) (r : Option Reply) → ((noted n r).spot ≡ n.spot) × ((noted n r).fast ≡ n.fast) × ((noted n r).known ≡ n.known) × ((noted n r).worker ≡ n.worker)
noted-same n None = (refl, refl, refl, refl)
noted-same n (Some reply) = (refl, refl, refl, refl)

module _ (before : Local) (call : Call) (calls : List Call) (todo : before.todo ≡ call ∷ calls) where
  by-reply : (l n : Local) (s : Spot) (r : Option Reply) → l.spot ≡ s → Leaves l s n r → Goes l s n r → Waits before call l ⊎ Has before call l → Waits before call (noted n r) ⊎ Has before call (noted n r)
  unfolding answer
  by-reply l n s None is leaves goes (inl w) = inl (goes.1 ∙ ap doing (sym is) ∙ w.0, leaves.0 ∙ w.1, leaves.1 ∙ w.2)
  by-reply l n s None is leaves goes (inr h) = inr (record {
    after = goes.1 ∙ ap doing (sym is) ∙ h.after;
    reply = h.reply;
    stepped = h.stepped;
    done = leaves.1 ∙ h.done;
    todo = leaves.0 ∙ h.todo;
  })
  by-reply l n s (Some reply) is leaves goes (inl w) =
      let tells : Tells s n.spot reply = goes.1 in
      let kind : tells.kind ≡ call_kind call = same_Some tells.kind (call_kind call) (sym tells.was ∙ ap doing (sym is) ∙ w.0) in
      inr (record {
        after = tells.after;
        reply = reply;
        stepped = subst (λ kind. unstepped kind reply ≡ false) kind tells.stepped;
        done = ap (λ cs. answer (get_or cs 0 no_call) reply n.done) (leaves.0 ∙ w.1 ∙ todo) ∙ ap (answer call reply) (leaves.1 ∙ w.2);
        todo = ap (drop 1) (leaves.0 ∙ w.1);
      })
  by-reply l n s (Some reply) is leaves goes (inr h) =
      let tells : Tells s n.spot reply = goes.1 in
      absurd (none-some tells.kind (sym h.after ∙ ap doing is ∙ tells.was))

  along : (l n : Local) (s : Spot) (r : Option Reply) → l.spot ≡ s → Leaves l s n r → Goes l s n r → Along before call l → Along before call (noted n r)
  along l n s r is leaves goes a =
      let same = noted-same n r in
      record {
        plain = same.1 ∙ ap (λ (q : Bool × ℕ). q.0) goes.0 ∙ a.plain;
        number = same.3 ∙ ap (λ (q : Bool × ℕ). q.1) goes.0 ∙ a.number;
        at = by-reply l n s r is leaves goes a.at;
      }

  along-kept : Kept (Along before call)
  along-kept = record { plain = λ l a. a.plain; steps = along }

  one-turn : (m : Setup) (x : ℕ) (system : System) → x < length system.locals → Along before call (begun m false (worker_at system x)) → (n : Local) × Along before call n × (worker_at (turn m system (own_pick x)) x ≡ rested m n)
  one-turn m x system below is =
      kept-turn (Along before call) along-kept m x system below is

  ended : (m : Setup) (after n : Local) → Along before call n → after ≡ rested m n → after.spot ≡ Between → Ends before call m after
  ended m after n is e between =
      let at : n.spot ≡ Between = sym (rested-spot m n) ∙ sym (ap (λ (l : Local). l.spot) e) ∙ between in
      record { told = n; has = by at is.at; between = at; plain = is.plain; number = is.number; rests = e }
    where
      by : n.spot ≡ Between → Waits before call n ⊎ Has before call n → Has before call n
      by at (inl w) = absurd (none-some (call_kind call) (sym (ap doing at) ∙ w.0))
      by at (inr h) = h

  goes-on : (m : Setup) (x turns : ℕ) (system : System) → x < length system.locals → Along before call (begun m false (worker_at system x)) → EndsCall m system x (suc turns) → Ends before call m (worker_at (alone m x (suc turns) system) x)
  goes-on m x zero system below is ends =
      let r = one-turn m x system below is in
      ended m (worker_at (turn m system (own_pick x)) x) r.0 r.1 r.2 ends.ends
  goes-on m x (suc turns) system below is ends =
      let next = turn m system (own_pick x) in
      let r = one-turn m x system below is in
      let not : r.0.spot ≢ Between = λ at. ends.busy 1 (omega arith) (omega arith) (ap (λ (l : Local). l.spot) r.2 ∙ rested-spot m r.0 ∙ at) in
      let here : worker_at next x ≡ r.0 = r.2 ∙ rested-stays m r.0 r.0.spot not in
      let begins : begun m false (worker_at next x) ≡ r.0 = ap (begun m false) here ∙ begun-stays m false r.0 r.0.spot not in
      goes-on m x turns next (turn-long m x system below) (subst (Along before call) (sym begins) r.1)
      (record { busy = λ n some few. ends.busy (suc n) (omega arith) (omega arith); ends = ends.ends })

-- ---- its begin

first-doing : (kind : CallKind) (checked held : Bool) → doing (first_spot kind checked held) ≡ Some kind
first-doing Alloc false held = refl
first-doing Alloc true held = refl
first-doing Free checked false = refl
first-doing Free false true = refl
first-doing Free true true = refl
first-doing Write false held = refl
first-doing Write true held = refl
first-doing Read false held = refl
first-doing Read true held = refl
first-doing Poke checked held = refl
first-doing Trim checked held = refl
first-doing Flush checked held = refl

begins : (m : Setup) (l : Local) (call : Call) (calls : List Call) → l.spot ≡ Between → l.todo ≡ call ∷ calls → Along l call (begun m false l)
begins m l call calls is todo = subst (Along l call) (sym (ap (begun_at m false l) is ∙ ap (begun_with m false l) todo))
    (record { plain = refl; number = refl; at = inl (first-doing (call_kind call) _ _, refl, refl) })

pub call-ends : (m : Setup) (system : System) (worker : ℕ) (call : Call) (calls : List Call) (turns : ℕ) → worker < length system.locals → IsBetweenCalls system worker → (worker_at system worker).todo ≡ call ∷ calls → EndsCall m system worker (suc turns)
    → Ends (worker_at system worker) call m (worker_at (alone m worker (suc turns) system) worker)
call-ends m system worker call calls turns below is todo ends =
    goes-on (worker_at system worker) call calls todo m worker turns system below (begins m (worker_at system worker) call calls is todo) ends

pub ends_with_reply : (m : Setup) (system : System) (worker : ℕ) (call : Call) (turns : ℕ) → IsBetweenCalls system worker → IsNext system worker call → EndsCall m system worker (suc turns)
    → (reply : Reply) × HasReply m (worker_at system worker) call reply (worker_at (alone m worker (suc turns) system) worker)
ends_with_reply m system worker call turns is next ends =
    let e = call-ends m system worker call next.calls turns next.there is next.todo ends in
    (e.has.reply, record { told = e.told; done = e.has.done; todo = e.has.todo; between = e.between; number = e.number; rested = e.rests })
