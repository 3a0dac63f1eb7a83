-- What the turns of a call make of the worker's replies.
use Rattle.std.proofs.Common.{◌≡◌, ℕ, ◌⊎◌, Bool, List, [], ◌∷◌, ◌++◌, length, reverse, get_or, Option, Some, None, refl, sym, ap, ◌∙◌, arith, append_assoc, length-append, inl, inr}
use Rattle.std.proofs.lemmas.List.{get_or-reverse}
use Rattle.slub_trace.specs.declared.reply.Reply.{Reply}
use Rattle.slub_core.specs.declared.call.Call.{Call}
use Rattle.slub_core.specs.declared.local.Answered.{Answered}
use Rattle.slub_core.specs.declared.step.Answer.{Answer}
use Rattle.slub_core.specs.declared.spot.Spot.{Spot}
use Rattle.slub_core.specs.declared.spot.Spot.TheVariants.{Between}
use Rattle.slub_core.specs.Setup.{Setup}
use Rattle.slub_core.specs.Words.{answer_of}
use Rattle.slub_core.specs.World.{LockValue}
use Rattle.slub_core.specs.Local.{Local, Change, nobody, no_call, call_of, answered, noted}
use Rattle.slub_core.specs.Steps.{advance_at, advance_of, at_once, changed, told_at_once, or_step, rested_with, rested_at, rested, begun_with, begun_at, begun}
use Rattle.slub_core.proofs.Scripts.{turn-says, change-leaves}
use Rattle.slub_core.specs.declared.guarded.Guarded.{Guarded}
use Rattle.slub_core.specs.Calls.{call_kind, call_place}
use Rattle.slub_core.specs.Values.{values_of}
use Rattle.slub_workers.specs.Standing.{Standing, step_in, in_hand, after_turn}
use Rattle.slub_workers.specs.Turns.{IsAnswered}
use Rattle.slub_workers.specs.Calls.{IsOver}

-- ---- its calls and replies are as they were, or the next call has this reply

abbrev pub IsStill : Local → Local → Type 0
IsStill before after = (after.todo ≡ before.todo) × (after.done ≡ before.done)

abbrev pub IsReplied : Local → Local → Type 0
IsReplied before after = (reply : Reply) × ((more : List Answered) × (after.done ≡ more ++ record { call = call_of before; reply = reply } ∷ before.done))

abbrev pub Goes : Local → Local → Type 0
Goes before after = IsStill before after ⊎ IsReplied before after

pub still : (l : Local) → Goes l l
still l = inl (refl, refl)

same_call : (a b : Local) → b.todo ≡ a.todo → call_of b ≡ call_of a
same_call a b e = ap (λ (calls : List Call). get_or calls 0 no_call) e

pub goes_on : (a b c : Local) → Goes a b → Goes b c → Goes a c
goes_on a b c (inl s) (inl t) = inl (t.0 ∙ s.0, t.1 ∙ s.1)
goes_on a b c (inl s) (inr t) = inr (t.0, (t.1.0, t.1.1 ∙ (λ i. t.1.0 ++ record { call = same_call a b s.0 i; reply = t.0 } ∷ s.1 i)))
goes_on a b c (inr s) (inl t) = inr (s.0, (s.1.0, t.1 ∙ s.1.1))
goes_on a b c (inr s) (inr t) =
    let next : Answered = record { call = call_of b; reply = t.0 } in
    inr (s.0, (t.1.0 ++ next ∷ s.1.0, t.1.1 ∙ ap (λ (ds : List Answered). t.1.0 ++ next ∷ ds) s.1.1 ∙ sym (append_assoc t.1.0 (next ∷ s.1.0) _)))

goes_answered : (l : Local) (r : Reply) → Goes l (answered l r)
goes_answered l r = inr (r, ([], refl))

goes_noted : (l n : Local) (r : Option Reply) → IsStill l n → Goes l (noted n r)
goes_noted l n None s = inl s
goes_noted l n (Some r) s = goes_on l n (answered n r) (inl s) (goes_answered n r)

or_goes : (l : Local) (more : Reply → Local) (r : Option Reply) → ((reply : Reply) → Goes l (more reply)) → Goes l (or_step l more r)
or_goes l more None g = still l
or_goes l more (Some reply) g = g reply

rested_goes : (m : Setup) (calls : List Call) (l : Local) → Goes l (rested_with m calls l)
rested_goes m [] l = still l
rested_goes m (call ∷ calls) l =
    or_goes l (λ reply. rested_with m calls (answered l reply)) (told_at_once m (get_or l.known (call_place call) nobody) call (call_kind call))
    (λ reply. goes_on l (answered l reply) (rested_with m calls (answered l reply)) (goes_answered l reply) (rested_goes m calls (answered l reply)))

rests_goes : (m : Setup) (l : Local) (spot : Spot) → Goes l (rested_at m l spot)
rests_goes m l Between = rested_goes m l.todo l
rests_goes m l _ = still l

begun_goes : (m : Setup) (tries : Bool) (l : Local) (spot : Spot) → Goes l (begun_at m tries l spot)
begun_goes m tries l Between = by_todo l.todo
  where
    by_todo : (calls : List Call) → Goes l (begun_with m tries l calls)
    by_todo [] = still l
    by_todo (call ∷ calls) = inl (refl, refl)
begun_goes m tries l _ = still l

-- what is done at once, and the reply that came before it
changed_goes : (m : Setup) (refused : Bool) (c : Change) → let d = changed m refused c in Goes (noted c.local c.reply) (noted d.local d.reply)
changed_goes m refused c =
    let n = noted c.local c.reply in
    let d = at_once m refused c.value n n.spot in
    let leaves = change-leaves m refused c.value n n.spot in
    goes_noted n d.local d.reply (leaves.0, leaves.1)

advance_goes : (m : Setup) (refused : Bool) (value : ℕ → LockValue) (l : Local) (a : Answer) → Goes l (advance_of m refused value l a).local
advance_goes m refused value l a =
    let turn = advance_at m value l l.spot a in
    let says = turn-says m value l l.spot a in
    let c : Change = record { value = value; local = turn.local; reply = turn.reply } in
    let d = changed m refused c in
    let e = changed m refused d in
    let n = noted e.local e.reply in
    let first : Goes l (noted c.local c.reply) = goes_noted l turn.local turn.reply (says.0, says.1) in
    let second = goes_on l (noted c.local c.reply) (noted d.local d.reply) first (changed_goes m refused c) in
    let third = goes_on l (noted d.local d.reply) n second (changed_goes m refused d) in
    goes_on l n (rested m n) third (rests_goes m n n.spot)

-- ---- a turn

pub turn_goes : (m : Setup) (tries : Bool) (x : Standing) (found : ℕ) (value : Guarded) (refused : Bool) → Goes x.local (after_turn m tries x found value refused).local
turn_goes m tries x found value refused =
    let l = begun m tries x.local in
    goes_on x.local l (after_turn m tries x found value refused).local (begun_goes m tries x.local x.local.spot) (advance_goes m refused (values_of (in_hand m tries x found value)) l (answer_of (step_in m tries x).op found))

-- ---- once the call is over

at_end : (ds : List Answered) (d e : Answered) (more : List Answered) → get_or (reverse (more ++ d ∷ ds)) (length ds) e ≡ d
at_end ds d e more =
    let n = length-append more (d ∷ ds) in
    get_or-reverse (more ++ d ∷ ds) (length ds) e (omega arith) ∙ ap (λ (k : ℕ). get_or (more ++ d ∷ ds) k e) (omega arith) ∙ past more
  where
    past : (xs : List Answered) → get_or (xs ++ d ∷ ds) (length xs) e ≡ d
    past [] = refl
    past (x ∷ xs) = past xs

pub is_answered : (before after : Local) (reply : Reply) → Goes before after → IsOver (length before.done) after → ((d : Answered) → (get_or (reverse after.done) (length before.done) d).reply ≡ reply) → IsAnswered before reply after
is_answered before after reply (inl s) over is = absurd (let n = ap (λ (ds : List Answered). length ds) s.1 in let m = over.replied in omega arith)
is_answered before after reply (inr s) over is =
    let d : Answered = record { call = call_of before; reply = s.0 } in
    let same : s.0 ≡ reply =
    sym (ap (λ (a : Answered). a.reply) (ap (λ (ds : List Answered). get_or (reverse ds) (length before.done) d) s.1.1 ∙ at_end before.done d d s.1.0)) ∙ is d in
    record {
      between = over.between;
      more = s.1.0;
      done = s.1.1 ∙ ap (λ (r : Reply). s.1.0 ++ record { call = call_of before; reply = r } ∷ before.done) same;
    }
