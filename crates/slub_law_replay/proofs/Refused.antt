-- A turn that is refused memory, and after which no reply is that memory was lacking, is the same as one that isn't refused.
use Rattle.std.proofs.Common.{◌≡◌, ◌⊎◌, ℕ, ◌-◌, ◌<◌, Bool, true, false, List, [], ◌∷◌, length, get_or, set, map, Option, Some, None, All, refl, sym, ap, ◌∙◌, subst, arith, inl, inr}
use Rattle.std.specs.Prelude.{filter, reverse}
use Rattle.std.specs.List.{zip}
use Rattle.std.proofs.lemmas.Bool.{cases_eq, cases_lt, false≢true}
use Rattle.std.proofs.lemmas.List.{get_or-reverse, get_or-set_other, get_or-set_same, length-map, length-reverse}
use Rattle.std.proofs.lemmas.List.Elements.{All-cons, All-filter, All-head, All-map, All-nil, All-tail}
use Rattle.std.proofs.Math.ListN.{get_or-map}
use Rattle.slub_trace.specs.declared.event.Event.{Event}
use Rattle.slub_trace.specs.declared.reply.Reply.{Reply}
use Rattle.slub_trace.specs.declared.reply.Reply.TheVariants.{NoMemory}
use Rattle.slub_trace.specs.Kinds.{is_no_memory}
use Rattle.slub_core.specs.declared.call.Call.{Call}
use Rattle.slub_core.specs.declared.local.Answered.{Answered}
use Rattle.slub_core.specs.declared.step.Answer.{Answer}
use Rattle.slub_core.specs.declared.spot.Spot.{Spot}
use Rattle.slub_core.specs.declared.spot.Spot.TheVariants.{Between, InChecked}
use Rattle.slub_core.specs.declared.spot.CheckedSpot.TheVariants.{AddSlab}
use Rattle.slub_core.specs.Setup.{Setup}
use Rattle.slub_core.specs.Words.{number_of, after_op, answer_of}
use Rattle.slub_core.specs.World.{LockValue}
use Rattle.slub_core.specs.Law.{replies_of}
use Rattle.slub_core.specs.Local.{Local, Change, call_of, noted}
use Rattle.slub_core.specs.Run.{System, Pick, idle, run, turn, after_step}
use Rattle.slub_core.specs.Steps.{advance_at, advance_of, at_once, begun, begun_at, begun_with, changed, rested, step_of}
use Rattle.slub_core.proofs.Scripts.{Leaves, change-leaves, turn-says}
use Rattle.slub_engine.proofs.Parts.{All-back}
use Rattle.slub_law_opening.proofs.Turns.{get_or-beyond}
use Rattle.slub_slabinfo_text.specs.Lawful.{is_by}
use Rattle.slub_law_alone.specs.Alone.{own_pick}
use Rattle.slub_law_alone.proofs.Onward.{rested-grown}
use Rattle.slub_calls.specs.Replies.{replies_by, told_to, AreReplies}
use Rattle.slub_rounds.specs.Doing.{local_at}
use Rattle.slub_rounds.specs.InOrder.{AreInOrder}
use Rattle.slub_law_replay.specs.InOrder.{RefuseNothing}

-- the reply isn't that memory was lacking
abbrev pub HadMemory : Reply → Type 0
HadMemory reply = is_no_memory reply ≡ false

-- nor is one of these
abbrev pub HadEach : List Answered → Type 0
HadEach done = All (λ (d : Answered). HadMemory d.reply) done

-- nor one that a worker has had so far
abbrev pub HasHad : Local → Type 0
HasHad l = HadEach l.done

abbrev pub AllHad : System → Type 0
AllHad s = (v : ℕ) → HasHad (local_at s v)

-- ---- what is done at once

-- to refuse memory makes no difference, or the reply says so
same-or-told : (m : Setup) (value : ℕ → LockValue) (l : Local) (s : Spot) → (at_once m true value l s ≡ at_once m false value l s) ⊎ ((at_once m true value l s).reply ≡ Some NoMemory)
same-or-told m value l (InChecked AddSlab kind) = inr refl
same-or-told m value l s = inl refl

not-told : (n : Local) (r : Option Reply) → r ≡ Some NoMemory → HasHad (noted n r) → ⊥
not-told n r is has =
    let first : is_no_memory NoMemory ≡ false = All-head (λ (d : Answered). HadMemory d.reply) (record { call = call_of n; reply = NoMemory }) n.done (subst (λ (r : Option Reply). HasHad (noted n r)) is has) in
    false≢true (sym first)

noted-back : (l n : Local) (s : Spot) (r : Option Reply) → Leaves l s n r → HasHad (noted n r) → HasHad l
noted-back l n s None leaves has = subst HadEach leaves.1 has
noted-back l n s (Some reply) leaves has = subst HadEach leaves.1 (All-tail (λ (d : Answered). HadMemory d.reply) (record { call = call_of n; reply = reply }) n.done has)

changed-same : (m : Setup) (c : Change) → HasHad (noted (changed m true c).local (changed m true c).reply) → changed m true c ≡ changed m false c
changed-same m c has =
    let l = noted c.local c.reply in
    elim (same-or-told m c.value l l.spot) [
      | inl same ↦ same
      | inr told ↦ absurd (not-told (changed m true c).local (changed m true c).reply told has)
    ]

changed-back : (m : Setup) (refused : Bool) (c : Change) → HasHad (noted (changed m refused c).local (changed m refused c).reply) → HasHad (noted c.local c.reply)
changed-back m refused c has =
    let l = noted c.local c.reply in
    let d = changed m refused c in
    noted-back l d.local l.spot d.reply (change-leaves m refused c.value l l.spot) has

rested-back : (m : Setup) (l : Local) → HasHad (rested m l) → HasHad l
rested-back m l has =
    let grown = rested-grown m l in
    All-back (λ (d : Answered). HadMemory d.reply) grown.0 l.done (subst HadEach grown.1 has)

-- ---- where an answer leads

advance-same : (m : Setup) (value : ℕ → LockValue) (l : Local) (a : Answer) → HasHad (advance_of m true value l a).local → advance_of m true value l a ≡ advance_of m false value l a
advance-same m value l a has =
    let t = advance_at m value l l.spot a in
    let first : Change = record { value = value; local = t.local; reply = t.reply } in
    let second : Change = changed m true first in
    let third : Change = changed m true second in
    let last : HasHad (noted third.local third.reply) = rested-back m (noted third.local third.reply) has in
    let one : changed m true first ≡ changed m false first = changed-same m first (changed-back m true second last) in
    let two : changed m true second ≡ changed m false second = changed-same m second last in
    ap end (two ∙ ap (changed m false) one)
  where
    end : Change → Change
    end c = record { value = c.value; local = rested m (noted c.local c.reply); reply = None }

advance-back : (m : Setup) (refused : Bool) (value : ℕ → LockValue) (l : Local) (a : Answer) → HasHad (advance_of m refused value l a).local → HasHad l
advance-back m refused value l a has =
    let t = advance_at m value l l.spot a in
    let first : Change = record { value = value; local = t.local; reply = t.reply } in
    let second : Change = changed m refused first in
    let third : Change = changed m refused second in
    noted-back l t.local l.spot t.reply (turn-says m value l l.spot a) (changed-back m refused first (changed-back m refused second (rested-back m (noted third.local third.reply) has)))

begun-done : (m : Setup) (fast : Bool) (l : Local) (s : Spot) → (begun_at m fast l s).done ≡ l.done
begun-done m fast l Between = by l.todo
  where
    by : (calls : List Call) → (begun_with m fast l calls).done ≡ l.done
    by [] = refl
    by (call ∷ calls) = refl
begun-done m fast l s = refl

-- ---- turns

pub turn-same : (m : Setup) (s : System) (w : ℕ) (refused : Bool) → HasHad (local_at (after_step m refused s w (begun m false (local_at s w))) w) → after_step m refused s w (begun m false (local_at s w)) ≡ turn m s (own_pick w)
turn-same m s w false has = refl
turn-same m s w true has = elim (cases_lt w (length s.locals)) [
  | inl below ↦
      let l = begun m false (local_at s w) in
      let step = step_of m s.value l in
      let n = number_of m step.place in
      let q = get_or s.words n 0 in
      let a = answer_of step.op q in
      ap (leads n (after_op step.op q)) (advance-same m s.value l a (subst HasHad (get_or-set_same s.locals w (advance_of m true s.value l a).local idle below) has))
  | inr past ↦
      let beyond : local_at s w ≡ idle = get_or-beyond s.locals w idle past in
      ap (λ (l : Local). after_step m true s w (begun m false l)) beyond ∙ sym (ap (λ (l : Local). after_step m false s w (begun m false l)) beyond)
]
  where
    leads : ℕ → ℕ → Change → System
    leads n x c = record { words = set s.words n x; value = c.value; locals = set s.locals w c.local }

own-back : (m : Setup) (s : System) (pick : Pick) → HasHad (local_at (turn m s pick) pick.worker) → HasHad (local_at s pick.worker)
own-back m s pick has = elim (cases_lt pick.worker (length s.locals)) [
  | inl below ↦
      let old = local_at s pick.worker in
      let l = begun m pick.tries old in
      let step = step_of m s.value l in
      let a = answer_of step.op (get_or s.words (number_of m step.place) 0) in
      let now : HasHad l = advance-back m pick.refused s.value l a (subst HasHad (get_or-set_same s.locals pick.worker (advance_of m pick.refused s.value l a).local idle below) has) in
      subst HadEach (begun-done m pick.tries old old.spot) now
  | inr past ↦ subst HasHad (sym (get_or-beyond s.locals pick.worker idle past)) (All-nil (λ (d : Answered). HadMemory d.reply))
]

turn-back : (m : Setup) (s : System) (pick : Pick) → AllHad (turn m s pick) → AllHad s
turn-back m s pick has v = elim (cases_eq v pick.worker) [
  | inl is ↦ subst (λ (k : ℕ). HasHad (local_at s k)) (sym is) (own-back m s pick (has pick.worker))
  | inr other ↦ subst HasHad (get_or-set_other s.locals pick.worker v _ idle other) (has v)
]

pub run-back : (m : Setup) (s : System) (picks : List Pick) → AllHad (run m s picks) → AllHad s
run-back m s [] has = has
run-back m s (pick ∷ picks) has = turn-back m s pick (run-back m (turn m s pick) picks has)

-- turns in the order of the text that refuse nothing lead from the one machine to the other
pub record RefusesNone (m : Setup) (es : List Event) (s last : System) : Type 0 where
  pub picks : List Pick
  pub in_order : AreInOrder m es s picks
  pub kept : RefuseNothing picks
  pub run_is : last ≡ run m s picks

-- where no reply is that memory was lacking, there are such turns
pub none-refused : (m : Setup) (es : List Event) (s : System) (picks : List Pick) → AreInOrder m es s picks → AllHad (run m s picks) → RefusesNone m es s (run m s picks)
none-refused m es s [] order has = record { picks = []; in_order = tt; kept = All-nil (λ (p : Pick). p.refused ≡ false); run_is = refl }
none-refused m es s (pick ∷ picks) order has =
    let w = pick.worker in
    let next = turn m s pick in
    let untried : next ≡ after_step m pick.refused s w (begun m false (local_at s w)) = ap (λ (tries : Bool). after_step m pick.refused s w (begun m tries (local_at s w))) order.1 in
    let same : next ≡ turn m s (own_pick w) = untried ∙ turn-same m s w pick.refused (subst (λ (t : System). HasHad (local_at t w)) untried (run-back m next picks has w)) in
    let rest = none-refused m es next picks order.2 has in
    record {
      picks = own_pick w ∷ rest.picks;
      in_order = (order.0, refl, subst (λ (t : System). AreInOrder m es t rest.picks) same rest.in_order);
      kept = All-cons (λ (p : Pick). p.refused ≡ false) (own_pick w) rest.picks refl rest.kept;
      run_is = rest.run_is ∙ ap (λ (t : System). run m t rest.picks) same;
    }

-- ---- the replies of the round

zipped : (es : List Event) (replies : List Reply) → All HadMemory replies → All (λ (one : Event × Reply). HadMemory one.1) (zip es replies)
zipped [] replies all = All-nil (λ (one : Event × Reply). HadMemory one.1)
zipped (e ∷ es) [] all = All-nil (λ (one : Event × Reply). HadMemory one.1)
zipped (e ∷ es) (reply ∷ replies) all =
    All-cons (λ (one : Event × Reply). HadMemory one.1) (e, reply) (zip es replies) (All-head HadMemory reply replies all) (zipped es replies (All-tail HadMemory reply replies all))

unreversed : (replies : List Reply) → All HadMemory (reverse replies) → All HadMemory replies
unreversed xs all k d low =
    let n = length xs - 1 - k in
    let inside : n < length xs = omega (arith, low) in
    let there : n < length (reverse xs) = omega (arith, inside, length-reverse xs) in
    let back : length xs - 1 - n ≡ k = omega (arith, low) in
    subst HadMemory (get_or-reverse xs n d inside ∙ ap (λ (j : ℕ). get_or xs j d) back) (all n d there)

unmapped : (ds : List Answered) → All HadMemory (map (λ (d : Answered). d.reply) ds) → HadEach ds
unmapped ds all k d low =
    let there : k < length (map (λ (d : Answered). d.reply) ds) = omega (arith, low, length-map ds (λ (d : Answered). d.reply)) in
    subst HadMemory (get_or-map (λ (d : Answered). d.reply) ds k d) (all k d.reply there)

-- where none of them is that memory was lacking, none is so of a worker
pub all-had : (es : List Event) (replies : List Reply) (last : System) → AreReplies es (replies_of last) replies → All HadMemory replies → AllHad last
all-had es replies last are all v =
    let mine : All HadMemory (replies_by v (zip es replies)) = All-map HadMemory (λ (one : Event × Reply). one.1) (filter (is_by v) (zip es replies)) (All-filter (is_by v) (λ (one : Event × Reply). HadMemory one.1) (zip es replies) (zipped es replies all)) in
    let told : All HadMemory (told_to v (replies_of last)) = subst (All HadMemory) (are.own v) mine in
    unmapped (local_at last v).done
    (subst (λ (ds : List Answered). All HadMemory (map (λ (d : Answered). d.reply) ds)) (get_or-map (λ (l : Local). l.done) last.locals v idle)
    (unreversed (map (λ (d : Answered). d.reply) (get_or (replies_of last) v [])) told))
