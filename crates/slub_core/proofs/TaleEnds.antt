-- An object of a chain in hand is given; ends of calls without an object; what is done under a lock; and the begin of a call.
use Rattle.std.proofs.Common.{◌≡◌, ℕ, zero, suc, ◌-◌, ◌<◌, ◌≤◌, false, List, [], ◌∷◌, length, get_or, refl, sym, ap, ◌∙◌, subst, arith, inl, inr, Some}
use Rattle.std.specs.Prelude.{slice_index}
use Rattle.std.proofs.lemmas.Bool.{cases_eq, eq-eqb}
use Rattle.std.proofs.lemmas.List.Sums.{get_or-le-sum_by}
use Rattle.std.proofs.lemmas.List.Elements.{All-head}
use Rattle.slub_common.specs.Times.{times}
use Rattle.slub_object_layout.specs.Layout.{address_of}
use Rattle.slub_words.specs.declared.cpu.CpuWord.{CpuWord}
use Rattle.slub_words.specs.Words.{IsSpent}
use Rattle.slub_trace.specs.declared.reply.Reply.TheVariants as reply
use Rattle.slub_core.specs.declared.call.CallKind.TheVariants.{Alloc, Flush}
use Rattle.slub_core.specs.declared.local.Hand.{Hand}
use Rattle.slub_core.specs.declared.spot.Spot.TheVariants.{InAlloc}
use Rattle.slub_core.specs.declared.spot.AllocSpot.TheVariants.{Install}
use Rattle.slub_core.specs.declared.step.Answer.TheVariants.{Won}
use Rattle.slub_core.specs.Setup.{pool_lock}
use Rattle.slub_core.specs.World.{World, LockValue, set_cpu, set_value, pool_in, pointer, cache_at, object_at, exists_at, on_board}
use Rattle.slub_core.specs.Local.{Worker, no_hand, hand_of}
use Rattle.slub_core.specs.Ops.{own_cpu}
use Rattle.slub_core.specs.Alloc.{installed_word, alloc_advance}
use Rattle.slub_core.specs.Steps.{told}
use Rattle.slub_core.specs.Spots.{Loaded, doing, is_freeing}
use Rattle.slub_core.specs.Placed.{held, in_hands, owned}
use Rattle.slub_core.specs.Fresh.{AreHands, AreHeld, IsAtWork}
use Rattle.slub_core.specs.Coherent.{Stands}
use Rattle.slub_core.specs.Accounted.{IsAccounted}
use Rattle.slub_core.proofs.Counts.{places-cons}
use Rattle.slub_core.proofs.Update.{update_other, term_le_sum}
use Rattle.slub_core.proofs.Chains.{IsChain-first}
use Rattle.slub_core.proofs.Exists.{object_at-le, word-object, exists_at-within, hands-exist, in_chain-here, times-self}
use Rattle.slub_core.proofs.StepValues.{word-cache}
use Rattle.slub_core.proofs.StepHands.{one-hand}
use Rattle.slub_core.proofs.TaleQuiet.{Unseen}
use Rattle.slub_core.proofs.TaleReplies.{AnswersKept, spoken, told-of, told_same}
use Rattle.slub_core.proofs.TaleGiven.{IsUnheld, place-unheld, told_given}
use Rattle.slub_core.proofs.TaleSpots.{unseen-cpu, unseen-same}

at-work : (w : World) (x : Worker) (others : List Worker) → Stands w (x ∷ others) → IsAtWork w x
at-work w x others s = All-head (IsAtWork w) x others s.fresh.workers

-- what a lock guards changes, but not the counts of lacking runs
pub unseen-value : (w : World) (n : ℕ) (v : LockValue) → (n ≡ pool_lock → (order : ℕ) → slice_index (pool_in v).dry order ≡ slice_index (pool_in (w.value pool_lock)).dry order) → Unseen w (set_value w n v)
unseen-value w n v same = record {
  setup = refl;
  tids = λ n. omega arith;
  board = λ o. refl;
  memory = λ p. refl;
  dry = λ order. elim (cases_eq pool_lock n) [
    | inl e ↦ rw (eq-eqb pool_lock n e) (same (sym e) order)
    | inr d ↦ ap (λ v. slice_index (pool_in v).dry order) (update_other w.value n v pool_lock d)
  ];
}

-- ---- an object of a chain in hand

pub hand-unheld : (w : World) (x : Worker) (others : List Worker) (f i : ℕ) → Stands w (x ∷ others) → 1 ≤ in_hands f i x.local.hands x.chains → 1 ≤ object_at w f i → IsUnheld w (x ∷ others) (address_of f i (w.setup.layout (cache_at w f)))
hand-unheld w x others f i s has some =
    place-unheld w x others f i s some (λ k d within. by_place k d within) (λ o within.
    let split = places-cons w s.chains x others f i in
    let once = s.placed.once f i in
    let one = object_at-le w f i in
    let b = term_le_sum w.setup.objects (λ o. on_board (w.board o) f i) o within in
    omega arith)
  where
    by_place : (k : ℕ) (d : Worker) → k < length (x ∷ others) → held f i (get_or (x ∷ others) k d).local ≡ 0
    by_place zero d within =
        let split = places-cons w s.chains x others f i in
        let once = s.placed.once f i in
        let one = object_at-le w f i in
        omega arith
    by_place (suc k) d within =
        let split = places-cons w s.chains x others f i in
        let once = s.placed.once f i in
        let one = object_at-le w f i in
        let h = get_or-le-sum_by (owned f i) others k d (omega arith) in
        omega arith

pub told_Install : (opening w : World) (x : Worker) (others : List Worker) → x.local.spot ≡ InAlloc Install → w.cpu (own_cpu x.local) ≡ x.local.cpu_word → Stands w (x ∷ others) → IsAccounted opening w (x ∷ others)
    → IsAccounted opening (set_cpu w (own_cpu x.local) (installed_word w.setup x.local)) (record x { local = told (alloc_advance w.setup x.local Install Won) } ∷ others)
told_Install opening w x others is won s ac =
    let ok = at-work w x others s in
    let r = one-hand Loaded x.local.hands x.chains (rw is at ok.spot.hands) in
    by_hand r.0 r.1 r.2 r.3 ok
  where
    by_hand : (h : Hand) (xs : List ℕ) → x.local.hands ≡ h ∷ [] → x.chains ≡ xs ∷ [] → IsAtWork w x
        → IsAccounted opening (set_cpu w (own_cpu x.local) (installed_word w.setup x.local)) (record x { local = told (alloc_advance w.setup x.local Install Won) } ∷ others)
    by_hand h xs one chain ok =
        let n = own_cpu x.local in
        let hands : AreHands (Loaded ∷ []) (h ∷ []) (xs ∷ []) = rw (is, one, chain) at ok.spot.hands in
        let held : AreHeld w x.local.cache (Loaded ∷ []) (h ∷ []) (xs ∷ []) 0 = rw (is, one, chain) at ok.seen.hands in
        let first = IsChain-first (pointer w x.local.cache h.frame) h.head xs hands.3.0 held.0 in
        let i = h.head - 1 in
        let inside : 1 ≤ times i xs = (let t = times-self i first.0 in let e : times i xs ≡ times i (i ∷ first.0) = ap (times i) first.1 in omega arith) in
        let c = in_chain-here h.frame xs i in
        let has : 1 ≤ in_hands h.frame i x.local.hands x.chains = rw (one, chain) (omega arith) in
        let most = All-head (λ (o : Worker). in_hands h.frame i o.local.hands o.chains ≤ exists_at w h.frame i) x others (hands-exist w s.chains (x ∷ others) h.frame i s.placed s.listed) in
        let within = exists_at-within w h.frame i (omega arith) in
        let object = word-object w h.frame i (omega arith) in
        let cache : cache_at w h.frame ≡ x.local.cache = word-cache w h.frame (omega arith) ∙ held.1 in
        let un = hand-unheld w x others h.frame i s has (omega arith) in
        let mine : hand_of x.local ≡ h = ap (λ hs. get_or hs 0 no_hand) one in
        let a : address_of h.frame i (w.setup.layout (cache_at w h.frame)) ≡ address_of (hand_of x.local).frame ((hand_of x.local).head - 1) (w.setup.layout x.local.cache)
        = ap (λ k. address_of h.frame i (w.setup.layout k)) cache ∙ ap (λ (h : Hand). address_of h.frame (h.head - 1) (w.setup.layout x.local.cache)) (sym mine) in
        told_given opening w (set_cpu w n (installed_word w.setup x.local)) x (record x { local = told (alloc_advance w.setup x.local Install Won) }) others (hand_of x.local).frame ((hand_of x.local).head - 1) ac
        (spoken w _ x.local _ (unseen-cpu w n (installed_word w.setup x.local) (let t = ap (λ (c : CpuWord). c.tid) won in omega arith)) refl)
        (rw is refl) (rw is refl) (ok.spot.awaits (rw is refl)).1 (rw mine hands.0) (subst (IsUnheld w (x ∷ others)) a un)
        (record { known = refl; done = refl; todo = refl; freeing = refl; call = refl })

-- ---- ends of calls

-- the CPU's transaction ids are spent
pub told_spent : (opening w : World) (x z : Worker) (others : List Worker) → IsAccounted opening w (x ∷ others) → doing x.local.spot ≡ Some Alloc → is_freeing x.local.spot ≡ false → w.setup.checks x.local.cache ≡ false → IsSpent (w.cpu (own_cpu x.local)).tid w.setup.step
    → AnswersKept x.local z.local (reply.IdsSpent (w.cpu (own_cpu x.local)).tid) → IsAccounted opening w (z ∷ others)
told_spent opening w x z others ac at idle plain spent after =
    let l = x.local in
    let call = (told-of opening w x others ac).call Alloc at in
    told_same opening w w x z others Alloc (reply.IdsSpent (w.cpu (own_cpu l)).tid) ac (spoken w w l (reply.IdsSpent (w.cpu (own_cpu l)).tid) (unseen-same w) refl) call.0 idle refl refl after
    (call.0.same_kind, spent, (l.cache, call.1.0, plain, rw call.1.1 (omega arith)))

-- a flush ends
pub told_flushed : (opening w v : World) (x z : Worker) (others : List Worker) (n : ℕ) → IsAccounted opening w (x ∷ others) → Unseen w v → doing x.local.spot ≡ Some Flush → is_freeing x.local.spot ≡ false
    → AnswersKept x.local z.local (reply.Flushed n) → IsAccounted opening v (z ∷ others)
told_flushed opening w v x z others n ac same at idle after =
    let call = (told-of opening w x others ac).call Flush at in
    told_same opening w v x z others Flush (reply.Flushed n) ac (spoken w v x.local (reply.Flushed n) same refl) call.0 idle refl refl after call.0.same_kind
