-- Kind 20, spot by spot: a free pointer is stored in a run in hand, or at the end of a chain in hand.
use Rattle.std.proofs.Common.{◌≡◌, ◌≢◌, ℕ, suc, ◌+◌, ◌-◌, ◌<◌, ◌≤◌, ◌==◌, true, false, Option, Some, None, List, ◌∷◌, length, refl, sym, ap, ◌∙◌, subst, arith, inl, inr}
use Rattle.std.specs.Prelude.{nat_lt, slice_index, IsSome}
use Rattle.std.proofs.lemmas.Bool.{cases_eq, ltb-true, ltb-false, le-ltb, ne_eqb, cond_both, false≢true}
use Rattle.std.proofs.lemmas.List.Elements.{All-head}
use Rattle.slub_common.specs.Times.{times}
use Rattle.slub_core.specs.declared.local.FrameRun.{FrameRun}
use Rattle.slub_core.specs.declared.local.Hand.{Hand}
use Rattle.slub_core.specs.declared.step.Answer.TheVariants.{Done}
use Rattle.slub_core.specs.declared.spot.Spot.{Spot}
use Rattle.slub_core.specs.declared.spot.Spot.TheVariants.{InAlloc, InPutAway}
use Rattle.slub_core.specs.declared.spot.AllocSpot.TheVariants.{LinkNew, Make}
use Rattle.slub_core.specs.declared.spot.Away.{Away}
use Rattle.slub_core.specs.declared.spot.PutAwaySpot.TheVariants.{LinkLast, Unfreeze}
use Rattle.slub_core.specs.Setup.{pointer_at, hardened}
use Rattle.slub_core.specs.World.{World, set_memory, pointer, exists_at, object_at, in_chain, Leads}
use Rattle.slub_core.specs.Local.{Worker, run_of, run_in, hand_of, at}
use Rattle.slub_core.specs.Alloc.{alloc_advance, way_of_link}
use Rattle.slub_core.specs.PutAway.{put_away_advance}
use Rattle.slub_core.specs.Spots.{Leaving, Untied, beside_away}
use Rattle.slub_core.specs.Placed.{owned, in_hands}
use Rattle.slub_core.specs.Fresh.{IsHeldRun, AreHands, AreHeld, IsAtWork, rising_next}
use Rattle.slub_core.specs.Coherent.{Stands}
use Rattle.slub_core.proofs.Apart.{apart-object, apart-run}
use Rattle.slub_core.proofs.Exists.{in_chain-here, owned-object, hands-exist, object_at-le}
use Rattle.slub_core.proofs.StepHands.{first-hand}
use Rattle.slub_core.proofs.Kind4.{pointer-here}
use Rattle.slub_core.proofs.Lists.{times-at}
use Rattle.slub_core.proofs.LocalStep.{Settled}
use Rattle.slub_core.proofs.Locks.{ComesTo}
use Rattle.slub_core.proofs.MemoryStep.{IsApart, memory_step, held-memory, pointer-other}
use Rattle.slub_core.proofs.Slots.{IsWordOf, pointer-word, word-index}
use Rattle.slub_core.proofs.Walks.{Leads-set, times-two}

-- ---- a run in hand

-- one free pointer more is stored
stored-more : (w : World) (cache : ℕ) (run : FrameRun) (i : ℕ) → ((j : ℕ) → pointer_at w.setup cache run.frame j ≡ pointer_at w.setup cache run.frame i → j ≡ i) → IsHeldRun w cache (Some run) i
    → IsHeldRun (set_memory w (pointer_at w.setup cache run.frame i) (hardened cache (pointer_at w.setup cache run.frame i) (rising_next run.objects i))) cache (Some run) (i + 1)
stored-more w cache run i one held = (
  held.0,
  held.1,
  λ j below. elim (cases_eq j i) [
    | inl e ↦ subst (λ k. pointer (set_memory w (pointer_at w.setup cache run.frame i) (hardened cache (pointer_at w.setup cache run.frame i) (rising_next run.objects i))) cache run.frame k ≡ rising_next run.objects k) (sym e) (pointer-here w cache run.frame i (rising_next run.objects i))
    | inr d ↦ pointer-other w (pointer_at w.setup cache run.frame i) _ cache run.frame j (λ h. d (one j h)) ∙ held.2 j (omega (arith, d))
  ],
)

link_new-work : (w : World) (x : Worker) (p v i : ℕ) → x.local.spot ≡ InAlloc (LinkNew i) → i + 1 < (run_of x.local).objects → IsHeldRun (set_memory w p v) x.local.cache x.local.run (i + 1)
    → IsAtWork w x → IsAtWork (set_memory w p v) (record x { local = at x.local (InAlloc (LinkNew (i + 1))) })
link_new-work w x p v i is more held ok = grind arith

make-work : (w : World) (x : Worker) (p v i : ℕ) → x.local.spot ≡ InAlloc (LinkNew i) → IsHeldRun (set_memory w p v) x.local.cache x.local.run (run_of x.local).objects
    → IsAtWork w x → IsAtWork (set_memory w p v) (record x { local = at x.local (InAlloc Make) })
make-work w x p v i is held ok = grind arith

pub at_LinkNew : (w : World) (x : Worker) (others : List Worker) (i : ℕ) → x.local.spot ≡ InAlloc (LinkNew i) → Stands w (x ∷ others)
    → ComesTo (set_memory w (pointer_at w.setup x.local.cache (run_of x.local).frame i) (hardened x.local.cache (pointer_at w.setup x.local.cache (run_of x.local).frame i) (rising_next (run_of x.local).objects i))) others
    (alloc_advance w.setup x.local (LinkNew i) Done).local
at_LinkNew w x others i is s = by_run x.local.run refl
  where
    ok : IsAtWork w x
    ok = All-head (IsAtWork w) x others s.fresh.workers

    p : ℕ
    p = pointer_at w.setup x.local.cache (run_of x.local).frame i

    v : ℕ
    v = hardened x.local.cache p (rising_next (run_of x.local).objects i)

    by_run : (r : Option FrameRun) → x.local.run ≡ r → ComesTo (set_memory w p v) others (at x.local (way_of_link x.local i))
    by_run None none = absurd (let some : IsSome x.local.run = ok.spot.run (rw is refl) in false≢true (rw none at some))
    by_run (Some run) some =
        let mine : run_of x.local ≡ run = ap run_in some in
        let room : i < run.objects = (let b : i < (run_of x.local).objects = rw is at (ok.spot.unstored (rw is refl)) in rw mine at b) in
        let had : IsHeldRun w x.local.cache (Some run) i = (let h : IsHeldRun w x.local.cache x.local.run i = rw is at ok.seen.run in rw some at h) in
        let live = (ok.spot.plain (rw is refl)).1 in
        let one : (j : ℕ) → pointer_at w.setup x.local.cache run.frame j ≡ pointer_at w.setup x.local.cache run.frame i → j ≡ i
        = λ j e. word-index (w.setup.layout x.local.cache) run.frame j i (pointer_at w.setup x.local.cache run.frame i)
        (subst (λ q. IsWordOf (w.setup.layout x.local.cache) run.frame j q) e (pointer-word w.setup x.local.cache run.frame j s.fresh.setup live))
        (pointer-word w.setup x.local.cache run.frame i s.fresh.setup live) in
        let at_p : p ≡ pointer_at w.setup x.local.cache run.frame i = ap (λ (r : FrameRun). pointer_at w.setup x.local.cache r.frame i) mine in
        let at_v : v ≡ hardened x.local.cache (pointer_at w.setup x.local.cache run.frame i) (rising_next run.objects i)
        = ap (λ (r : FrameRun). hardened x.local.cache (pointer_at w.setup x.local.cache r.frame i) (rising_next r.objects i)) mine in
        let more : IsHeldRun (set_memory w p v) x.local.cache x.local.run (i + 1)
        = subst (λ r. IsHeldRun (set_memory w p v) x.local.cache r (i + 1)) (sym some)
        (subst (λ q. IsHeldRun (set_memory w q v) x.local.cache (Some run) (i + 1)) (sym at_p)
        (subst (λ u. IsHeldRun (set_memory w (pointer_at w.setup x.local.cache run.frame i) u) x.local.cache (Some run) (i + 1)) (sym at_v) (stored-more w x.local.cache run i one had))) in
        let none : exists_at w run.frame i ≡ 0 = rw (le-ltb i (w.slab run.frame).objects (let z = had.1 in omega arith)) refl in
        let apart : IsApart w others run.frame i p = subst (λ q. IsApart w others run.frame i q) (sym at_p) (apart-run w x others run i s some room) in
        let step : (spot : Spot) → Settled x (record x { local = at x.local spot }) → IsAtWork (set_memory w p v) (record x { local = at x.local spot }) → Stands (set_memory w p v) (record x { local = at x.local spot } ∷ others)
        = λ spot settled work. memory_step w x (record x { local = at x.local spot }) others run.frame i p v s apart (inr none) (λ g j. refl) settled work in (
          record x { local = at x.local (way_of_link x.local i) },
          refl,
          cond_both (nat_lt (i + 1) (run_of x.local).objects) (InAlloc (LinkNew (i + 1))) (InAlloc Make) (λ spot. Stands (set_memory w p v) (record x { local = at x.local spot } ∷ others))
              (λ e. step (InAlloc (LinkNew (i + 1))) (record { home = λ f. refl; marked = λ f. rw is refl; covered = λ g. refl; takes = λ k. rw is refl })
              (link_new-work w x p v i is (ltb-true (i + 1) (run_of x.local).objects e) more ok))
              (λ e. step (InAlloc Make) (record { home = λ f. refl; marked = λ f. rw is refl; covered = λ g. refl; takes = λ k. rw is refl })
              (make-work w x p v i is (let a = ltb-false (i + 1) (run_of x.local).objects e in let b : i < (run_of x.local).objects = rw mine room in let n : i + 1 ≡ (run_of x.local).objects = omega arith in subst (λ k. IsHeldRun (set_memory w p v) x.local.cache x.local.run k) n more) ok)),
        )

-- ---- the end of a chain in hand

link_last-work : (w : World) (x : Worker) (p v : ℕ) (away : Away) → x.local.spot ≡ InPutAway LinkLast away → x.local.run ≡ None → ((hand_of x.local).head == 0) ≡ false
    → AreHeld (set_memory w p v) x.local.cache (Leaving ∷ beside_away away) x.local.hands x.chains x.local.slab_word.head → IsAtWork w x → IsAtWork (set_memory w p v) (record x { local = at x.local (InPutAway Unfreeze away) })
link_last-work w x p v away is none some held ok = grind arith

pub at_LinkLast : (w : World) (x : Worker) (others : List Worker) (away : Away) → x.local.spot ≡ InPutAway LinkLast away → Stands w (x ∷ others)
    → ComesTo (set_memory w (pointer_at w.setup x.local.cache (hand_of x.local).frame ((hand_of x.local).last - 1)) (hardened x.local.cache (pointer_at w.setup x.local.cache (hand_of x.local).frame ((hand_of x.local).last - 1)) x.local.slab_word.head)) others
    (put_away_advance w.setup w.value x.local LinkLast away Done).local
at_LinkLast w x others away is s =
    let hands : AreHands (Untied ∷ beside_away away) x.local.hands x.chains = rw is at (All-head (IsAtWork w) x others s.fresh.workers).spot.hands in
    let r = first-hand Untied (beside_away away) x.local.hands x.chains hands in
    by_hand r.0 r.1 r.2 r.3 r.4 r.5
  where
    ok : IsAtWork w x
    ok = All-head (IsAtWork w) x others s.fresh.workers

    p : ℕ
    p = pointer_at w.setup x.local.cache (hand_of x.local).frame ((hand_of x.local).last - 1)

    v : ℕ
    v = hardened x.local.cache p x.local.slab_word.head

    by_hand : (h : Hand) (hs : List Hand) (xs : List ℕ) (xss : List (List ℕ)) → x.local.hands ≡ h ∷ hs → x.chains ≡ xs ∷ xss → ComesTo (set_memory w p v) others (at x.local (InPutAway Unfreeze away))
    by_hand h hs xs xss one chain =
        let hands : AreHands (Untied ∷ beside_away away) (h ∷ hs) (xs ∷ xss) = rw (is, one, chain) at ok.spot.hands in
        let held : AreHeld w x.local.cache (Untied ∷ beside_away away) (h ∷ hs) (xs ∷ xss) 0 = rw (is, one, chain) at ok.seen.hands in
        let hand : hand_of x.local ≡ h = rw one refl in
        let some : 1 ≤ h.head = (let t : 1 ≤ (hand_of x.local).head = ok.spot.some_chain (rw is refl) in rw hand at t) in
        let walked : h.walked ≡ true = (let t : 1 ≤ (hand_of x.local).head → (hand_of x.local).walked ≡ true = ok.spot.walked (rw is refl) in (rw hand at t) some) in
        let ended = hands.4.ended walked in
        let long : 1 ≤ length xs = (let a = ended.0 in let c = ended.1 in omega arith) in
        let last : h.last ≡ suc (slice_index xs (length xs - 1)) = hands.4.last ended.1 ∙ ap (λ n. suc (slice_index xs (n - 1))) ended.0 in
        let i : ℕ = slice_index xs (length xs - 1) in
        let at_i : h.last - 1 ≡ i = omega arith in
        let at_p : p ≡ pointer_at w.setup x.local.cache h.frame i = ap (λ (g : Hand). pointer_at w.setup x.local.cache g.frame (g.last - 1)) hand ∙ ap (pointer_at w.setup x.local.cache h.frame) at_i in
        let counted : (f j : ℕ) → in_chain h.frame xs f j + in_hands f j hs xss ≤ owned f j x = λ f j. owned-first x h hs xs xss f j one chain in
        let in_slab : 1 ≤ times i xs = times-at i xs (length xs - 1) (omega arith) refl in
        let here = in_chain-here h.frame xs i in
        let mine : 1 ≤ owned h.frame i x = (let c = counted h.frame i in omega arith) in
        let object = All-head (λ o. owned h.frame i o ≤ object_at w h.frame i) x others (owned-object w s.chains (x ∷ others) h.frame i s.placed) in
        let once = object_at-le w h.frame i in
        let exist : (g j : ℕ) → in_chain h.frame xs g j + in_hands g j hs xss ≤ exists_at w g j = λ g j.
        let e = All-head (λ (o : Worker). in_hands g j o.local.hands o.chains ≤ exists_at w g j) x others (hands-exist w s.chains (x ∷ others) g j s.placed s.listed) in
        (rw (one, chain) at e) in
        let there : 1 ≤ exists_at w h.frame i = (let e = exist h.frame i in omega arith) in
        let live = (ok.spot.plain (rw is refl)).1 in
        let word : IsWordOf (w.setup.layout (w.slab h.frame).cache) h.frame i p
        = subst (λ c. IsWordOf (w.setup.layout c) h.frame i p) (sym held.1) (subst (λ q. IsWordOf (w.setup.layout x.local.cache) h.frame i q) (sym at_p) (pointer-word w.setup x.local.cache h.frame i s.fresh.setup live)) in
        let apart = apart-object w x others h.frame i p s there word in
        let inner : (k : ℕ) → suc k < length xs → pointer (set_memory w p v) x.local.cache h.frame (slice_index xs k) ≡ pointer w x.local.cache h.frame (slice_index xs k) = λ k below.
        pointer-other w p v x.local.cache h.frame (slice_index xs k)
        (subst (λ c. pointer_at w.setup c h.frame (slice_index xs k) ≢ p) held.1 (apart.objects h.frame (slice_index xs k)
        (let t = times-at (slice_index xs k) xs k (omega arith) refl in let c = in_chain-here h.frame xs (slice_index xs k) in let e = exist h.frame (slice_index xs k) in omega arith)
        (λ _ e. absurd (let t = times-two i xs k (length xs - 1) (omega arith) (omega arith) e refl in let c = counted h.frame i in omega arith)))) in
        let end : pointer (set_memory w p v) x.local.cache h.frame i ≡ x.local.slab_word.head
        = subst (λ q. pointer (set_memory w q (hardened x.local.cache q x.local.slab_word.head)) x.local.cache h.frame i ≡ x.local.slab_word.head) (sym at_p) (pointer-here w x.local.cache h.frame i x.local.slab_word.head) in
        let chain' : Leads (pointer (set_memory w p v) x.local.cache h.frame) h.head xs x.local.slab_word.head
        = Leads-set (pointer w x.local.cache h.frame) (pointer (set_memory w p v) x.local.cache h.frame) h.head xs held.0.0 x.local.slab_word.head long inner end held.0.1 in
        let rest : AreHeld (set_memory w p v) x.local.cache (beside_away away) hs xss 0
        = held-memory w p v x.local.cache (beside_away away) hs xss 0
        (λ g j has. apart.objects g j (let e = exist g j in omega arith)
        (λ a b. absurd (let t : 1 ≤ in_hands h.frame i hs xss = subst (λ f. 1 ≤ in_hands f i hs xss) a (subst (λ k. 1 ≤ in_hands g k hs xss) b has) in let c = counted h.frame i in omega arith))) held.3 in
        let all : AreHeld (set_memory w p v) x.local.cache (Leaving ∷ beside_away away) x.local.hands x.chains x.local.slab_word.head
        = subst (λ gs. AreHeld (set_memory w p v) x.local.cache (Leaving ∷ beside_away away) gs x.chains x.local.slab_word.head) (sym one)
        (subst (λ cs. AreHeld (set_memory w p v) x.local.cache (Leaving ∷ beside_away away) (h ∷ hs) cs x.local.slab_word.head) (sym chain) (chain', held.1, held.2, rest)) in (
          record x { local = at x.local (InPutAway Unfreeze away) },
          refl,
          memory_step w x _ others h.frame i p v s apart (inl mine) (λ g j. refl) (record { home = λ f. refl; marked = λ f. rw is refl; covered = λ g. refl; takes = λ k. rw is refl })
              (link_last-work w x p v away is (ok.spot.no_run (rw is refl)) (rw hand (ne_eqb h.head 0 (λ z. absurd (omega arith)))) all ok),
        )
      where
        owned-first : (x : Worker) (h : Hand) (hs : List Hand) (xs : List ℕ) (xss : List (List ℕ)) (f j : ℕ) → x.local.hands ≡ h ∷ hs → x.chains ≡ xs ∷ xss → in_chain h.frame xs f j + in_hands f j hs xss ≤ owned f j x
        owned-first x h hs xs xss f j one chain = rw (one, chain) (omega arith)
