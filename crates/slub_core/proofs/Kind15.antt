-- Kind 15: a slab is taken off its CPU, with the CPU freelist.
use Rattle.std.proofs.Common.{◌≡◌, ◌≢◌, ℕ, ◌+◌, ◌/◌, ◌≤◌, ◌==◌, ◌||◌, true, false, List, [], ◌∷◌, refl, sym, ap, ◌∙◌, subst, arith, inl, inr}
use Rattle.std.proofs.lemmas.Bool.{cond_both, eqb-true, eqb-false, or_parts, or_cases, ne_eqb, false≢true}
use Rattle.std.proofs.lemmas.List.Elements.{All-head}
use Rattle.slub_words.specs.declared.cpu.CpuWord.{CpuWord}
use Rattle.slub_core.specs.declared.local.Hand.{Hand}
use Rattle.slub_core.specs.declared.step.Answer.TheVariants.{Won}
use Rattle.slub_core.specs.declared.spot.Spot.{Spot}
use Rattle.slub_core.specs.declared.spot.Spot.TheVariants.{InAlloc, InPutAway, InOffline}
use Rattle.slub_core.specs.declared.spot.AllocSpot.TheVariants.{Detach, LoadTaken, DetachOther}
use Rattle.slub_core.specs.declared.spot.Away.TheVariants.{ForInstall, ForSweep}
use Rattle.slub_core.specs.declared.spot.PutAwaySpot.TheVariants.{WalkChain, LockAway}
use Rattle.slub_core.specs.declared.spot.Sweep.{Sweep}
use Rattle.slub_core.specs.declared.spot.OfflineSpot.TheVariants.{DetachCurrent}
use Rattle.slub_core.specs.World.{World, set_cpu, pointer, one_if, IsChain}
use Rattle.slub_core.specs.Local.{Local, Worker, hand_from}
use Rattle.slub_core.specs.Ops.{own_cpu}
use Rattle.slub_core.specs.Alloc.{alloc_advance, detached_word, way_of_away}
use Rattle.slub_core.specs.Offline.{offline_advance, if_flushing}
use Rattle.slub_core.specs.Spots.{Taken, Loaded, Leaving, in_plain, detaches, notes_cpu}
use Rattle.slub_core.specs.Listed.{marked_of, takes}
use Rattle.slub_core.specs.Fresh.{IsWalk, AreHands, AreHeld, IsAtWork}
use Rattle.slub_core.specs.Coherent.{Stands}
use Rattle.slub_core.proofs.Chains.{IsChain-none}
use Rattle.slub_core.proofs.Changes.{own-word, grown, in_chain-same, current-slab}
use Rattle.slub_core.proofs.CpuStep.{cpu_step}
use Rattle.slub_core.proofs.StepHands.{in_chain-nil}
use Rattle.slub_core.proofs.Locks.{ComesTo}

-- no walk has begun
pub fresh-walk : (xs : List ℕ) (frame head : ℕ) → IsWalk xs (hand_from frame head)
fresh-walk xs frame head = record { short = omega arith; last = λ some. absurd (omega arith); ended = λ e. absurd (false≢true e) }

-- what a detach owes, whatever spot it leads to: the slab with its chain is one hand more
detached : (w : World) (x : Worker) (others : List Worker) (l : Local) (s : Stands w (x ∷ others)) → in_plain x.local.spot ≡ true → notes_cpu x.local.spot ≡ true → detaches x.local.spot ≡ true
    → w.cpu (own_cpu x.local) ≡ x.local.cpu_word
    → l.known ≡ x.local.known → l.hands ≡ hand_from x.local.cpu_word.frame x.local.cpu_word.head ∷ x.local.hands → l.run ≡ x.local.run
    → ((f : ℕ) → marked_of f (record { local = l; chains = s.chains.cpu (own_cpu x.local) ∷ x.chains; string = x.string }) ≡ marked_of f x)
    → ((k : ℕ) → takes k (record { local = l; chains = s.chains.cpu (own_cpu x.local) ∷ x.chains; string = x.string }) ≡ takes k x)
    → IsAtWork (set_cpu w (own_cpu x.local) (detached_word w.setup x.local)) (record { local = l; chains = s.chains.cpu (own_cpu x.local) ∷ x.chains; string = x.string })
    → Stands (set_cpu w (own_cpu x.local) (detached_word w.setup x.local)) (record { local = l; chains = s.chains.cpu (own_cpu x.local) ∷ x.chains; string = x.string } ∷ others)
detached w x others l s plain notes some won known hands run marked locks work =
    let ok = All-head (IsAtWork w) x others s.fresh.workers in
    let n = own_cpu x.local in
    let c = x.local.cpu_word in
    let xs = s.chains.cpu n in
    let own = own-word w x others s plain in
    let frame = ap (λ (c : CpuWord). c.frame) won in
    cpu_step w x (record { local = l; chains = xs ∷ x.chains; string = x.string }) others n (detached_word w.setup x.local) [] s own.0
    (grown w n c 0 0 s.fresh.setup won (ok.spot.noted.step notes) (λ some. absurd (some refl)) (omega arith) (omega arith) (λ some. absurd (some refl)) (λ _. refl))
    refl
    (λ f i. rw (known, hands) (let was = in_chain-same (w.cpu n) c xs xs f i won refl in let e = in_chain-nil 0 f i in omega arith))
    (λ f real. rw hands (let a : one_if ((w.cpu n).frame == f) ≡ one_if (c.frame == f) = ap (λ g. one_if (g == f)) frame in let z : one_if (0 == f) ≡ 0 = rw (ne_eqb 0 f (λ e. real (sym e))) refl in omega arith))
    marked (λ g. rw run refl) locks work

-- the chain, as the worker then has it
taken-chain : (w : World) (x : Worker) (others : List Worker) (s : Stands w (x ∷ others)) → in_plain x.local.spot ≡ true → w.cpu (own_cpu x.local) ≡ x.local.cpu_word
    → IsChain (pointer w x.local.cache x.local.cpu_word.frame) x.local.cpu_word.head (s.chains.cpu (own_cpu x.local))
taken-chain w x others s is won =
    let own = own-word w x others s is in
    let c : IsChain (pointer w (own_cpu x.local / 16) x.local.cpu_word.frame) x.local.cpu_word.head (s.chains.cpu (own_cpu x.local)) = rw won at (s.placed.cpu_chain (own_cpu x.local) own.0) in
    subst (λ k. IsChain (pointer w k x.local.cpu_word.frame) x.local.cpu_word.head (s.chains.cpu (own_cpu x.local))) own.1 c

-- ---- an allocation, where the CPU freelist is empty

taken-work : (w : World) (x : Worker) (n : ℕ) (v : CpuWord) (h : Hand) → x.local.spot ≡ InAlloc Detach → AreHands (Taken ∷ []) (h ∷ x.local.hands) ([] ∷ x.chains) → AreHeld (set_cpu w n v) x.local.cache (Taken ∷ []) (h ∷ x.local.hands) ([] ∷ x.chains) 0
    → IsAtWork w x → IsAtWork (set_cpu w n v) (record x { local = record x.local { hands = h ∷ x.local.hands; spot = InAlloc LoadTaken }; chains = [] ∷ x.chains })
taken-work w x n v h is hands held ok = grind arith

pub at_Detach-won : (w : World) (x : Worker) (others : List Worker) → x.local.spot ≡ InAlloc Detach → w.cpu (own_cpu x.local) ≡ x.local.cpu_word → Stands w (x ∷ others)
    → ComesTo (set_cpu w (own_cpu x.local) (detached_word w.setup x.local)) others (alloc_advance w.setup x.local Detach Won).local
at_Detach-won w x others is won s = (record { local = l; chains = xs ∷ x.chains; string = x.string }, refl, steps)
  where
    n : ℕ
    n = own_cpu x.local

    c : CpuWord
    c = x.local.cpu_word

    h : Hand
    h = hand_from x.local.cpu_word.frame x.local.cpu_word.head

    l : Local
    l = record x.local { hands = h ∷ x.local.hands; spot = InAlloc LoadTaken }

    xs : List ℕ
    xs = s.chains.cpu (own_cpu x.local)

    ok : IsAtWork w x
    ok = All-head (IsAtWork w) x others s.fresh.workers

    real : c.frame ≢ 0
    real = ok.spot.noted.slab (rw is refl)

    none : c.head ≡ 0
    none = ok.spot.noted.empty (rw is refl)

    nil : xs ≡ []
    nil = IsChain-none (pointer w x.local.cache c.frame) c.head xs none (taken-chain w x others s (rw is refl) won)

    work : IsAtWork (set_cpu w n (detached_word w.setup x.local)) (record { local = l; chains = [] ∷ x.chains; string = x.string })
    work =
        let p = ok.spot.packed.cpu_word in
        let slab = current-slab w x others s (rw is refl) won real in
        let own = own-word w x others s (rw is refl) in
        let rest : AreHands [] x.local.hands x.chains = rw is at ok.spot.hands in
        taken-work w x n (detached_word w.setup x.local) h is (omega (arith, real), p.1, p.2, (none, refl), fresh-walk [] c.frame c.head, rest) (none, slab.0 ∙ own.1, slab.1, tt) ok

    steps : Stands (set_cpu w n (detached_word w.setup x.local)) (record { local = l; chains = xs ∷ x.chains; string = x.string } ∷ others)
    steps = detached w x others l s (rw is refl) (rw is refl) (rw is refl) won refl refl refl (λ f. rw is refl) (λ k. rw is refl)
        (subst (λ ys. IsAtWork (set_cpu w n (detached_word w.setup x.local)) (record { local = l; chains = ys ∷ x.chains; string = x.string })) (sym nil) work)

-- ---- another slab is current where one is to be installed

other_lock-work : (w : World) (x : Worker) (n : ℕ) (v : CpuWord) (h : Hand) (xs : List ℕ) → x.local.spot ≡ InAlloc DetachOther → AreHands (Leaving ∷ Loaded ∷ []) (h ∷ x.local.hands) (xs ∷ x.chains) → AreHeld (set_cpu w n v) x.local.cache (Leaving ∷ Loaded ∷ []) (h ∷ x.local.hands) (xs ∷ x.chains) 0
    → (1 ≤ h.head → h.walked ≡ true) → IsAtWork w x → IsAtWork (set_cpu w n v) (record x { local = record x.local { hands = h ∷ x.local.hands; spot = InPutAway LockAway ForInstall }; chains = xs ∷ x.chains })
other_lock-work w x n v h xs is hands held walked ok = grind arith

other_walk-work : (w : World) (x : Worker) (n : ℕ) (v : CpuWord) (h : Hand) (xs : List ℕ) → x.local.spot ≡ InAlloc DetachOther → AreHands (Leaving ∷ Loaded ∷ []) (h ∷ x.local.hands) (xs ∷ x.chains) → AreHeld (set_cpu w n v) x.local.cache (Leaving ∷ Loaded ∷ []) (h ∷ x.local.hands) (xs ∷ x.chains) 0
    → 1 ≤ h.head → h.walked ≡ false → IsAtWork w x → IsAtWork (set_cpu w n v) (record x { local = record x.local { hands = h ∷ x.local.hands; spot = InPutAway WalkChain ForInstall }; chains = xs ∷ x.chains })
other_walk-work w x n v h xs is hands held some walked ok = grind arith

pub at_DetachOther-won : (w : World) (x : Worker) (others : List Worker) → x.local.spot ≡ InAlloc DetachOther → w.cpu (own_cpu x.local) ≡ x.local.cpu_word → Stands w (x ∷ others)
    → ComesTo (set_cpu w (own_cpu x.local) (detached_word w.setup x.local)) others (alloc_advance w.setup x.local DetachOther Won).local
at_DetachOther-won w x others is won s = (goes (way_of_away h ForInstall), refl, by_head)
  where
    n : ℕ
    n = own_cpu x.local

    c : CpuWord
    c = x.local.cpu_word

    h : Hand
    h = hand_from x.local.cpu_word.frame x.local.cpu_word.head

    xs : List ℕ
    xs = s.chains.cpu (own_cpu x.local)

    goes : Spot → Worker
    goes spot = record { local = record x.local { hands = h ∷ x.local.hands; spot = spot }; chains = xs ∷ x.chains; string = x.string }

    ok : IsAtWork w x
    ok = All-head (IsAtWork w) x others s.fresh.workers

    real : c.frame ≢ 0
    real = ok.spot.noted.slab (rw is refl)

    hands : AreHands (Leaving ∷ Loaded ∷ []) (h ∷ x.local.hands) (xs ∷ x.chains)
    hands = let p = ok.spot.packed.cpu_word in let rest : AreHands (Loaded ∷ []) x.local.hands x.chains = rw is at ok.spot.hands in (omega (arith, real), p.1, p.2, tt, fresh-walk xs c.frame c.head, rest)

    held : AreHeld w x.local.cache (Leaving ∷ Loaded ∷ []) (h ∷ x.local.hands) (xs ∷ x.chains) 0
    held =
        let slab = current-slab w x others s (rw is refl) won real in
        let own = own-word w x others s (rw is refl) in
        let rest : AreHeld w x.local.cache (Loaded ∷ []) x.local.hands x.chains 0 = rw is at ok.seen.hands in
        (taken-chain w x others s (rw is refl) won, slab.0 ∙ own.1, slab.1, rest)

    by_head : Stands (set_cpu w n (detached_word w.setup x.local)) (goes (way_of_away h ForInstall) ∷ others)
    by_head = cond_both ((h.head == 0) || h.walked) (InPutAway LockAway ForInstall) (InPutAway WalkChain ForInstall) (λ spot. Stands (set_cpu w n (detached_word w.setup x.local)) (goes spot ∷ others))
        (λ e. detached w x others _ s (rw is refl) (rw is refl) (rw is refl) won refl refl refl (λ f. rw is refl) (λ k. rw is refl)
        (other_lock-work w x n (detached_word w.setup x.local) h xs is hands held (λ some. elim (or_cases (h.head == 0) h.walked e) [ inl z ↦ absurd (let d = eqb-true h.head 0 z in omega arith) | inr t ↦ t ]) ok))
        (λ e. detached w x others _ s (rw is refl) (rw is refl) (rw is refl) won refl refl refl (λ f. rw is refl) (λ k. rw is refl)
        (other_walk-work w x n (detached_word w.setup x.local) h xs is hands held (let d = eqb-false h.head 0 (or_parts (h.head == 0) h.walked e).0 in omega (arith, d)) refl ok))

-- ---- a sweep

current_lock-work : (w : World) (x : Worker) (n : ℕ) (v : CpuWord) (h : Hand) (xs : List ℕ) (sweep : Sweep) (count : ℕ) → x.local.spot ≡ InOffline DetachCurrent sweep → AreHands (Leaving ∷ []) (h ∷ x.local.hands) (xs ∷ x.chains) → AreHeld (set_cpu w n v) x.local.cache (Leaving ∷ []) (h ∷ x.local.hands) (xs ∷ x.chains) 0
    → (1 ≤ h.head → h.walked ≡ true) → IsAtWork w x → IsAtWork (set_cpu w n v) (record x { local = record x.local { hands = h ∷ x.local.hands; count = count; spot = InPutAway LockAway (ForSweep sweep) }; chains = xs ∷ x.chains })
current_lock-work w x n v h xs sweep count is hands held walked ok = grind arith

current_walk-work : (w : World) (x : Worker) (n : ℕ) (v : CpuWord) (h : Hand) (xs : List ℕ) (sweep : Sweep) (count : ℕ) → x.local.spot ≡ InOffline DetachCurrent sweep → AreHands (Leaving ∷ []) (h ∷ x.local.hands) (xs ∷ x.chains) → AreHeld (set_cpu w n v) x.local.cache (Leaving ∷ []) (h ∷ x.local.hands) (xs ∷ x.chains) 0
    → 1 ≤ h.head → h.walked ≡ false → IsAtWork w x → IsAtWork (set_cpu w n v) (record x { local = record x.local { hands = h ∷ x.local.hands; count = count; spot = InPutAway WalkChain (ForSweep sweep) }; chains = xs ∷ x.chains })
current_walk-work w x n v h xs sweep count is hands held some walked ok = grind arith

pub at_DetachCurrent-won : (w : World) (x : Worker) (others : List Worker) (sweep : Sweep) → x.local.spot ≡ InOffline DetachCurrent sweep → w.cpu (own_cpu x.local) ≡ x.local.cpu_word → Stands w (x ∷ others)
    → ComesTo (set_cpu w (own_cpu x.local) (detached_word w.setup x.local)) others (offline_advance w.setup x.local DetachCurrent sweep Won).local
at_DetachCurrent-won w x others sweep is won s = (goes (way_of_away h (ForSweep sweep)), refl, by_head)
  where
    n : ℕ
    n = own_cpu x.local

    c : CpuWord
    c = x.local.cpu_word

    h : Hand
    h = hand_from x.local.cpu_word.frame x.local.cpu_word.head

    xs : List ℕ
    xs = s.chains.cpu (own_cpu x.local)

    goes : Spot → Worker
    goes spot = record { local = record x.local { hands = h ∷ x.local.hands; count = x.local.count + if_flushing sweep 1; spot = spot }; chains = xs ∷ x.chains; string = x.string }

    ok : IsAtWork w x
    ok = All-head (IsAtWork w) x others s.fresh.workers

    real : c.frame ≢ 0
    real = ok.spot.noted.slab (rw is refl)

    hands : AreHands (Leaving ∷ []) (h ∷ x.local.hands) (xs ∷ x.chains)
    hands = let p = ok.spot.packed.cpu_word in let rest : AreHands [] x.local.hands x.chains = rw is at ok.spot.hands in (omega (arith, real), p.1, p.2, tt, fresh-walk xs c.frame c.head, rest)

    held : AreHeld w x.local.cache (Leaving ∷ []) (h ∷ x.local.hands) (xs ∷ x.chains) 0
    held =
        let slab = current-slab w x others s (rw is refl) won real in
        let own = own-word w x others s (rw is refl) in
        (taken-chain w x others s (rw is refl) won, slab.0 ∙ own.1, slab.1, tt)

    by_head : Stands (set_cpu w n (detached_word w.setup x.local)) (goes (way_of_away h (ForSweep sweep)) ∷ others)
    by_head = cond_both ((h.head == 0) || h.walked) (InPutAway LockAway (ForSweep sweep)) (InPutAway WalkChain (ForSweep sweep)) (λ spot. Stands (set_cpu w n (detached_word w.setup x.local)) (goes spot ∷ others))
        (λ e. detached w x others _ s (rw is refl) (rw is refl) (rw is refl) won refl refl refl (λ f. rw is refl) (λ k. rw is refl)
        (current_lock-work w x n (detached_word w.setup x.local) h xs sweep _ is hands held (λ some. elim (or_cases (h.head == 0) h.walked e) [ inl z ↦ absurd (let d = eqb-true h.head 0 z in omega arith) | inr t ↦ t ]) ok))
        (λ e. detached w x others _ s (rw is refl) (rw is refl) (rw is refl) won refl refl refl (λ f. rw is refl) (λ k. rw is refl)
        (current_walk-work w x n (detached_word w.setup x.local) h xs sweep _ is hands held (let d = eqb-false h.head 0 (or_parts (h.head == 0) h.walked e).0 in omega (arith, d)) refl ok))
