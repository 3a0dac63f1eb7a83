-- Kind 17, spot by spot: a free pointer of a chain in hand is loaded.
use Rattle.std.proofs.Common.{◌≡◌, ℕ, suc, ◌+◌, ◌-◌, ◌%◌, ◌^◌, ◌<◌, ◌≤◌, ◌==◌, ◌⊎◌, true, false, List, [], ◌∷◌, length, refl, sym, ap, ◌∙◌, subst, arith, inl, inr}
use Rattle.std.specs.Prelude.{slice_index}
use Rattle.std.proofs.lemmas.Bool.{eq-eqb, ne_eqb, cond-true}
use Rattle.std.proofs.lemmas.List.Elements.{All-head}
use Rattle.slub_common.specs.Times.{times}
use Rattle.slub_core.specs.declared.local.Hand.{Hand}
use Rattle.slub_core.specs.declared.step.Answer.TheVariants.{Word}
use Rattle.slub_core.specs.declared.spot.Spot.{Spot}
use Rattle.slub_core.specs.declared.spot.Spot.TheVariants.{InAlloc, InPutAway}
use Rattle.slub_core.specs.declared.spot.AllocSpot.TheVariants.{LoadReady, LoadAgain}
use Rattle.slub_core.specs.declared.spot.Away.{Away}
use Rattle.slub_core.specs.declared.spot.PutAwaySpot.TheVariants.{WalkChain, LockAway}
use Rattle.slub_core.specs.Setup.{pointer_at}
use Rattle.slub_core.specs.World.{World, pointer, exists_at, in_chain}
use Rattle.slub_core.specs.Local.{Worker, hand_of}
use Rattle.slub_core.specs.Alloc.{alloc_advance, reached, walked_on, way_of_away}
use Rattle.slub_core.specs.PutAway.{put_away_advance}
use Rattle.slub_core.specs.Spots.{Ready, Loaded, Leaving, beside_away}
use Rattle.slub_core.specs.Placed.{owned, in_hands}
use Rattle.slub_core.specs.Listed.{home_of}
use Rattle.slub_core.specs.Fresh.{IsWalk, IsLoaded, AreHands, AreHeld, IsAtWork}
use Rattle.slub_core.specs.Coherent.{Stands}
use Rattle.slub_core.proofs.Exists.{in_chain-here, hands-exist, object-small}
use Rattle.slub_core.proofs.StepHands.{one-hand, first-hand}
use Rattle.slub_core.proofs.LocalStep.{local_step}
use Rattle.slub_core.proofs.Locks.{ComesTo}
use Rattle.slub_core.proofs.Walks.{Leads-some, further, arrived, place_of, walk-further, walk-arrived, walk-step, walked-end, walked-more}

-- the worker with another form of the slab that it works on
abbrev with_form : Worker → Hand → List Hand → Spot → Worker
with_form x h hs spot = record x { local = record x.local { hands = h ∷ hs; spot = spot } }

form-owned : (x : Worker) (h k : Hand) (hs : List Hand) (xs : List ℕ) (xss : List (List ℕ)) (spot : Spot) (f i : ℕ) → x.local.hands ≡ h ∷ hs → x.chains ≡ xs ∷ xss → k.frame ≡ h.frame
    → owned f i (with_form x k hs spot) ≡ owned f i x
form-owned x h k hs xs xss spot f i one chain same = rw (one, chain, same) refl

form-home : (x : Worker) (h k : Hand) (hs : List Hand) (spot : Spot) (f : ℕ) → x.local.hands ≡ h ∷ hs → k.frame ≡ h.frame → home_of f (with_form x k hs spot) ≡ home_of f x
form-home x h k hs spot f one same = rw (one, same) refl

-- what stands in a chain in hand is small
members-small : (w : World) (x : Worker) (others : List Worker) (h : Hand) (hs : List Hand) (xs : List ℕ) (xss : List (List ℕ)) → Stands w (x ∷ others) → x.local.hands ≡ h ∷ hs → x.chains ≡ xs ∷ xss → (j : ℕ) → 1 ≤ times j xs → suc j < 2 ^ 16
members-small w x others h hs xs xss s one chain j has =
    let e = All-head (λ (o : Worker). in_hands h.frame j o.local.hands o.chains ≤ exists_at w h.frame j) x others (hands-exist w s.chains (x ∷ others) h.frame j s.placed s.listed) in
    let e' : in_chain h.frame xs h.frame j + in_hands h.frame j hs xss ≤ exists_at w h.frame j = rw (one, chain) at e in
    let c = in_chain-here h.frame xs j in
    object-small w (x ∷ others) h.frame j s (omega arith)

-- ---- before an install

loaded-work : (w : World) (x : Worker) (h : Hand) → x.local.spot ≡ InAlloc LoadReady → AreHands (Loaded ∷ []) (h ∷ []) x.chains → AreHeld w x.local.cache (Loaded ∷ []) (h ∷ []) x.chains 0
    → IsAtWork w x → IsAtWork w (with_form x h [] (InAlloc LoadAgain))
loaded-work w x h is hands held ok = grind arith

pub at_LoadReady : (w : World) (x : Worker) (others : List Worker) → x.local.spot ≡ InAlloc LoadReady → Stands w (x ∷ others)
    → ComesTo w others (alloc_advance w.setup x.local LoadReady (Word (w.memory (pointer_at w.setup x.local.cache (hand_of x.local).frame ((hand_of x.local).head - 1))))).local
at_LoadReady w x others is s =
    let r = one-hand Ready x.local.hands x.chains (rw is at (All-head (IsAtWork w) x others s.fresh.workers).spot.hands) in
    by_hand r.0 r.1 r.2 r.3
  where
    ok : IsAtWork w x
    ok = All-head (IsAtWork w) x others s.fresh.workers

    by_hand : (h : Hand) (xs : List ℕ) → x.local.hands ≡ h ∷ [] → x.chains ≡ xs ∷ []
        → ComesTo w others (alloc_advance w.setup x.local LoadReady (Word (w.memory (pointer_at w.setup x.local.cache (hand_of x.local).frame ((hand_of x.local).head - 1))))).local
    by_hand h xs one chain = by_found (walk-step g xs h found some (members-small w x others h [] xs [] s one chain) held.0 hands.4 (ap (λ n. g (n - 1) % 2 ^ 16) (sym first)))
      where
        hands : AreHands (Ready ∷ []) (h ∷ []) (xs ∷ [])
        hands = rw (is, one, chain) at ok.spot.hands

        held : AreHeld w x.local.cache (Ready ∷ []) (h ∷ []) (xs ∷ []) 0
        held = rw (is, one, chain) at ok.seen.hands

        g : ℕ → ℕ
        g = pointer w x.local.cache h.frame

        found : ℕ
        found = pointer w x.local.cache h.frame (h.head - 1) % 2 ^ 16

        some : 1 ≤ h.head
        some = hands.3.0

        none : h.length ≡ 0
        none = hands.3.1.0

        first : reached h ≡ h.head
        first = cond-true (h.length == 0) h.head h.last (eq-eqb h.length 0 none)

        long : 1 ≤ length xs
        long = Leads-some g h.head xs some held.0

        leads : (k : Hand) → walked_on h found ≡ k → (alloc_advance w.setup x.local LoadReady (Word (w.memory (pointer_at w.setup x.local.cache (hand_of x.local).frame ((hand_of x.local).head - 1))))).local ≡ (with_form x k [] (InAlloc LoadAgain)).local
        leads k e = rw one (ap (λ (k : Hand). record x.local { hands = k ∷ []; spot = InAlloc LoadAgain }) e)

        stands : (k : Hand) → k.frame ≡ h.frame → k.head ≡ h.head → IsLoaded k → IsWalk xs k → Stands w (with_form x k [] (InAlloc LoadAgain) ∷ others)
        stands k frame head loaded walk =
            let hands' : AreHands (Loaded ∷ []) (k ∷ []) x.chains = rw (chain, frame, head) (hands.0, hands.1, hands.2, (some, loaded), record { short = walk.short; last = walk.last; ended = walk.ended }, tt) in
            let held' : AreHeld w x.local.cache (Loaded ∷ []) (k ∷ []) x.chains 0 = rw (chain, frame, head) (held.0, held.1, held.2, tt) in
            local_step w x _ others s (λ f i. form-owned x h k [] xs [] (InAlloc LoadAgain) f i one chain frame)
            (record { home = λ f. form-home x h k [] (InAlloc LoadAgain) f one frame; marked = λ f. rw is refl; covered = λ g. refl; takes = λ k. rw is refl })
            (loaded-work w x k is hands' held' ok)

        by_found : ((found ≡ 0) × (suc (place_of h) ≡ length xs)) ⊎ ((suc (place_of h) < length xs) × (found ≡ suc (slice_index xs (suc (place_of h)))))
            → ComesTo w others (alloc_advance w.setup x.local LoadReady (Word (w.memory (pointer_at w.setup x.local.cache (hand_of x.local).frame ((hand_of x.local).head - 1))))).local
        by_found (inl end) = (
          with_form x (arrived h) [] (InAlloc LoadAgain),
          sym (leads (arrived h) (walked-end h found end.0)),
          stands (arrived h) refl refl (inl (cond-true (h.length == 0) 1 h.length (eq-eqb h.length 0 none), refl)) (walk-arrived g xs h 0 long held.0 hands.4 end.1),
        )
        by_found (inr more) = (
          with_form x (further h found) [] (InAlloc LoadAgain),
          sym (leads (further h found) (walked-more h found (let e = more.1 in omega arith))),
          stands (further h found) refl refl (inr (cond-true (h.length == 0) 2 (h.length + 1) (eq-eqb h.length 0 none), hands.3.1.1))
              (subst (λ n. IsWalk xs (further h n)) (sym more.1) (walk-further xs h hands.3.1.1 more.0)),
        )

-- ---- putting away

walked-work : (w : World) (x : Worker) (h : Hand) (hs : List Hand) (away : Away) → x.local.spot ≡ InPutAway WalkChain away → AreHands (Leaving ∷ beside_away away) (h ∷ hs) x.chains → AreHeld w x.local.cache (Leaving ∷ beside_away away) (h ∷ hs) x.chains 0
    → h.walked ≡ true → IsAtWork w x → IsAtWork w (with_form x h hs (InPutAway LockAway away))
walked-work w x h hs away is hands held walked ok = grind arith

further-work : (w : World) (x : Worker) (h : Hand) (hs : List Hand) (away : Away) → x.local.spot ≡ InPutAway WalkChain away → AreHands (Leaving ∷ beside_away away) (h ∷ hs) x.chains → AreHeld w x.local.cache (Leaving ∷ beside_away away) (h ∷ hs) x.chains 0
    → 1 ≤ h.head → h.walked ≡ false → IsAtWork w x → IsAtWork w (with_form x h hs (InPutAway WalkChain away))
further-work w x h hs away is hands held some walked ok = grind arith

pub at_WalkChain : (w : World) (x : Worker) (others : List Worker) (away : Away) → x.local.spot ≡ InPutAway WalkChain away → Stands w (x ∷ others)
    → ComesTo w others (put_away_advance w.setup w.value x.local WalkChain away (Word (w.memory (pointer_at w.setup x.local.cache (hand_of x.local).frame (reached (hand_of x.local) - 1))))).local
at_WalkChain w x others away is s =
    let r = first-hand Leaving (beside_away away) x.local.hands x.chains (rw is at (All-head (IsAtWork w) x others s.fresh.workers).spot.hands) in
    by_hand r.0 r.1 r.2 r.3 r.4 r.5
  where
    ok : IsAtWork w x
    ok = All-head (IsAtWork w) x others s.fresh.workers

    by_hand : (h : Hand) (hs : List Hand) (xs : List ℕ) (xss : List (List ℕ)) → x.local.hands ≡ h ∷ hs → x.chains ≡ xs ∷ xss
        → ComesTo w others (put_away_advance w.setup w.value x.local WalkChain away (Word (w.memory (pointer_at w.setup x.local.cache (hand_of x.local).frame (reached (hand_of x.local) - 1))))).local
    by_hand h hs xs xss one chain = by_found (walk-step g xs h found some (members-small w x others h hs xs xss s one chain) held.0 hands.4 refl)
      where
        hands : AreHands (Leaving ∷ beside_away away) (h ∷ hs) (xs ∷ xss)
        hands = rw (is, one, chain) at ok.spot.hands

        held : AreHeld w x.local.cache (Leaving ∷ beside_away away) (h ∷ hs) (xs ∷ xss) 0
        held = rw (is, one, chain) at ok.seen.hands

        g : ℕ → ℕ
        g = pointer w x.local.cache h.frame

        found : ℕ
        found = pointer w x.local.cache h.frame (reached h - 1) % 2 ^ 16

        open_chain : (1 ≤ h.head) × (h.walked ≡ false)
        open_chain = let t : (1 ≤ (hand_of x.local).head) × ((hand_of x.local).walked ≡ false) = ok.spot.walking (rw is refl) in rw one at t

        some : 1 ≤ h.head
        some = open_chain.0

        long : 1 ≤ length xs
        long = Leads-some g h.head xs some held.0

        leads : (k : Hand) (spot : Spot) → walked_on h found ≡ k → way_of_away k away ≡ spot
            → (put_away_advance w.setup w.value x.local WalkChain away (Word (w.memory (pointer_at w.setup x.local.cache (hand_of x.local).frame (reached (hand_of x.local) - 1))))).local ≡ (with_form x k hs spot).local
        leads k spot e to = rw one (ap (λ (k : Hand). record x.local { hands = k ∷ hs; spot = way_of_away k away }) e ∙ ap (λ (s : Spot). record x.local { hands = k ∷ hs; spot = s }) to)

        hands' : (k : Hand) → k.frame ≡ h.frame → k.head ≡ h.head → IsWalk xs k → AreHands (Leaving ∷ beside_away away) (k ∷ hs) x.chains
        hands' k frame head walk = rw (chain, frame, head) (hands.0, hands.1, hands.2, tt, record { short = walk.short; last = walk.last; ended = walk.ended }, hands.5)

        held' : (k : Hand) → k.frame ≡ h.frame → k.head ≡ h.head → AreHeld w x.local.cache (Leaving ∷ beside_away away) (k ∷ hs) x.chains 0
        held' k frame head = rw (chain, frame, head) (held.0, held.1, held.2, held.3)

        by_found : ((found ≡ 0) × (suc (place_of h) ≡ length xs)) ⊎ ((suc (place_of h) < length xs) × (found ≡ suc (slice_index xs (suc (place_of h)))))
            → ComesTo w others (put_away_advance w.setup w.value x.local WalkChain away (Word (w.memory (pointer_at w.setup x.local.cache (hand_of x.local).frame (reached (hand_of x.local) - 1))))).local
        by_found (inl end) =
            let k = arrived h in (
              with_form x k hs (InPutAway LockAway away),
              sym (leads k (InPutAway LockAway away) (walked-end h found end.0) (rw (ne_eqb h.head 0 (λ z. let q = some in absurd (omega arith))) refl)),
              local_step w x _ others s (λ f i. form-owned x h k hs xs xss (InPutAway LockAway away) f i one chain refl)
                  (record { home = λ f. form-home x h k hs (InPutAway LockAway away) f one refl; marked = λ f. rw is refl; covered = λ g. refl; takes = λ k. rw is refl })
                  (walked-work w x k hs away is (hands' k refl refl (walk-arrived g xs h 0 long held.0 hands.4 end.1)) (held' k refl refl) refl ok),
            )
        by_found (inr more) =
            let k = further h found in (
              with_form x k hs (InPutAway WalkChain away),
              sym (leads k (InPutAway WalkChain away) (walked-more h found (let e = more.1 in omega arith)) (rw (ne_eqb h.head 0 (λ z. let q = some in absurd (omega arith)), open_chain.1) refl)),
              local_step w x _ others s (λ f i. form-owned x h k hs xs xss (InPutAway WalkChain away) f i one chain refl)
                  (record { home = λ f. form-home x h k hs (InPutAway WalkChain away) f one refl; marked = λ f. rw is refl; covered = λ g. refl; takes = λ k. rw is refl })
                  (further-work w x k hs away is (hands' k refl refl (subst (λ n. IsWalk xs (further h n)) (sym more.1) (walk-further xs h open_chain.1 more.0))) (held' k refl refl) some open_chain.1 ok),
            )
