-- Kinds 11 and 18: a slab in hand is taken with its whole freelist, off a CPU, off a string or off the node list.
use Rattle.std.proofs.Common.{◌≡◌, ◌≢◌, ℕ, ◌^◌, ◌<◌, ◌≤◌, true, false, List, [], ◌∷◌, get_or, refl, sym, ap, ◌∙◌, subst, arith}
use Rattle.std.specs.Prelude.{All}
use Rattle.std.proofs.lemmas.Bool.{ne_eqb, cond_both, false≢true, false_from_ne_true}
use Rattle.std.proofs.lemmas.List.Elements.{All-head}
use Rattle.slub_words.specs.declared.slab.SlabWord.{SlabWord}
use Rattle.slub_core.specs.declared.local.Known.{Known}
use Rattle.slub_core.specs.declared.local.Hand.{Hand}
use Rattle.slub_core.specs.declared.step.Answer.TheVariants.{Won}
use Rattle.slub_core.specs.declared.spot.Spot.{Spot}
use Rattle.slub_core.specs.declared.spot.Spot.TheVariants.{InAlloc}
use Rattle.slub_core.specs.declared.spot.AllocSpot.TheVariants.{TakeAll, FreezeKept, PopNode, FreezePopped, LoadReady}
use Rattle.slub_core.specs.World.{World, set_slab, pointer, cache_at, one_if, off_list, IsChain}
use Rattle.slub_core.specs.Local.{Worker, hand_of, hand_from}
use Rattle.slub_core.specs.Alloc.{alloc_advance, emptied_word, frozen_word}
use Rattle.slub_core.specs.Spots.{Taken, Ready, Popped, Kept, is_marked}
use Rattle.slub_core.specs.Listed.{home_of, marked_of, takes}
use Rattle.slub_core.specs.Fresh.{AreHands, AreHeld, IsAtWork}
use Rattle.slub_core.specs.Coherent.{Stands}
use Rattle.slub_core.proofs.Exists.{in_chain-here, in_chain-away}
use Rattle.slub_core.proofs.StepHands.{one-hand, in_chain-nil}
use Rattle.slub_core.proofs.Homes.{mine-marked, off-some}
use Rattle.slub_core.proofs.Kind15.{fresh-walk}
use Rattle.slub_core.proofs.Kind8.{hand-live}
use Rattle.slub_core.proofs.Locks.{ComesTo, one-self}
use Rattle.slub_core.proofs.SlabStep.{is_mine, slab_step, cache_at-same}
use Rattle.slub_core.proofs.Update.{update_same}

-- a mark is of the slab that the worker works on
pub marked-away : (x : Worker) (h : Hand) (hs : List Hand) (g : ℕ) → x.local.hands ≡ h ∷ hs → (g ≡ h.frame → ⊥) → marked_of g x ≡ 0
marked-away x h hs g first away = rw (first, ne_eqb h.frame g (λ e. away (sym e))) (cond_both (is_marked x.local.spot) 0 0 (λ n. n ≡ 0) (λ e. refl) (λ e. refl))

-- what a worker knows stays true where a slab keeps its cache and its number of objects
pub known-kept : (w : World) (f : ℕ) (v : SlabWord) (ks : List Known) → v.cache ≡ (w.slab f).cache → v.objects ≡ (w.slab f).objects
    → All (λ (k : Known). k.held ≡ true → k.cache ≡ cache_at w k.frame) ks → All (λ (k : Known). k.held ≡ true → k.cache ≡ cache_at (set_slab w f v) k.frame) ks
known-kept w f v ks cache objects all = λ k d below is. all k d below is ∙ sym (cache_at-same w f v cache objects (get_or ks k d).frame)

-- the worker with a slab's whole freelist in hand
abbrev with_whole : Worker → Spot → ℕ → List ℕ → Worker
with_whole x spot f xs = record { local = record x.local { hands = hand_from f x.local.slab_word.head ∷ []; spot = spot }; chains = xs ∷ []; string = x.string }

-- what it owes, whatever spot it leads to
whole : (w : World) (x : Worker) (others : List Worker) (spot : Spot) (v : SlabWord) (h : Hand) (s : Stands w (x ∷ others))
    → x.local.hands ≡ h ∷ [] → x.chains ≡ [] ∷ [] → h.frame ≢ 0
    → (v.head ≡ 0) × (v.inuse ≡ v.objects) × (v.frozen ≡ true) × (v.listed ≡ false) → v.cache ≡ (w.slab h.frame).cache → v.objects ≡ (w.slab h.frame).objects → off_list (w.slab h.frame) ≡ 0
    → is_marked spot ≡ false → ((k : ℕ) → takes k (with_whole x spot h.frame (s.chains.own h.frame)) ≡ takes k x)
    → IsAtWork (set_slab w h.frame v) (with_whole x spot h.frame (s.chains.own h.frame))
    → Stands (set_slab w h.frame v) (with_whole x spot h.frame (s.chains.own h.frame) ∷ others)
whole w x others spot v h s first chain real says cache objects on unmarked locks work =
    let f = h.frame in
    let own = s.chains.own f in
    let small = (s.fresh.worded.slab f).2 in
    let one = one-self f in
    let has : 1 ≤ home_of f x = rw first (omega arith) in
    slab_step w x (with_whole x spot f own) others f v [] s real (hand-live w x others h [] s first real)
    (omega (arith, says.0), omega (arith, says.1)) cache objects (omega (arith, says.1)) (λ e. absurd (false≢true (sym says.3 ∙ e))) says.0
    (λ j. rw (first, chain) (let a = in_chain-here f own j in let b = in_chain-nil f f j in omega arith))
    (λ g j away. rw (first, chain) (let a = in_chain-away f own g j (λ e. away (sym e)) in let b = in_chain-nil f g j in omega arith))
    (let o : off_list v ≡ 0 = rw says.2 refl in rw first (omega arith))
    (λ g away. rw first refl)
    (let m = mine-marked w x others f s real has in let l : one_if v.listed ≡ 0 = rw says.3 refl in rw unmarked (omega arith))
    (λ g away. let m = marked-away x h [] g first away in rw unmarked (sym m))
    (λ g. refl) locks (is_mine (omega arith)) work

-- the slab in hand with it
ready-hand : (w : World) (x : Worker) (others : List Worker) (f : ℕ) (v : SlabWord) (s : Stands w (x ∷ others)) → 1 ≤ f → f < 2 ^ 16 → w.slab f ≡ x.local.slab_word → (w.slab f).cache ≡ x.local.cache → 1 ≤ x.local.slab_word.head → x.local.slab_word.head < 2 ^ 16
    → v.cache ≡ (w.slab f).cache → v.frozen ≡ true
    → AreHands (Ready ∷ []) (hand_from f x.local.slab_word.head ∷ []) (s.chains.own f ∷ []) × AreHeld (set_slab w f v) x.local.cache (Ready ∷ []) (hand_from f x.local.slab_word.head ∷ []) (s.chains.own f ∷ []) 0
ready-hand w x others f v s real small won cache some fits same frozen =
    let own : IsChain (pointer w (w.slab f).cache f) (w.slab f).head (s.chains.own f) = s.placed.own_chain f in
    let chain : IsChain (pointer w x.local.cache f) x.local.slab_word.head (s.chains.own f) =
    subst (λ k. IsChain (pointer w k f) x.local.slab_word.head (s.chains.own f)) cache (subst (λ (u : SlabWord). IsChain (pointer w (w.slab f).cache f) u.head (s.chains.own f)) won own) in
    let now = update_same w.slab f v in (
      (real, small, fits, (some, (refl, refl)), fresh-walk (s.chains.own f) f x.local.slab_word.head, tt),
      (chain, ap (λ (u : SlabWord). u.cache) now ∙ same ∙ cache, ap (λ (u : SlabWord). u.frozen) now ∙ frozen, tt),
    )

-- ---- a slab that was taken off its CPU

take_all-work : (w : World) (x : Worker) (f : ℕ) (v : SlabWord) (xs : List ℕ) → x.local.spot ≡ InAlloc TakeAll
    → AreHands (Ready ∷ []) (hand_from f x.local.slab_word.head ∷ []) (xs ∷ []) → AreHeld (set_slab w f v) x.local.cache (Ready ∷ []) (hand_from f x.local.slab_word.head ∷ []) (xs ∷ []) 0
    → All (λ (k : Known). k.held ≡ true → k.cache ≡ cache_at (set_slab w f v) k.frame) x.local.known → IsAtWork w x → IsAtWork (set_slab w f v) (with_whole x (InAlloc LoadReady) f xs)
take_all-work w x f v xs is hands held known ok = grind arith

pub at_TakeAll-won : (w : World) (x : Worker) (others : List Worker) → x.local.spot ≡ InAlloc TakeAll → w.slab (hand_of x.local).frame ≡ x.local.slab_word → Stands w (x ∷ others)
    → ComesTo (set_slab w (hand_of x.local).frame (emptied_word x.local.slab_word)) others (alloc_advance w.setup x.local TakeAll Won).local
at_TakeAll-won w x others is won s =
    let r = one-hand Taken x.local.hands x.chains (rw is at ok.spot.hands) in
    rw r.2 (by_hand r.0 r.1 r.2 r.3)
  where
    ok : IsAtWork w x
    ok = All-head (IsAtWork w) x others s.fresh.workers

    by_hand : (h : Hand) (xs : List ℕ) → x.local.hands ≡ h ∷ [] → x.chains ≡ xs ∷ [] → ComesTo (set_slab w h.frame (emptied_word x.local.slab_word)) others (record x.local { hands = hand_from h.frame x.local.slab_word.head ∷ []; spot = InAlloc LoadReady })
    by_hand h xs first chain =
        let f = h.frame in
        let v = emptied_word x.local.slab_word in
        let hands : AreHands (Taken ∷ []) (h ∷ []) (xs ∷ []) = rw (is, first, chain) at ok.spot.hands in
        let held : AreHeld w x.local.cache (Taken ∷ []) (h ∷ []) (xs ∷ []) 0 = rw (is, first, chain) at ok.seen.hands in
        let here : w.slab f ≡ x.local.slab_word = rw first at won in
        let real : f ≢ 0 = λ e. absurd (let a = hands.0 in omega arith) in
        let frozen = held.2 in
        let unmarked : (w.slab f).listed ≡ false = unlisted f frozen in
        let cache : v.cache ≡ (w.slab f).cache = sym (ap (λ (u : SlabWord). u.cache) here) in
        let objects : v.objects ≡ (w.slab f).objects = sym (ap (λ (u : SlabWord). u.objects) here) in
        let ready = ready-hand w x others f v s hands.0 hands.1 here held.1 (ok.spot.noted.some_free (rw is refl)) ok.spot.packed.slab_word.0 cache (sym (ap (λ (u : SlabWord). u.frozen) here) ∙ frozen) in
        let bare : x.chains ≡ [] ∷ [] = chain ∙ ap (λ ys. ys ∷ []) hands.3.1 in (
          with_whole x (InAlloc LoadReady) f (s.chains.own f),
          refl,
          whole w x others (InAlloc LoadReady) v h s first bare real
              (refl, refl, sym (ap (λ (u : SlabWord). u.frozen) here) ∙ frozen, sym (ap (λ (u : SlabWord). u.listed) here) ∙ unmarked) cache objects (rw frozen refl) refl (λ k. rw is refl)
              (take_all-work w x f v (s.chains.own f) is ready.0 ready.1 (known-kept w f v x.local.known cache objects ok.seen.known) ok),
        )
      where
        unlisted : (f : ℕ) → (w.slab f).frozen ≡ true → (w.slab f).listed ≡ false
        unlisted f frozen = false_from_ne_true (w.slab f).listed (λ e. false≢true (sym (s.listed.shaped.marks f e).1 ∙ frozen))

-- ---- a slab of a string, and one off the node list

freeze_kept-work : (w : World) (x : Worker) (f : ℕ) (v : SlabWord) (xs : List ℕ) → x.local.spot ≡ InAlloc FreezeKept
    → AreHands (Ready ∷ []) (hand_from f x.local.slab_word.head ∷ []) (xs ∷ []) → AreHeld (set_slab w f v) x.local.cache (Ready ∷ []) (hand_from f x.local.slab_word.head ∷ []) (xs ∷ []) 0
    → All (λ (k : Known). k.held ≡ true → k.cache ≡ cache_at (set_slab w f v) k.frame) x.local.known → IsAtWork w x → IsAtWork (set_slab w f v) (with_whole x (InAlloc LoadReady) f xs)
freeze_kept-work w x f v xs is hands held known ok = grind arith

pub at_FreezeKept-won : (w : World) (x : Worker) (others : List Worker) → x.local.spot ≡ InAlloc FreezeKept → w.slab (hand_of x.local).frame ≡ x.local.slab_word → Stands w (x ∷ others)
    → ComesTo (set_slab w (hand_of x.local).frame (frozen_word x.local.slab_word)) others (alloc_advance w.setup x.local FreezeKept Won).local
at_FreezeKept-won w x others is won s =
    let r = one-hand Kept x.local.hands x.chains (rw is at ok.spot.hands) in
    rw r.2 (by_hand r.0 r.1 r.2 r.3)
  where
    ok : IsAtWork w x
    ok = All-head (IsAtWork w) x others s.fresh.workers

    by_hand : (h : Hand) (xs : List ℕ) → x.local.hands ≡ h ∷ [] → x.chains ≡ xs ∷ [] → ComesTo (set_slab w h.frame (frozen_word x.local.slab_word)) others (record x.local { hands = hand_from h.frame x.local.slab_word.head ∷ []; spot = InAlloc LoadReady })
    by_hand h xs first chain =
        let f = h.frame in
        let v = frozen_word x.local.slab_word in
        let hands : AreHands (Kept ∷ []) (h ∷ []) (xs ∷ []) = rw (is, first, chain) at ok.spot.hands in
        let held : AreHeld w x.local.cache (Kept ∷ []) (h ∷ []) (xs ∷ []) 0 = rw (is, first, chain) at ok.seen.hands in
        let here : w.slab f ≡ x.local.slab_word = rw first at won in
        let real : f ≢ 0 = λ e. absurd (let a = hands.0 in omega arith) in
        let cache : v.cache ≡ (w.slab f).cache = sym (ap (λ (u : SlabWord). u.cache) here) in
        let objects : v.objects ≡ (w.slab f).objects = sym (ap (λ (u : SlabWord). u.objects) here) in
        let some : 1 ≤ x.local.slab_word.head = subst (λ (u : SlabWord). 1 ≤ u.head) here held.2.2 in
        let ready = ready-hand w x others f v s hands.0 hands.1 here held.1 some ok.spot.packed.slab_word.0 cache refl in
        let bare : x.chains ≡ [] ∷ [] = chain ∙ ap (λ ys. ys ∷ []) hands.3.1 in (
          with_whole x (InAlloc LoadReady) f (s.chains.own f),
          refl,
          whole w x others (InAlloc LoadReady) v h s first bare real (refl, refl, refl, refl) cache objects (off-some (w.slab f) held.2.2) refl (λ k. rw is refl)
              (freeze_kept-work w x f v (s.chains.own f) is ready.0 ready.1 (known-kept w f v x.local.known cache objects ok.seen.known) ok),
        )

freeze_popped-work : (w : World) (x : Worker) (f : ℕ) (v : SlabWord) (xs : List ℕ) → x.local.spot ≡ InAlloc FreezePopped
    → AreHands (Ready ∷ []) (hand_from f x.local.slab_word.head ∷ []) (xs ∷ []) → AreHeld (set_slab w f v) x.local.cache (Ready ∷ []) (hand_from f x.local.slab_word.head ∷ []) (xs ∷ []) 0
    → All (λ (k : Known). k.held ≡ true → k.cache ≡ cache_at (set_slab w f v) k.frame) x.local.known → IsAtWork w x → IsAtWork (set_slab w f v) (with_whole x (InAlloc PopNode) f xs)
freeze_popped-work w x f v xs is hands held known ok = grind arith

pub at_FreezePopped-won : (w : World) (x : Worker) (others : List Worker) → x.local.spot ≡ InAlloc FreezePopped → w.slab (hand_of x.local).frame ≡ x.local.slab_word → Stands w (x ∷ others)
    → ComesTo (set_slab w (hand_of x.local).frame (frozen_word x.local.slab_word)) others (alloc_advance w.setup x.local FreezePopped Won).local
at_FreezePopped-won w x others is won s =
    let r = one-hand Popped x.local.hands x.chains (rw is at ok.spot.hands) in
    rw r.2 (by_hand r.0 r.1 r.2 r.3)
  where
    ok : IsAtWork w x
    ok = All-head (IsAtWork w) x others s.fresh.workers

    by_hand : (h : Hand) (xs : List ℕ) → x.local.hands ≡ h ∷ [] → x.chains ≡ xs ∷ [] → ComesTo (set_slab w h.frame (frozen_word x.local.slab_word)) others (record x.local { hands = hand_from h.frame x.local.slab_word.head ∷ []; spot = InAlloc PopNode })
    by_hand h xs first chain =
        let f = h.frame in
        let v = frozen_word x.local.slab_word in
        let hands : AreHands (Popped ∷ []) (h ∷ []) (xs ∷ []) = rw (is, first, chain) at ok.spot.hands in
        let held : AreHeld w x.local.cache (Popped ∷ []) (h ∷ []) (xs ∷ []) 0 = rw (is, first, chain) at ok.seen.hands in
        let here : w.slab f ≡ x.local.slab_word = rw first at won in
        let real : f ≢ 0 = λ e. absurd (let a = hands.0 in omega arith) in
        let cache : v.cache ≡ (w.slab f).cache = sym (ap (λ (u : SlabWord). u.cache) here) in
        let objects : v.objects ≡ (w.slab f).objects = sym (ap (λ (u : SlabWord). u.objects) here) in
        let some : 1 ≤ x.local.slab_word.head = subst (λ (u : SlabWord). 1 ≤ u.head) here held.2.1 in
        let ready = ready-hand w x others f v s hands.0 hands.1 here held.1 some ok.spot.packed.slab_word.0 cache refl in
        let bare : x.chains ≡ [] ∷ [] = chain ∙ ap (λ ys. ys ∷ []) hands.3.1 in (
          with_whole x (InAlloc PopNode) f (s.chains.own f),
          refl,
          whole w x others (InAlloc PopNode) v h s first bare real (refl, refl, refl, refl) cache objects (off-some (w.slab f) held.2.1) refl (λ k. rw is refl)
              (freeze_popped-work w x f v (s.chains.own f) is ready.0 ready.1 (known-kept w f v x.local.known cache objects ok.seen.known) ok),
        )
