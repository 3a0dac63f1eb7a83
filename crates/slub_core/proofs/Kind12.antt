-- Kinds 12 and 28, where they are won: a slab in hand without a free object is unfrozen and leaves the hand; a popped slab is unmarked and becomes a string.
use Rattle.std.proofs.Common.{◌≡◌, ◌≢◌, ℕ, suc, ◌≤◌, ◌==◌, Bool, true, false, Some, List, [], ◌∷◌, get_or, refl, sym, ap, ◌∙◌, subst, arith, inl, inr}
use Rattle.std.specs.Prelude.{All}
use Rattle.std.proofs.lemmas.Bool.{false≢true, cases_eq, eq-eqb, ne_eqb, lt-ltb}
use Rattle.std.proofs.lemmas.List.Elements.{All-head}
use Rattle.slub_common.specs.Times.{times}
use Rattle.slub_words.specs.declared.slab.SlabWord.{SlabWord}
use Rattle.slub_core.specs.declared.local.Known.{Known}
use Rattle.slub_core.specs.declared.local.Hand.{Hand}
use Rattle.slub_core.specs.declared.step.Answer.TheVariants.{Won}
use Rattle.slub_core.specs.declared.spot.Spot.TheVariants.{InAlloc, InPutOnList}
use Rattle.slub_core.specs.declared.spot.AllocSpot.TheVariants.{MarkFull, TakeList, Unlist}
use Rattle.slub_core.specs.declared.spot.PutOnList.TheVariants.{OfNode}
use Rattle.slub_core.specs.declared.spot.PutOnListSpot.TheVariants.{LoadList}
use Rattle.slub_core.specs.World.{World, set_slab, pointer, cache_at, one_if, off_list, IsChain}
use Rattle.slub_core.specs.Local.{Worker, hand_of}
use Rattle.slub_core.specs.Alloc.{alloc_advance, thawed_word, unlisted_word, single_string}
use Rattle.slub_core.specs.Spots.{Taken, Popped, Ready}
use Rattle.slub_core.specs.Listed.{home_of, hands_count}
use Rattle.slub_core.specs.Fresh.{AreHands, AreHeld, IsHeldString, IsAtWork}
use Rattle.slub_core.specs.Coherent.{Stands}
use Rattle.slub_core.proofs.Counts.{homes-cons}
use Rattle.slub_core.proofs.Exists.{home-live}
use Rattle.slub_core.proofs.StepHands.{one-hand, two-hands, in_chain-nil}
use Rattle.slub_core.proofs.Homes.{mine-marked, live-most, off-some}
use Rattle.slub_core.proofs.Lists.{times-first}
use Rattle.slub_core.proofs.Locks.{ComesTo}
use Rattle.slub_core.proofs.SlabStep.{is_mine, slab_step, cache_at-same, held-apart}
use Rattle.slub_core.proofs.Update.{update_same}

is-not : (f g : ℕ) → (f ≡ g → ⊥) → one_if (f == g) ≡ 0
is-not f g away = rw (ne_eqb f g away) refl

mark_full-work : (w : World) (x : Worker) (f : ℕ) (v : SlabWord) → x.local.spot ≡ InAlloc MarkFull → All (λ (k : Known). k.held ≡ true → k.cache ≡ cache_at (set_slab w f v) k.frame) x.local.known
    → IsAtWork w x → IsAtWork (set_slab w f v) (record x { local = record x.local { hands = []; spot = InAlloc TakeList }; chains = [] })
mark_full-work w x f v is known ok = grind arith

pub at_MarkFull-won : (w : World) (x : Worker) (others : List Worker) → x.local.spot ≡ InAlloc MarkFull → w.slab (hand_of x.local).frame ≡ x.local.slab_word → Stands w (x ∷ others)
    → ComesTo (set_slab w (hand_of x.local).frame (thawed_word x.local.slab_word)) others (alloc_advance w.setup x.local MarkFull Won).local
at_MarkFull-won w x others is won s =
    let ok = All-head (IsAtWork w) x others s.fresh.workers in
    let r = one-hand Taken x.local.hands x.chains (rw is at ok.spot.hands) in
    by_hand r.0 r.1 r.2 r.3 ok
  where
    by_hand : (h : Hand) (xs : List ℕ) → x.local.hands ≡ h ∷ [] → x.chains ≡ xs ∷ [] → IsAtWork w x
        → ComesTo (set_slab w (hand_of x.local).frame (thawed_word x.local.slab_word)) others (alloc_advance w.setup x.local MarkFull Won).local
    by_hand h xs first chain ok =
        let f = h.frame in
        let c = x.local.slab_word in
        let v = thawed_word c in
        let z : Worker = record x { local = record x.local { hands = []; spot = InAlloc TakeList }; chains = [] } in
        let hands : AreHands (Taken ∷ []) (h ∷ []) (xs ∷ []) = rw (is, first, chain) at ok.spot.hands in
        let held : AreHeld w x.local.cache (Taken ∷ []) (h ∷ []) (xs ∷ []) 0 = rw (is, first, chain) at ok.seen.hands in
        let nil : x.chains ≡ [] ∷ [] = rw hands.3.1 at chain in
        let same : w.slab f ≡ c = rw first at won in
        let head : c.head ≡ (w.slab f).head = sym (ap (λ (u : SlabWord). u.head) same) in
        let cache : c.cache ≡ (w.slab f).cache = sym (ap (λ (u : SlabWord). u.cache) same) in
        let objects : c.objects ≡ (w.slab f).objects = sym (ap (λ (u : SlabWord). u.objects) same) in
        let inuse : c.inuse ≡ (w.slab f).inuse = sym (ap (λ (u : SlabWord). u.inuse) same) in
        let clear : (w.slab f).listed ≡ false = unmarked (w.slab f).listed refl in
        let listed : c.listed ≡ false = sym (ap (λ (u : SlabWord). u.listed) same) ∙ clear in
        let none = ok.spot.noted.none_free (rw is refl) in
        let one : one_if (f == f) ≡ 1 = rw (eq-eqb f f refl) refl in
        let home : home_of f x ≡ suc (times f x.string) = rw (first, one) (omega arith) in
        let some : f ≢ 0 = λ z. absurd (let a = hands.0 in omega arith) in
        let count = homes-cons w s.chains x others f in
        let there = home-live w s.chains (x ∷ others) f s.listed some (omega arith) in
        let gone : off_list v ≡ 1 = rw (listed, none, lt-ltb 0 c.objects (omega arith)) refl in
        let was : off_list (w.slab f) ≡ 0 = rw held.2 refl in
        let fits = s.fresh.worded.slab f in
        let counted = s.listed.shaped.counted f in (
          z,
          rw first refl,
          rw first (slab_step w x z others f v (s.chains.own f) s some there (omega arith, omega arith) cache objects (omega arith)
              (λ e. absurd (false≢true (sym listed ∙ e)))
              (subst (λ n. IsChain (pointer w (w.slab f).cache f) n (s.chains.own f)) (sym head) (s.placed.own_chain f))
              (λ j. let b = in_chain-nil f f j in rw (first, nil) (omega arith))
              (λ g j away. let b = in_chain-nil f g j in rw (first, nil) (omega arith))
              (omega arith)
              (λ g away. let o = is-not f g (λ e. away (sym e)) in rw first (omega arith))
              (rw (is, clear, listed) refl)
              (λ g away. rw is refl)
              (λ g. refl) (λ k. rw is refl) (is_mine (omega arith))
              (mark_full-work w x f v is (λ k d below held_k. ok.seen.known k d below held_k ∙ sym (cache_at-same w f v cache objects (get_or x.local.known k d).frame)) ok)),
        )
      where
        unmarked : (b : Bool) → (w.slab h.frame).listed ≡ b → (w.slab h.frame).listed ≡ false
        unmarked false e = e
        unmarked true e =
            let held : AreHeld w x.local.cache (Taken ∷ []) (h ∷ []) (xs ∷ []) 0 = rw (is, first, chain) at ok.seen.hands in
            absurd (false≢true (sym (s.listed.shaped.marks h.frame e).1 ∙ held.2))

-- ---- a popped slab

unlist-work : (w : World) (x : Worker) (f : ℕ) (v : SlabWord) (k : Hand) (ys : List ℕ) → x.local.spot ≡ InAlloc Unlist → AreHands (Ready ∷ []) (k ∷ []) (ys ∷ [])
    → AreHeld (set_slab w f v) x.local.cache (Ready ∷ []) (k ∷ []) (ys ∷ []) 0 → IsHeldString (set_slab w f v) x.local.cache (Some (single_string f)) (f ∷ [])
    → All (λ (k : Known). k.held ≡ true → k.cache ≡ cache_at (set_slab w f v) k.frame) x.local.known
    → IsAtWork w x → IsAtWork (set_slab w f v) (record x { local = record x.local { hands = k ∷ []; string = Some (single_string f); spot = InPutOnList LoadList OfNode }; chains = ys ∷ []; string = f ∷ [] })
unlist-work w x f v k ys is hands held string known ok = grind arith

pub at_Unlist-won : (w : World) (x : Worker) (others : List Worker) → x.local.spot ≡ InAlloc Unlist → w.slab (hand_of x.local).frame ≡ x.local.slab_word → Stands w (x ∷ others)
    → ComesTo (set_slab w (hand_of x.local).frame (unlisted_word x.local.slab_word)) others (alloc_advance w.setup x.local Unlist Won).local
at_Unlist-won w x others is won s =
    let ok = All-head (IsAtWork w) x others s.fresh.workers in
    let r = two-hands Popped Ready x.local.hands x.chains (rw is at ok.spot.hands) in
    by_hand r.0 r.1 r.2 r.3 r.4 r.5 ok
  where
    by_hand : (h k : Hand) (xs ys : List ℕ) → x.local.hands ≡ h ∷ k ∷ [] → x.chains ≡ xs ∷ ys ∷ [] → IsAtWork w x
        → ComesTo (set_slab w (hand_of x.local).frame (unlisted_word x.local.slab_word)) others (alloc_advance w.setup x.local Unlist Won).local
    by_hand h k xs ys first chain ok =
        let f = h.frame in
        let c = x.local.slab_word in
        let v = unlisted_word c in
        let z : Worker = record x { local = record x.local { hands = k ∷ []; string = Some (single_string f); spot = InPutOnList LoadList OfNode }; chains = ys ∷ []; string = f ∷ [] } in
        let hands : AreHands (Popped ∷ Ready ∷ []) (h ∷ k ∷ []) (xs ∷ ys ∷ []) = rw (is, first, chain) at ok.spot.hands in
        let held : AreHeld w x.local.cache (Popped ∷ Ready ∷ []) (h ∷ k ∷ []) (xs ∷ ys ∷ []) 0 = rw (is, first, chain) at ok.seen.hands in
        let nil : x.chains ≡ [] ∷ ys ∷ [] = rw hands.3.1 at chain in
        let same : w.slab f ≡ c = rw first at won in
        let head : c.head ≡ (w.slab f).head = sym (ap (λ (u : SlabWord). u.head) same) in
        let cache : c.cache ≡ (w.slab f).cache = sym (ap (λ (u : SlabWord). u.cache) same) in
        let objects : c.objects ≡ (w.slab f).objects = sym (ap (λ (u : SlabWord). u.objects) same) in
        let inuse : c.inuse ≡ (w.slab f).inuse = sym (ap (λ (u : SlabWord). u.inuse) same) in
        let frozen : c.frozen ≡ false = sym (ap (λ (u : SlabWord). u.frozen) same) ∙ held.2.0 in
        let some_head : 1 ≤ c.head = let a = held.2.1 in omega arith in
        let no_string : x.string ≡ [] = rw (ok.spot.no_string (rw is refl)) at ok.spot.string in
        let one : one_if (f == f) ≡ 1 = rw (eq-eqb f f refl) refl in
        let home : home_of f x ≡ suc (hands_count f (k ∷ [])) = rw (first, one, no_string) (omega arith) in
        let some : f ≢ 0 = λ z. absurd (let a = hands.0 in omega arith) in
        let count = homes-cons w s.chains x others f in
        let there = home-live w s.chains (x ∷ others) f s.listed some (omega arith) in
        let once = s.listed.once f some in
        let most = live-most (w.slab f) in
        let beside : hands_count f (k ∷ []) ≡ 0 = omega arith in
        let mark = mine-marked w x others f s some (omega arith) in
        let gone = off-some v some_head in
        let was = off-some (w.slab f) held.2.1 in
        let fits = s.fresh.worded.slab f in
        let counted = s.listed.shaped.counted f in
        let only : times f (f ∷ []) ≡ 1 = let a = times-first f f [] in omega arith in (
          z,
          rw first refl,
          rw first (slab_step w x z others f v (s.chains.own f) s some there (omega arith, omega arith) cache objects (omega arith)
              (λ e. absurd (false≢true e))
              (subst (λ n. IsChain (pointer w (w.slab f).cache f) n (s.chains.own f)) (sym head) (s.placed.own_chain f))
              (λ j. let b = in_chain-nil f f j in rw (first, nil) (omega arith))
              (λ g j away. let b = in_chain-nil f g j in rw (first, nil) (omega arith))
              (omega arith)
              (λ g away. let o = is-not f g (λ e. away (sym e)) in let a = times-first g f [] in rw (first, no_string) (omega arith))
              (omega arith)
              (λ g away. let o = is-not f g (λ e. away (sym e)) in rw (is, first) (sym o))
              (λ g. refl) (λ k. rw is refl) (is_mine (omega arith))
              (unlist-work w x f v k ys is hands.5 (held-apart w f v x.local.cache (Ready ∷ []) (k ∷ []) (ys ∷ []) 0 beside held.3) (
                (refl, tt),
                tt,
                λ g on. elim (cases_eq f g) [
                  | inl e ↦ rw (← e) (hands.0, record { owner = rw (update_same w.slab f v) (cache ∙ held.1); unfrozen = rw (update_same w.slab f v) frozen; unlisted = rw (update_same w.slab f v) refl; head = rw (update_same w.slab f v) some_head })
                  | inr d ↦ absurd (let a = times-first g f [] in let o = is-not f g d in omega arith)
                ],
              )
              (λ k d below held_k. ok.seen.known k d below held_k ∙ sym (cache_at-same w f v cache objects (get_or x.local.known k d).frame)) ok)),
        )
