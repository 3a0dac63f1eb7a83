-- At once: a slab in hand is put on the node list, and the front of a string in hand is chosen.
use Rattle.std.proofs.Common.{◌≡◌, ℕ, suc, ◌+◌, ◌<◌, ◌≤◌, ◌==◌, true, Option, Some, None, List, [], ◌∷◌, ◌++◌, length, refl, sym, ap, ◌∙◌, subst, arith, inl, inr}
use Rattle.std.specs.Prelude.{All}
use Rattle.std.proofs.lemmas.Bool.{cases_eq, cases_Bool, eq-eqb, ne_eqb}
use Rattle.std.proofs.lemmas.List.Elements.{All-head}
use Rattle.slub_common.specs.Times.{times}
use Rattle.slub_common.proofs.Times.{times-append}
use Rattle.slub_words.specs.declared.slab.SlabWord.{SlabWord}
use Rattle.slub_core.specs.declared.local.Known.{Known}
use Rattle.slub_core.specs.declared.local.Hand.{Hand}
use Rattle.slub_core.specs.declared.local.PartialString.{PartialString}
use Rattle.slub_core.specs.declared.spot.Spot.TheVariants.{InPutAway, InMoveSet}
use Rattle.slub_core.specs.declared.spot.Away.{Away}
use Rattle.slub_core.specs.declared.spot.PutAwaySpot.TheVariants.{PutNode, GiveAway}
use Rattle.slub_core.specs.declared.spot.MoveSet.{MoveSet}
use Rattle.slub_core.specs.declared.spot.MoveSetSpot.TheVariants.{ChooseFront, PutTail, LoadMoved, FollowSet, GiveMove}
use Rattle.slub_core.specs.Setup.{node_lock}
use Rattle.slub_core.specs.World.{World, LockValue, Node, set_value, cache_at, one_if, frames_in}
use Rattle.slub_core.specs.Local.{Worker, hand_of, at, less_hand, bare_hand, stays}
use Rattle.slub_core.specs.Alloc.{node_of, with_node}
use Rattle.slub_core.specs.PutAway.{put_on_node, put_away_at_once}
use Rattle.slub_core.specs.MoveSet.{front_taken, move_set_at_once}
use Rattle.slub_core.specs.Spots.{Loose, Kept, beside_away, beside_move}
use Rattle.slub_core.specs.Listed.{takes, IsStocked}
use Rattle.slub_core.specs.Fresh.{AreHands, AreHeld, IsHeldString, IsStringOf, IsAtWork}
use Rattle.slub_core.specs.Coherent.{Stands}
use Rattle.slub_core.proofs.StepHands.{first-hand, in_chain-nil}
use Rattle.slub_core.proofs.Lists.{times-first}
use Rattle.slub_core.proofs.LocalStep.{local_step}
use Rattle.slub_core.proofs.PopNode.{bare-walk}
use Rattle.slub_core.proofs.Update.{term_le_sum}
use Rattle.slub_core.proofs.UnderLock.{Makes, node_step, stocked-within, known-same, locks-same}

-- ---- a slab is put away

put_node-work : (w : World) (x : Worker) (away : Away) (hs : List Hand) (xss : List (List ℕ)) (n : ℕ) (v : LockValue) → x.local.spot ≡ InPutAway PutNode away
    → AreHands (beside_away away) hs xss → AreHeld (set_value w n v) x.local.cache (beside_away away) hs xss 0
    → All (λ (k : Known). k.held ≡ true → k.cache ≡ cache_at (set_value w n v) k.frame) x.local.known
    → ((n : ℕ) → 1 ≤ takes n (record { local = record x.local { hands = hs; spot = InPutAway GiveAway away }; chains = xss; string = x.string }) → w.lock n ≡ suc x.local.worker) → IsAtWork w x
    → IsAtWork (set_value w n v) (record { local = record x.local { hands = hs; spot = InPutAway GiveAway away }; chains = xss; string = x.string })
put_node-work w x away hs xss n v is hands held known locks ok = grind arith

times-tail : (f g : ℕ) (fs : List ℕ) → times g (fs ++ f ∷ []) ≡ times g fs + one_if (f == g)
times-tail f g fs = let a = times-append g fs (f ∷ []) in let t = times-first g f [] in omega arith

times-put : (s : SlabWord) (f g : ℕ) (fs : List ℕ) → times g (put_on_node s f fs) ≡ times g fs + one_if (f == g)
times-put s f g fs = elim (cases_Bool (s.head == 0)) [
  | inl e ↦ rw e (let t = times-first g f fs in omega arith)
  | inr e ↦ rw e (times-tail f g fs)
]

-- the list with one slab more
more-stocked : (w : World) (x : Worker) (f : ℕ) (fs : List ℕ) → IsStocked (w.slab f) x.local.cache → ((g : ℕ) → 1 ≤ times g (node_of w.value x.local) → IsStocked (w.slab g) x.local.cache)
    → ((g : ℕ) → times g fs ≡ times g (node_of w.value x.local) + one_if (f == g)) → (g : ℕ) → 1 ≤ times g fs → IsStocked (w.slab g) x.local.cache
more-stocked w x f fs mine all count g some = elim (cases_eq f g) [
  | inl e ↦ subst (λ g. IsStocked (w.slab g) x.local.cache) e mine
  | inr d ↦ all g (let c = count g in let o : one_if (f == g) ≡ 0 = rw (ne_eqb f g d) refl in omega arith)
]

pub at_PutNode : (w : World) (x : Worker) (others : List Worker) (away : Away) → x.local.spot ≡ InPutAway PutNode away → Stands w (x ∷ others)
    → Makes w others (put_away_at_once w.value x.local PutNode away)
at_PutNode w x others away is s =
    let ok = All-head (IsAtWork w) x others s.fresh.workers in
    let r = first-hand Loose (beside_away away) x.local.hands x.chains (rw is at ok.spot.hands) in
    by_hand r.0 r.1 r.2 r.3 r.4 r.5 ok
  where
    by_hand : (h : Hand) (hs : List Hand) (xs : List ℕ) (xss : List (List ℕ)) → x.local.hands ≡ h ∷ hs → x.chains ≡ xs ∷ xss → IsAtWork w x → Makes w others (put_away_at_once w.value x.local PutNode away)
    by_hand h hs xs xss first chain ok =
        let f = h.frame in
        let n = node_lock x.local.cache in
        let fs = put_on_node x.local.slab_word f (node_of w.value x.local) in
        let z : Worker = record { local = record x.local { hands = hs; spot = InPutAway GiveAway away }; chains = xss; string = x.string } in
        let hands : AreHands (Loose ∷ beside_away away) (h ∷ hs) (xs ∷ xss) = rw (is, first, chain) at ok.spot.hands in
        let held : AreHeld w x.local.cache (Loose ∷ beside_away away) (h ∷ hs) (xs ∷ xss) 0 = rw (is, first, chain) at ok.seen.hands in
        let plain = ok.spot.plain (rw is refl) in
        let count = s.fresh.setup.locks in
        let below : n < w.setup.locks = let c = plain.0 in omega arith in
        let nil : xs ≡ [] = hands.3.1 in
        let bare : x.chains ≡ [] ∷ xss = chain ∙ ap (λ ys. ys ∷ xss) nil in
        let more = λ (g : ℕ). times-put x.local.slab_word f g (node_of w.value x.local) in
        let none : times 0 fs ≡ 0 = let m = more 0 in let a = s.listed.shaped.no_lists in let t = term_le_sum w.setup.locks (λ k. times 0 (frames_in (w.value k))) n below in let o : one_if (f == 0) ≡ 0 = rw (ne_eqb f 0 (λ e. absurd (let p = hands.0 in omega arith))) refl in omega arith in
        let same : (k : ℕ) → takes k z ≡ takes k x = λ k. rw is refl in
        let frame : (hand_of x.local).frame ≡ f = rw first refl in
        subst (λ g. Makes w others (stays (with_node w.value x.local (put_on_node x.local.slab_word g (node_of w.value x.local))) (at (less_hand x.local) (InPutAway GiveAway away)))) (sym frame) (
          z,
          rw first refl,
          node_step w x z others fs s (rw is refl) (rw is refl) none
              (more-stocked w x f fs (record { owner = held.1; head = held.2.1; unfrozen = held.2.0 }) (λ g some. s.listed.shaped.node x.local.cache g below some) more)
              (λ g i. rw (first, bare) (let c = in_chain-nil f g i in omega arith))
              (λ g. let m = more g in rw first (omega arith))
              (λ g. let m = more g in rw (is, first) (omega arith))
              (λ g. refl) same
              (λ slabs. put_node-work w x away hs xss n (Node fs) is hands.5 held.3 (known-same w n (Node fs) x slabs ok) (locks-same w x z refl same ok) ok),
        )

-- ---- a slab of a set is put at the tail

put_tail-work : (w : World) (x : Worker) (move : MoveSet) (hs : List Hand) (xss : List (List ℕ)) (n : ℕ) (v : LockValue) → x.local.spot ≡ InMoveSet PutTail move
    → AreHands (beside_move move) hs xss → AreHeld (set_value w n v) x.local.cache (beside_move move) hs xss 0 → IsHeldString (set_value w n v) x.local.cache x.local.string x.string
    → All (λ (k : Known). k.held ≡ true → k.cache ≡ cache_at (set_value w n v) k.frame) x.local.known
    → ((n : ℕ) → 1 ≤ takes n (record { local = record x.local { hands = hs; spot = InMoveSet ChooseFront move }; chains = xss; string = x.string }) → w.lock n ≡ suc x.local.worker) → IsAtWork w x
    → IsAtWork (set_value w n v) (record { local = record x.local { hands = hs; spot = InMoveSet ChooseFront move }; chains = xss; string = x.string })
put_tail-work w x move hs xss n v is hands held string known locks ok = grind arith

pub at_PutTail : (w : World) (x : Worker) (others : List Worker) (move : MoveSet) → x.local.spot ≡ InMoveSet PutTail move → Stands w (x ∷ others)
    → Makes w others (move_set_at_once w.value x.local PutTail move)
at_PutTail w x others move is s =
    let ok = All-head (IsAtWork w) x others s.fresh.workers in
    let r = first-hand Loose (beside_move move) x.local.hands x.chains (rw is at ok.spot.hands) in
    by_hand r.0 r.1 r.2 r.3 r.4 r.5 ok
  where
    by_hand : (h : Hand) (hs : List Hand) (xs : List ℕ) (xss : List (List ℕ)) → x.local.hands ≡ h ∷ hs → x.chains ≡ xs ∷ xss → IsAtWork w x → Makes w others (move_set_at_once w.value x.local PutTail move)
    by_hand h hs xs xss first chain ok =
        let f = h.frame in
        let n = node_lock x.local.cache in
        let fs = node_of w.value x.local ++ f ∷ [] in
        let z : Worker = record { local = record x.local { hands = hs; spot = InMoveSet ChooseFront move }; chains = xss; string = x.string } in
        let hands : AreHands (Loose ∷ beside_move move) (h ∷ hs) (xs ∷ xss) = rw (is, first, chain) at ok.spot.hands in
        let held : AreHeld w x.local.cache (Loose ∷ beside_move move) (h ∷ hs) (xs ∷ xss) 0 = rw (is, first, chain) at ok.seen.hands in
        let plain = ok.spot.plain (rw is refl) in
        let count = s.fresh.setup.locks in
        let below : n < w.setup.locks = let c = plain.0 in omega arith in
        let nil : xs ≡ [] = hands.3.1 in
        let bare : x.chains ≡ [] ∷ xss = chain ∙ ap (λ ys. ys ∷ xss) nil in
        let more = λ (g : ℕ). times-tail f g (node_of w.value x.local) in
        let none : times 0 fs ≡ 0 = let m = more 0 in let a = s.listed.shaped.no_lists in let t = term_le_sum w.setup.locks (λ k. times 0 (frames_in (w.value k))) n below in let o : one_if (f == 0) ≡ 0 = rw (ne_eqb f 0 (λ e. absurd (let p = hands.0 in omega arith))) refl in omega arith in
        let same : (k : ℕ) → takes k z ≡ takes k x = λ k. rw is refl in
        let frame : (hand_of x.local).frame ≡ f = rw first refl in
        let string : IsHeldString (set_value w n (Node fs)) x.local.cache x.local.string x.string = ok.seen.string in
        subst (λ g. Makes w others (stays (with_node w.value x.local (node_of w.value x.local ++ g ∷ [])) (at (less_hand x.local) (InMoveSet ChooseFront move)))) (sym frame) (
          z,
          rw first refl,
          node_step w x z others fs s (rw is refl) (rw is refl) none
              (more-stocked w x f fs (record { owner = held.1; head = held.2.1; unfrozen = held.2.0 }) (λ g some. s.listed.shaped.node x.local.cache g below some) more)
              (λ g i. rw (first, bare) (let c = in_chain-nil f g i in omega arith))
              (λ g. let m = more g in rw first (omega arith))
              (λ g. let m = more g in rw (is, first) (omega arith))
              (λ g. refl) same
              (λ slabs. put_tail-work w x move hs xss n (Node fs) is hands.5 held.3 string (known-same w n (Node fs) x slabs ok) (locks-same w x z refl same ok) ok),
        )

-- ---- the front of a string is chosen

end-work : (w : World) (x : Worker) (move : MoveSet) → x.local.spot ≡ InMoveSet ChooseFront move → x.local.string ≡ None → IsAtWork w x → IsAtWork w (record x { local = at x.local (InMoveSet GiveMove move) })
end-work w x move is none ok = grind arith

follow-work : (w : World) (x : Worker) (move : MoveSet) (string : PartialString) → x.local.string ≡ Some string → 2 ≤ string.count → x.local.spot ≡ InMoveSet ChooseFront move → IsAtWork w x → IsAtWork w (record x { local = at x.local (InMoveSet FollowSet move) })
follow-work w x move string some more is ok = grind arith

last-work : (w : World) (x : Worker) (move : MoveSet) (f : ℕ) → x.local.spot ≡ InMoveSet ChooseFront move
    → AreHands (Kept ∷ beside_move move) (bare_hand f ∷ x.local.hands) ([] ∷ x.chains) → AreHeld w x.local.cache (Kept ∷ beside_move move) (bare_hand f ∷ x.local.hands) ([] ∷ x.chains) 0 → IsAtWork w x
    → IsAtWork w (record { local = record x.local { hands = bare_hand f ∷ x.local.hands; string = None; spot = InMoveSet LoadMoved move }; chains = [] ∷ x.chains; string = [] })
last-work w x move f is hands held ok = grind arith

pub at_ChooseFront : (w : World) (x : Worker) (others : List Worker) (move : MoveSet) → x.local.spot ≡ InMoveSet ChooseFront move → Stands w (x ∷ others)
    → Makes w others (move_set_at_once w.value x.local ChooseFront move)
at_ChooseFront w x others move is s = by_string x.local.string refl
  where
    ok : IsAtWork w x
    ok = All-head (IsAtWork w) x others s.fresh.workers

    one-slab : (fs : List ℕ) → length fs ≡ 1 → (f : ℕ) × (fs ≡ f ∷ [])
    one-slab [] e = absurd (omega arith)
    one-slab (f ∷ []) e = (f, refl)
    one-slab (f ∷ g ∷ fs) e = absurd (omega arith)

    only : (string : PartialString) (f : ℕ) → x.local.string ≡ Some string → x.string ≡ f ∷ [] → Makes w others (stays w.value (record x.local { hands = bare_hand string.front ∷ x.local.hands; string = None; spot = InMoveSet LoadMoved move }))
    only string f e one =
        let held : IsHeldString w x.local.cache (Some string) (f ∷ []) = rw (e, one) at ok.seen.string in
        let here : times f (f ∷ []) ≡ 1 = let t = times-first f f [] in let o : one_if (f == f) ≡ 1 = rw (eq-eqb f f refl) refl in omega arith in
        let kept = held.2 f (omega arith) in
        let front : string.front ≡ f = held.0.0 in
        let plain = ok.spot.plain (rw is refl) in
        let in' = stocked-within w s.chains f x.local.cache s.listed.shaped (record { owner = kept.1.owner; head = kept.1.head; unfrozen = kept.1.unfrozen }) in
        let frames = s.fresh.setup.frames in
        let hands : AreHands (beside_move move) x.local.hands x.chains = rw is at ok.spot.hands in
        let mine : AreHeld w x.local.cache (beside_move move) x.local.hands x.chains 0 = rw is at ok.seen.hands in (
          record { local = record x.local { hands = bare_hand f ∷ x.local.hands; string = None; spot = InMoveSet LoadMoved move }; chains = [] ∷ x.chains; string = [] },
          rw front refl,
          local_step w x _ others s
              (λ g i. let c = in_chain-nil f g i in omega arith)
              (record { home = λ g. rw one (let t = times-first g f [] in omega arith); marked = λ g. rw is refl; covered = λ g. refl; takes = λ n. rw is refl })
              (last-work w x move f is (kept.0, omega arith, omega arith, (refl, refl), bare-walk f, hands) (refl, kept.1.owner, (kept.1.unfrozen, kept.1.unlisted, kept.1.head), mine) ok),
        )

    by_string : (string : Option PartialString) → x.local.string ≡ string → Makes w others (stays w.value (front_taken x.local move string))
    by_string None e = (record x { local = at x.local (InMoveSet GiveMove move) }, refl, local_step w x _ others s (λ f i. refl) (record { home = λ f. refl; marked = λ f. rw is refl; covered = λ g. refl; takes = λ n. rw is refl }) (end-work w x move is e ok))
    by_string (Some string) e =
        let cursor : IsStringOf (Some string) x.string = rw e at ok.spot.string in
        elim (cases_eq string.count 1) [
          | inl one ↦ (let o = one-slab x.string (cursor.count ∙ one) in rw (eq-eqb string.count 1 one) (only string o.0 e o.1))
          | inr more ↦ rw (ne_eqb string.count 1 more) (record x { local = at x.local (InMoveSet FollowSet move) }, refl, local_step w x _ others s (λ f i. refl) (record { home = λ f. refl; marked = λ f. rw is refl; covered = λ g. refl; takes = λ n. rw is refl }) (follow-work w x move string e (let p = cursor.place in omega (arith, more)) is ok))
        ]
