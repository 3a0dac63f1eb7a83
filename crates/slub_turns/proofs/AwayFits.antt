-- What the spots of putting a slab away ask: a chain in hand is short, and the node list has room.
use Rattle.std.proofs.Common.{◌≡◌, ℕ, ◌+◌, ◌<◌, ◌≤◌, ◌==◌, Bool, true, false, List, [], ◌∷◌, length, refl, ap, arith, inl, inr}
use Rattle.std.specs.Prelude.{nat_lt}
use Rattle.std.proofs.lemmas.Bool.{cases_Bool, cases_lt}
use Rattle.std.proofs.lemmas.List.{length-append}
use Rattle.std.proofs.lemmas.List.Elements.{All-head}
use Rattle.slub_words.specs.declared.slab.SlabWord.{SlabWord}
use Rattle.slub_common.specs.Times.{times}
use Rattle.slub_core.specs.declared.local.Hand.{Hand}
use Rattle.slub_core.specs.declared.spot.Spot.TheVariants.{InPutAway}
use Rattle.slub_core.specs.declared.spot.PutAwaySpot.{PutAwaySpot}
use Rattle.slub_core.specs.declared.spot.PutAwaySpot.TheVariants.{WalkChain, PutNode}
use Rattle.slub_core.specs.declared.spot.Away.{Away}
use Rattle.slub_core.specs.World.{World, exists_at, in_chain, one_if, order_at}
use Rattle.slub_core.specs.Local.{Worker, hand_of}
use Rattle.slub_core.specs.Spots.{Leaving, beside_away}
use Rattle.slub_core.specs.Placed.{in_hands}
use Rattle.slub_core.specs.Fresh.{AreHands}
use Rattle.slub_core.specs.Setup.{node_lock}
use Rattle.slub_core.specs.World as value
use Rattle.slub_core.specs.Alloc.{node_of}
use Rattle.slub_core.specs.PutAway.{put_on_node, put_away_at_once}
use Rattle.slub_core.specs.Coherent.{Stands}
use Rattle.slub_core.proofs.NodePuts.{at_PutNode}
use Rattle.slub_core.proofs.Update.{update_same}
use Rattle.slub_core.proofs.Exists.{in_chain-here, hands-exist, exists_at-within}
use Rattle.slub_core.proofs.StepHands.{first-hand}
use Rattle.slub_core.proofs.Kind21.{run-some}
use Rattle.slub_core.proofs.Leads.{at_work}
use Rattle.slub_core.proofs.Pigeon.{length-as_sum, sum_below-le}
use Rattle.slub_core.specs.declared.guarded.Guarded.{Guarded}
use Rattle.slub_turns.specs.Fits.{StepFits, AtOnceFits, AreValues}
use Rattle.slub_turns.proofs.Values.{node-room}

-- a slab has at most 512 objects
pub few-objects : (w : World) (xs : List Worker) (f : ℕ) → Stands w xs → (w.slab f).objects ≤ 512
few-objects w xs f s = elim (cases_lt 0 (w.slab f).objects) [
  | inl l ↦ (
      let shaped = s.listed.shaped in
      let plain = shaped.plain f (omega arith) in
      let cache = (w.slab f).cache in
      (run-some (record (w.setup.layout cache) { min_partial = 5; cpu_partial_slabs = 0 }) (order_at w f) (w.slab f).objects (s.fresh.setup.layout cache plain.1) (shaped.sized f (omega arith))).1)
  | inr g ↦ omega arith
]

bit : (a : Bool) → one_if a ≤ 1
bit true = omega arith
bit false = omega arith

-- the objects of a chain in hand are objects of its slab, each once
pub chain-short : (w : World) (x : Worker) (others : List Worker) (h : Hand) (hs : List Hand) (xs : List ℕ) (xss : List (List ℕ)) → Stands w (x ∷ others) → x.local.hands ≡ h ∷ hs → x.chains ≡ xs ∷ xss → length xs ≤ 512
chain-short w x others h hs xs xss s one chain =
    let few = few-objects w (x ∷ others) h.frame s in
    let n = (w.slab h.frame).objects in
    let all = length-as_sum n xs (λ j past. elim (cases_lt 0 (times j xs)) [
      | inl l ↦ absurd (let e = each j in let below = exists_at-within w h.frame j (omega arith) in omega arith)
      | inr g ↦ omega arith
    ]) in
    let most = sum_below-le n (λ j. times j xs) (λ j. let e = each j in let b : exists_at w h.frame j ≤ 1 = bit (nat_lt j n) in omega arith) in
    omega arith
  where
    each : (j : ℕ) → times j xs ≤ exists_at w h.frame j
    each j =
        let e = All-head (λ (o : Worker). in_hands h.frame j o.local.hands o.chains ≤ exists_at w h.frame j) x others (hands-exist w s.chains (x ∷ others) h.frame j s.placed s.listed) in
        let e' : in_chain h.frame xs h.frame j + in_hands h.frame j hs xss ≤ exists_at w h.frame j = rw (one, chain) at e in
        let c = in_chain-here h.frame xs j in
        omega arith

walk-short : (w : World) (x : Worker) (others : List Worker) (away : Away) → x.local.spot ≡ InPutAway WalkChain away → Stands w (x ∷ others) → (hand_of x.local).length < 65535
walk-short w x others away is s =
    let ok = at_work w x others s in
    let r = first-hand Leaving (beside_away away) x.local.hands x.chains (rw is at ok.spot.hands) in
    by_hand r.0 r.1 r.2 r.3 r.4 r.5
  where
    by_hand : (h : Hand) (hs : List Hand) (xs : List ℕ) (xss : List (List ℕ)) → x.local.hands ≡ h ∷ hs → x.chains ≡ xs ∷ xss → (hand_of x.local).length < 65535
    by_hand h hs xs xss one chain =
        let ok = at_work w x others s in
        let hands : AreHands (Leaving ∷ beside_away away) (h ∷ hs) (xs ∷ xss) = rw (is, one, chain) at ok.spot.hands in
        let hand : hand_of x.local ≡ h = rw one refl in
        let walked = hands.4.short in
        let short = chain-short w x others h hs xs xss s one chain in
        let same : (hand_of x.local).length ≡ h.length = ap (λ (k : Hand). k.length) hand in
        omega arith

pub away_step : (w : World) (x : Worker) (others : List Worker) (a : PutAwaySpot) (away : Away) → x.local.spot ≡ InPutAway a away → Stands w (x ∷ others) → StepFits w.setup.step x.local (InPutAway a away)
away_step w x others WalkChain away is s = walk-short w x others away is s
away_step w x others _ away is s = tt

-- a slab more is on the list, at its front or at its end
one-more : (word : SlabWord) (frame : ℕ) (frames : List ℕ) → length (put_on_node word frame frames) ≡ length frames + 1
one-more word frame frames = elim (cases_Bool (word.head == 0)) [
  | inl e ↦ rw e (omega arith)
  | inr e ↦ rw e (length-append frames (frame ∷ []))
]

pub away_once : (w : World) (x : Worker) (others : List Worker) (guarded : List Guarded) (a : PutAwaySpot) (away : Away) → x.local.spot ≡ InPutAway a away → Stands w (x ∷ others) → AreValues w.setup w.value guarded → AtOnceFits guarded x.local (InPutAway a away)
away_once w x others guarded PutNode away is s are =
    let l = x.local in
    let frames = put_on_node l.slab_word (hand_of l).frame (node_of w.value l) in
    node-room w (x ∷ others) others guarded l.cache (put_away_at_once w.value l PutNode away) frames s are ((at_work w x others s).spot.plain (rw is refl))
    (update_same w.value (node_lock l.cache) (value.Node frames)) (one-more l.slab_word (hand_of l).frame (node_of w.value l)) (at_PutNode w x others away is s)
away_once w x others guarded _ away is s are = tt
