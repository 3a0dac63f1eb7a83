-- What the spots of an allocation ask: room for a transaction id, a hand free, the pool.
use Rattle.std.proofs.Common.{◌≡◌, ℕ, zero, suc, ◌+◌, ◌^◌, ◌<◌, ◌≤◌, List, [], ◌∷◌, length, refl, ap, ◌∙◌, subst, arith}
use Rattle.slub_core.specs.declared.local.Hand.{Hand}
use Rattle.slub_core.specs.declared.spot.Spot.{Spot}
use Rattle.slub_core.specs.declared.spot.Spot.TheVariants.{InAlloc}
use Rattle.slub_core.specs.declared.spot.AllocSpot.{AllocSpot}
use Rattle.slub_core.specs.declared.spot.AllocSpot.TheVariants.{Pop, Detach, TakeList, FollowFront, PopNode, TakeRun, Make, LoadReady, DetachOther, Install}
use Rattle.slub_core.specs.World.{World}
use Rattle.slub_core.specs.Local.{Worker, hand_of}
use Rattle.slub_core.specs.Spots.{Ready, ready_of, roles}
use Rattle.slub_core.specs.Fresh.{AreHands}
use Rattle.slub_core.specs.Coherent.{Stands}
use Rattle.slub_core.proofs.StepHands.{one-hand}
use Rattle.slub_core.proofs.Leads.{at_work}
use Rattle.slub_core.specs.declared.guarded.Guarded.{Guarded}
use Rattle.slub_turns.specs.Fits.{StepFits, AtOnceFits, AreValues}
use Rattle.slub_turns.proofs.Values.{pool-there}
use Rattle.slub_turns.proofs.OnNode.{hands-length}

-- there are as many hands as roles
pub hands-at : (w : World) (x : Worker) (others : List Worker) (spot : Spot) → x.local.spot ≡ spot → Stands w (x ∷ others) → length x.local.hands ≡ length (roles spot (length x.local.hands))
hands-at w x others spot is s =
    subst (λ (p : Spot). length x.local.hands ≡ length (roles p (length x.local.hands))) is
    (hands-length (roles x.local.spot (length x.local.hands)) x.local.hands x.chains (at_work w x others s).spot.hands)

-- one slab at most is ready
ready-few : (n : ℕ) → length (ready_of n) ≤ 1
ready-few zero = omega arith
ready-few (suc n) = omega arith

-- no walk along a new chain in hand has begun
unwalked : (w : World) (x : Worker) (others : List Worker) → x.local.spot ≡ InAlloc LoadReady → Stands w (x ∷ others) → (hand_of x.local).length + 1 < 2 ^ 16
unwalked w x others is s =
    let ok = at_work w x others s in
    let r = one-hand Ready x.local.hands x.chains (rw is at ok.spot.hands) in
    by_hand r.0 r.1 r.2 r.3
  where
    by_hand : (h : Hand) (xs : List ℕ) → x.local.hands ≡ h ∷ [] → x.chains ≡ xs ∷ [] → (hand_of x.local).length + 1 < 2 ^ 16
    by_hand h xs one chain =
        let ok = at_work w x others s in
        let hands : AreHands (Ready ∷ []) (h ∷ []) (xs ∷ []) = rw (is, one, chain) at ok.spot.hands in
        let hand : hand_of x.local ≡ h = rw one refl in
        let none : (hand_of x.local).length ≡ 0 = ap (λ (k : Hand). k.length) hand ∙ hands.3.1.0 in
        omega arith

pub alloc_step : (w : World) (x : Worker) (others : List Worker) (a : AllocSpot) → x.local.spot ≡ InAlloc a → Stands w (x ∷ others) → StepFits w.setup.step x.local (InAlloc a)
alloc_step w x others Pop is s = (at_work w x others s).spot.noted.step (rw is refl)
alloc_step w x others Detach is s = ((at_work w x others s).spot.noted.step (rw is refl), let e = hands-at w x others (InAlloc Detach) is s in omega arith)
alloc_step w x others TakeList is s = let e = hands-at w x others (InAlloc TakeList) is s in omega arith
alloc_step w x others FollowFront is s = let e = hands-at w x others (InAlloc FollowFront) is s in omega arith
alloc_step w x others Make is s = let e = hands-at w x others (InAlloc Make) is s in omega arith
alloc_step w x others LoadReady is s = unwalked w x others is s
alloc_step w x others DetachOther is s = ((at_work w x others s).spot.noted.step (rw is refl), let e = hands-at w x others (InAlloc DetachOther) is s in omega arith)
alloc_step w x others Install is s = (at_work w x others s).spot.noted.step (rw is refl)
alloc_step w x others _ is s = tt

pub alloc_once : (w : World) (x : Worker) (others : List Worker) (guarded : List Guarded) (a : AllocSpot) → x.local.spot ≡ InAlloc a → Stands w (x ∷ others) → AreValues w.setup w.value guarded → AtOnceFits guarded x.local (InAlloc a)
alloc_once w x others guarded PopNode is s are = let e = hands-at w x others (InAlloc PopNode) is s in let f = ready-few (length x.local.hands) in omega arith
alloc_once w x others guarded TakeRun is s are = pool-there w (x ∷ others) guarded s are
alloc_once w x others guarded _ is s are = tt
