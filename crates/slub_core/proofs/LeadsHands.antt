-- The step of a spot, on the table of words: words of slabs in hand and of scanned slabs.
use Rattle.std.proofs.Common.{◌≡◌, [], ℕ, ◌+◌, ◌-◌, ◌<◌, ◌≤◌, ◌==◌, List, ◌∷◌, length, get_or, refl, arith}
use Rattle.std.proofs.lemmas.Bool.{eq-eqb}
use Rattle.slub_core.specs.declared.local.Hand.{Hand}
use Rattle.slub_core.specs.declared.spot.Spot.TheVariants.{InAlloc, InPutAway, InMoveSet, InTrim}
use Rattle.slub_core.specs.declared.spot.AllocSpot.TheVariants.{LoadTaken, LoadKept, LoadPopped}
use Rattle.slub_core.specs.declared.spot.Away.{Away}
use Rattle.slub_core.specs.declared.spot.PutAwaySpot.TheVariants.{LoadAway}
use Rattle.slub_core.specs.declared.spot.MoveSet.{MoveSet}
use Rattle.slub_core.specs.declared.spot.MoveSetSpot.TheVariants.{LoadMoved}
use Rattle.slub_core.specs.declared.spot.TrimSpot.TheVariants.{LoadScanned}
use Rattle.slub_core.specs.declared.step.Place.TheVariants.{SlabOf}
use Rattle.slub_core.specs.Words.{slab_base}
use Rattle.slub_core.specs.World.{World, one_if, world_from, world_of}
use Rattle.slub_core.specs.Local.{Worker, hand_of}
use Rattle.slub_core.specs.Alloc.{node_of}
use Rattle.slub_core.specs.Offline.{scanned_slab}
use Rattle.slub_core.specs.Spots.{Role, Taken, Leaving, Popped, Kept, beside_away, beside_move, ready_of}
use Rattle.slub_core.specs.Fresh.{AreHands}
use Rattle.slub_core.specs.Listed.{home_of}
use Rattle.slub_core.specs.Steps.{advance_at}
use Rattle.slub_core.specs.Coherent.{Stands}
use Rattle.slub_core.proofs.StepHands.{first-hand}
use Rattle.slub_core.proofs.Leads.{AtSpot, at_work, home_below}
use Rattle.slub_core.proofs.Lists.{times-at}
use Rattle.slub_core.proofs.UnderLock.{stocked-within}
use Rattle.slub_core.proofs.StepWords.{slab-read}
use Rattle.slub_core.proofs.WordSteps.{load}
use Rattle.slub_core.proofs.Kind8.{at_LoadTaken, at_LoadKept, at_LoadPopped, at_LoadAway, at_LoadMoved, at_LoadScanned}
use Rattle.slub_core.proofs.Accounts.{Reaches}
use Rattle.slub_core.proofs.TaleSteps.{quietly}
use Rattle.slub_core.proofs.TaleSpots.{unseen-same}
use Rattle.slub_core.specs.declared.step.Answer.TheVariants.{Word}

-- a slab in hand is among the frames
pub hand_below : (w : World) (x : Worker) (others : List Worker) (r : Role) (rs : List Role) → Stands w (x ∷ others) → AreHands (r ∷ rs) x.local.hands x.chains → (hand_of x.local).frame < w.setup.frames
hand_below w x others r rs s hands = by_hand (first-hand r rs x.local.hands x.chains hands)
  where
    by_hand : (h : Hand) × (hs : List Hand) × (xs : List ℕ) × (xss : List (List ℕ)) × (x.local.hands ≡ h ∷ hs) × (x.chains ≡ xs ∷ xss) → (hand_of x.local).frame < w.setup.frames
    by_hand (h, hs, xs, xss, first, chain) =
        let ok : AreHands (r ∷ rs) (h ∷ hs) (xs ∷ xss) = rw (first, chain) at hands in
        let one : one_if (h.frame == h.frame) ≡ 1 = rw (eq-eqb h.frame h.frame refl) refl in
        let has : 1 ≤ home_of h.frame x = rw first (omega arith) in
        rw first (home_below w x others h.frame s (λ z. absurd (let a = ok.0 in omega arith)) has)

pub leads_LoadTaken : AtSpot (InAlloc LoadTaken)
unfolding world_of world_from
leads_LoadTaken opening m value words x others t is s ac =
    let w = world_of m value words in
    let f = (hand_of x.local).frame in
    load m value words (SlabOf f) (λ v a. Reaches opening v others (advance_at m value x.local (InAlloc LoadTaken) a))
    (at_LoadTaken w x others (get_or words (slab_base + f) 0) is (slab-read m value words f (hand_below w x others Taken [] s (rw is at (at_work w x others s).spot.hands))) s, quietly opening w w value x others (InAlloc LoadTaken) (Word (get_or words (slab_base + f) 0)) is ac (unseen-same w) refl refl)

pub leads_LoadKept : AtSpot (InAlloc LoadKept)
unfolding world_of world_from
leads_LoadKept opening m value words x others t is s ac =
    let w = world_of m value words in
    let f = (hand_of x.local).frame in
    load m value words (SlabOf f) (λ v a. Reaches opening v others (advance_at m value x.local (InAlloc LoadKept) a))
    (at_LoadKept w x others (get_or words (slab_base + f) 0) is (slab-read m value words f (hand_below w x others Kept [] s (rw is at (at_work w x others s).spot.hands))) s, quietly opening w w value x others (InAlloc LoadKept) (Word (get_or words (slab_base + f) 0)) is ac (unseen-same w) refl refl)

pub leads_LoadPopped : AtSpot (InAlloc LoadPopped)
unfolding world_of world_from
leads_LoadPopped opening m value words x others t is s ac =
    let w = world_of m value words in
    let f = (hand_of x.local).frame in
    load m value words (SlabOf f) (λ v a. Reaches opening v others (advance_at m value x.local (InAlloc LoadPopped) a))
    (at_LoadPopped w x others (get_or words (slab_base + f) 0) is (slab-read m value words f (hand_below w x others Popped (ready_of (length x.local.hands - 1)) s (rw is at (at_work w x others s).spot.hands))) s, quietly opening w w value x others (InAlloc LoadPopped) (Word (get_or words (slab_base + f) 0)) is ac (unseen-same w) refl refl)

pub leads_LoadAway : (away : Away) → AtSpot (InPutAway LoadAway away)
unfolding world_of world_from
leads_LoadAway away opening m value words x others t is s ac =
    let w = world_of m value words in
    let f = (hand_of x.local).frame in
    load m value words (SlabOf f) (λ v a. Reaches opening v others (advance_at m value x.local (InPutAway LoadAway away) a))
    (at_LoadAway w x others away (get_or words (slab_base + f) 0) is (slab-read m value words f (hand_below w x others Leaving (beside_away away) s (rw is at (at_work w x others s).spot.hands))) s, quietly opening w w value x others (InPutAway LoadAway away) (Word (get_or words (slab_base + f) 0)) is ac (unseen-same w) refl refl)

pub leads_LoadMoved : (move : MoveSet) → AtSpot (InMoveSet LoadMoved move)
unfolding world_of world_from
leads_LoadMoved move opening m value words x others t is s ac =
    let w = world_of m value words in
    let f = (hand_of x.local).frame in
    load m value words (SlabOf f) (λ v a. Reaches opening v others (advance_at m value x.local (InMoveSet LoadMoved move) a))
    (at_LoadMoved w x others move (get_or words (slab_base + f) 0) is (slab-read m value words f (hand_below w x others Kept (beside_move move) s (rw is at (at_work w x others s).spot.hands))) s, quietly opening w w value x others (InMoveSet LoadMoved move) (Word (get_or words (slab_base + f) 0)) is ac (unseen-same w) refl refl)

-- the slab that a scan has come to stands on the node list
pub scanned_below : (w : World) (x : Worker) (others : List Worker) → x.local.spot ≡ InTrim LoadScanned → Stands w (x ∷ others) → scanned_slab w.value x.local < w.setup.frames
scanned_below w x others is s =
    let ok = at_work w x others s in
    let next = ok.seen.scan_next (rw is refl) in
    let f = scanned_slab w.value x.local in
    let on = times-at f (node_of w.value x.local) (length x.local.scanned) next refl in
    let cache = (ok.spot.plain (rw is refl)).0 in
    let count = s.fresh.setup.locks in
    (stocked-within w s.chains f x.local.cache s.listed.shaped (s.listed.shaped.node x.local.cache f (omega arith) on)).1

pub leads_LoadScanned : AtSpot (InTrim LoadScanned)
unfolding world_of world_from
leads_LoadScanned opening m value words x others t is s ac =
    let w = world_of m value words in
    let f = scanned_slab value x.local in
    load m value words (SlabOf f) (λ v a. Reaches opening v others (advance_at m value x.local (InTrim LoadScanned) a))
    (at_LoadScanned w x others (get_or words (slab_base + f) 0) is (slab-read m value words f (scanned_below w x others is s)) s, quietly opening w w value x others (InTrim LoadScanned) (Word (get_or words (slab_base + f) 0)) is ac (unseen-same w) refl refl)
