-- Kind 8, spot by spot: the word of a slab in hand is loaded, or of a slab of a node list.
use Rattle.std.proofs.Common.{◌≡◌, ◌≢◌, ℕ, zero, suc, ◌+◌, ◌-◌, ◌^◌, ◌<◌, ◌≤◌, ◌==◌, ◌&&◌, not, false, cond, List, [], ◌∷◌, ◌++◌, length, refl, ap, ◌∙◌, subst, arith, inl, inr}
use Rattle.std.proofs.lemmas.Bool.{cases_Bool, le-ltb, cond_both, eqb-true, eqb-false, and_parts}
use Rattle.std.proofs.lemmas.List.{length-append}
use Rattle.std.proofs.lemmas.List.Elements.{All-head}
use Rattle.slub_common.specs.Times.{times}
use Rattle.slub_words.specs.declared.slab.SlabWord.{SlabWord}
use Rattle.slub_core.specs.declared.local.Hand.{Hand}
use Rattle.slub_core.specs.declared.step.Answer.TheVariants.{Word}
use Rattle.slub_core.specs.declared.spot.Spot.{Spot}
use Rattle.slub_core.specs.declared.spot.Spot.TheVariants.{InAlloc, InPutAway, InDiscard, InMoveSet, InTrim}
use Rattle.slub_core.specs.declared.spot.AllocSpot.TheVariants.{LoadTaken, TakeAll, MarkFull, LoadKept, FreezeKept, LoadPopped, FreezePopped, Unlist}
use Rattle.slub_core.specs.declared.spot.Away.{Away}
use Rattle.slub_core.specs.declared.spot.PutAwaySpot.TheVariants.{LoadAway, LinkLast, Unfreeze}
use Rattle.slub_core.specs.declared.spot.Discard.TheVariants.{FromMove}
use Rattle.slub_core.specs.declared.spot.DiscardSpot.TheVariants.{Unmake}
use Rattle.slub_core.specs.declared.spot.MoveSet.{MoveSet}
use Rattle.slub_core.specs.declared.spot.MoveSetSpot.TheVariants.{LoadMoved, ListSlab}
use Rattle.slub_core.specs.declared.spot.TrimSpot.TheVariants.{ScanNode, LoadScanned, DropScanned}
use Rattle.slub_core.specs.Setup.{node_lock}
use Rattle.slub_core.specs.Words.{slab_in}
use Rattle.slub_core.specs.World.{World, pointer, exists_at, Leads}
use Rattle.slub_core.specs.Local.{Worker, hand_of, chain_of}
use Rattle.slub_core.specs.Alloc.{alloc_advance, way_of_taken, way_of_popped, node_of}
use Rattle.slub_core.specs.PutAway.{put_away_advance, way_of_end, has_enough}
use Rattle.slub_core.specs.MoveSet.{move_set_advance, way_of_moved}
use Rattle.slub_core.specs.Offline.{trim_advance, scanned_slab}
use Rattle.slub_core.specs.Spots.{Leaving, Untied, Popped, Kept, Ready, Loose, ready_of, beside_away, beside_move}
use Rattle.slub_core.specs.Placed.{owned}
use Rattle.slub_core.specs.Listed.{home_of}
use Rattle.slub_core.specs.Fresh.{AreHands, AreHeld, IsEmptied, IsAtWork}
use Rattle.slub_core.specs.Coherent.{Stands}
use Rattle.slub_core.proofs.Counts.{places-cons, homes-cons}
use Rattle.slub_core.proofs.Exists.{home-live, word-object, object_at-le, in_chain-here}
use Rattle.slub_core.proofs.StepHands.{first-hand, two-hands}
use Rattle.slub_core.proofs.Homes.{on-node}
use Rattle.slub_core.proofs.Lists.{times-at}
use Rattle.slub_core.proofs.Pigeon.{sum_below-add, sum_below-le, length-as_sum}
use Rattle.slub_core.proofs.LocalStep.{local_step}
use Rattle.slub_core.proofs.Locks.{ComesTo, one-self}

-- the worker with the slab word that it has loaded
abbrev with_slab : Worker → SlabWord → Spot → Worker
with_slab x v spot = record x { local = record x.local { slab_word = v; spot = spot } }

abbrev IsSlabWord : SlabWord → Type 0
IsSlabWord v = (v.head < 2 ^ 16) × (v.inuse < 2 ^ 16) × (v.objects < 2 ^ 16) × (v.cache < 2 ^ 8)

fits : (w : World) (xs : List Worker) (f word : ℕ) → Stands w xs → w.slab f ≡ slab_in word → IsSlabWord (slab_in word)
fits w xs f word s there = subst IsSlabWord there (s.fresh.worded.slab f)

-- ---- a slab in hand has its word, and as many objects in use as its chain has

pub hand-live : (w : World) (x : Worker) (others : List Worker) (h : Hand) (hs : List Hand) → Stands w (x ∷ others) → x.local.hands ≡ h ∷ hs → h.frame ≢ 0 → 1 ≤ (w.slab h.frame).objects
hand-live w x others h hs s first real =
    let c = homes-cons w s.chains x others h.frame in
    let one = one-self h.frame in
    let has : 1 ≤ home_of h.frame x = rw first (omega arith) in
    home-live w s.chains (x ∷ others) h.frame s.listed real (omega arith)

pub chain_in_use : (w : World) (x : Worker) (others : List Worker) (h : Hand) (hs : List Hand) (xs : List ℕ) (xss : List (List ℕ)) → Stands w (x ∷ others) → x.local.hands ≡ h ∷ hs → x.chains ≡ xs ∷ xss → h.frame ≢ 0
    → length xs ≤ (w.slab h.frame).inuse
chain_in_use w x others h hs xs xss s first chain real =
    let f = h.frame in
    let y = s.chains in
    let n = (w.slab f).objects in
    let live = hand-live w x others h hs s first real in
    let has : (j : ℕ) → times j xs ≤ owned f j x = λ j. rw (first, chain) (let c = in_chain-here f xs j in omega arith) in
    let once : (j : ℕ) → times j xs + times j (y.own f) ≤ exists_at w f j = λ j. let m = has j in let o = s.placed.once f j in let e = word-object w f j live in let p = places-cons w y x others f j in omega arith in
    let past : (j : ℕ) → n ≤ j → exists_at w f j ≡ 0 = λ j above. rw (le-ltb j n above) refl in
    let a = length-as_sum n xs (λ j above. let o = once j in let z = past j above in omega arith) in
    let b = length-as_sum n (y.own f) (λ j above. let o = once j in let z = past j above in omega arith) in
    let c = sum_below-add n (λ j. times j xs) (λ j. times j (y.own f)) in
    let m = sum_below-le n (λ j. times j xs + times j (y.own f)) (λ j. let o = once j in let e = word-object w f j live in let z = object_at-le w f j in omega arith) in
    let k = s.listed.shaped.counted f in
    omega arith

-- ---- an allocation

full-work : (w : World) (x : Worker) (v : SlabWord) → x.local.spot ≡ InAlloc LoadTaken → IsSlabWord v → v.head ≡ 0 → IsAtWork w x → IsAtWork w (with_slab x v (InAlloc MarkFull))
full-work w x v is fits none ok = grind arith

take-work : (w : World) (x : Worker) (v : SlabWord) → x.local.spot ≡ InAlloc LoadTaken → IsSlabWord v → 1 ≤ v.head → IsAtWork w x → IsAtWork w (with_slab x v (InAlloc TakeAll))
take-work w x v is fits some ok = grind arith

pub at_LoadTaken : (w : World) (x : Worker) (others : List Worker) (word : ℕ) → x.local.spot ≡ InAlloc LoadTaken → w.slab (hand_of x.local).frame ≡ slab_in word → Stands w (x ∷ others)
    → ComesTo w others (alloc_advance w.setup x.local LoadTaken (Word word)).local
at_LoadTaken w x others word is there s =
    let v = slab_in word in
    let ok = All-head (IsAtWork w) x others s.fresh.workers in
    let packed = fits w (x ∷ others) (hand_of x.local).frame word s there in (
      with_slab x v (way_of_taken v),
      refl,
      cond_both (v.head == 0) (InAlloc MarkFull) (InAlloc TakeAll) (λ spot. Stands w (with_slab x v spot ∷ others))
          (λ e. local_step w x _ others s (λ f i. refl) (record { home = λ f. refl; marked = λ f. rw is refl; covered = λ g. refl; takes = λ k. rw is refl }) (full-work w x v is packed (eqb-true v.head 0 e) ok))
          (λ e. local_step w x _ others s (λ f i. refl) (record { home = λ f. refl; marked = λ f. rw is refl; covered = λ g. refl; takes = λ k. rw is refl }) (take-work w x v is packed (let d = eqb-false v.head 0 e in omega (arith, d)) ok)),
    )

kept-work : (w : World) (x : Worker) (v : SlabWord) → x.local.spot ≡ InAlloc LoadKept → IsSlabWord v → IsAtWork w x → IsAtWork w (with_slab x v (InAlloc FreezeKept))
kept-work w x v is fits ok = grind arith

pub at_LoadKept : (w : World) (x : Worker) (others : List Worker) (word : ℕ) → x.local.spot ≡ InAlloc LoadKept → w.slab (hand_of x.local).frame ≡ slab_in word → Stands w (x ∷ others)
    → ComesTo w others (alloc_advance w.setup x.local LoadKept (Word word)).local
at_LoadKept w x others word is there s = (
  with_slab x (slab_in word) (InAlloc FreezeKept),
  refl,
  local_step w x _ others s (λ f i. refl) (record { home = λ f. refl; marked = λ f. rw is refl; covered = λ g. refl; takes = λ k. rw is refl })
      (kept-work w x (slab_in word) is (fits w (x ∷ others) (hand_of x.local).frame word s there) (All-head (IsAtWork w) x others s.fresh.workers)),
)

freeze-work : (w : World) (x : Worker) (v : SlabWord) (h : Hand) → x.local.spot ≡ InAlloc LoadPopped → x.local.hands ≡ h ∷ [] → IsSlabWord v → IsAtWork w x → IsAtWork w (with_slab x v (InAlloc FreezePopped))
freeze-work w x v h is one fits ok = grind arith

unlist-work : (w : World) (x : Worker) (v : SlabWord) (h k : Hand) → x.local.spot ≡ InAlloc LoadPopped → x.local.hands ≡ h ∷ k ∷ [] → IsSlabWord v → IsAtWork w x → IsAtWork w (with_slab x v (InAlloc Unlist))
unlist-work w x v h k is two fits ok = grind arith

ready-more : (n : ℕ) → 1 ≤ n → ready_of n ≡ Ready ∷ []
ready-more zero some = absurd (omega arith)
ready-more (suc n) some = refl

pub at_LoadPopped : (w : World) (x : Worker) (others : List Worker) (word : ℕ) → x.local.spot ≡ InAlloc LoadPopped → w.slab (hand_of x.local).frame ≡ slab_in word → Stands w (x ∷ others)
    → ComesTo w others (alloc_advance w.setup x.local LoadPopped (Word word)).local
at_LoadPopped w x others word is there s = by_hands x.local.hands x.chains refl hands
  where
    v : SlabWord
    v = slab_in word

    ok : IsAtWork w x
    ok = All-head (IsAtWork w) x others s.fresh.workers

    packed : IsSlabWord v
    packed = fits w (x ∷ others) (hand_of x.local).frame word s there

    hands : AreHands (Popped ∷ ready_of (length x.local.hands - 1)) x.local.hands x.chains
    hands = rw is at ok.spot.hands

    by_hands : (hs : List Hand) (xss : List (List ℕ)) → x.local.hands ≡ hs → AreHands (Popped ∷ ready_of (length hs - 1)) hs xss → ComesTo w others (record x.local { slab_word = v; spot = way_of_popped x.local.hands })
    by_hands [] xss e a = absurd a
    by_hands (h ∷ []) xss e a =
        (with_slab x v (InAlloc FreezePopped), rw e refl, local_step w x _ others s (λ f i. refl) (record { home = λ f. refl; marked = λ f. rw is refl; covered = λ g. refl; takes = λ k. rw is refl }) (freeze-work w x v h is e packed ok))
    by_hands (h ∷ k ∷ hs) xss e a =
        let r = two-hands Popped Ready (h ∷ k ∷ hs) xss (rw (ready-more (length (h ∷ k ∷ hs) - 1) (omega arith)) at a) in
        let two = e ∙ r.4 in
        (with_slab x v (InAlloc Unlist), rw two refl, local_step w x _ others s (λ f i. refl) (record { home = λ f. refl; marked = λ f. rw is refl; covered = λ g. refl; takes = λ k. rw is refl }) (unlist-work w x v r.0 r.1 is two packed ok))

-- ---- a slab that is put away

unfreeze-work : (w : World) (x : Worker) (v : SlabWord) (away : Away) → x.local.spot ≡ InPutAway LoadAway away → IsSlabWord v → (hand_of x.local).head ≡ 0 → length (chain_of x) ≤ v.inuse
    → AreHands (Leaving ∷ beside_away away) x.local.hands x.chains → AreHeld w x.local.cache (Leaving ∷ beside_away away) x.local.hands x.chains (cond (not ((hand_of x.local).head == 0)) v.head 0)
    → IsAtWork w x → IsAtWork w (with_slab x v (InPutAway Unfreeze away))
unfreeze-work w x v away is fits none used hands held ok = grind arith

link-work : (w : World) (x : Worker) (v : SlabWord) (away : Away) → x.local.spot ≡ InPutAway LoadAway away → IsSlabWord v → 1 ≤ (hand_of x.local).head → length (chain_of x) ≤ v.inuse
    → IsAtWork w x → IsAtWork w (with_slab x v (InPutAway LinkLast away))
link-work w x v away is fits some used ok = grind arith

no-chain : (next : ℕ → ℕ) (head : ℕ) (xs : List ℕ) (to : ℕ) → head ≡ 0 → Leads next head xs to → Leads next head xs 0
no-chain next head [] to none c = none
no-chain next head (x ∷ xs) to none c = absurd (let e = c.0 in omega arith)

pub at_LoadAway : (w : World) (x : Worker) (others : List Worker) (away : Away) (word : ℕ) → x.local.spot ≡ InPutAway LoadAway away → w.slab (hand_of x.local).frame ≡ slab_in word → Stands w (x ∷ others)
    → ComesTo w others (put_away_advance w.setup w.value x.local LoadAway away (Word word)).local
at_LoadAway w x others away word is there s =
    let ok = All-head (IsAtWork w) x others s.fresh.workers in
    let r = first-hand Untied (beside_away away) x.local.hands x.chains (rw is at ok.spot.hands) in
    (with_slab x (slab_in word) (way_of_end (hand_of x.local) away), refl, by_hand r.0 r.1 r.2 r.3 r.4 r.5 ok)
  where
    v : SlabWord
    v = slab_in word

    packed : IsSlabWord v
    packed = fits w (x ∷ others) (hand_of x.local).frame word s there

    by_hand : (h : Hand) (hs : List Hand) (xs : List ℕ) (xss : List (List ℕ)) → x.local.hands ≡ h ∷ hs → x.chains ≡ xs ∷ xss → IsAtWork w x → Stands w (with_slab x v (way_of_end (hand_of x.local) away) ∷ others)
    by_hand h hs xs xss first chain ok =
        let hands : AreHands (Untied ∷ beside_away away) (h ∷ hs) (xs ∷ xss) = rw (is, first, chain) at ok.spot.hands in
        let held : AreHeld w x.local.cache (Untied ∷ beside_away away) (h ∷ hs) (xs ∷ xss) 0 = rw (is, first, chain) at ok.seen.hands in
        let hand : hand_of x.local ≡ h = rw first refl in
        let real : h.frame ≢ 0 = λ e. absurd (let a = hands.0 in omega arith) in
        let here : w.slab h.frame ≡ v = rw first at there in
        let used : length (chain_of x) ≤ v.inuse = let c = chain_in_use w x others h hs xs xss s first chain real in rw chain (subst (λ (u : SlabWord). length xs ≤ u.inuse) here c) in
        let now : AreHands (Leaving ∷ beside_away away) x.local.hands x.chains = rw (first, chain) hands in
        cond_both ((hand_of x.local).head == 0) (InPutAway Unfreeze away) (InPutAway LinkLast away) (λ spot. Stands w (with_slab x v spot ∷ others))
        (λ e.
        let none = eqb-true (hand_of x.local).head 0 e in
        let none' : h.head ≡ 0 = rw first at none in
        let led = no-chain (pointer w x.local.cache h.frame) h.head xs held.0.0 none' held.0.1 in
        let held' : AreHeld w x.local.cache (Leaving ∷ beside_away away) x.local.hands x.chains (cond (not ((hand_of x.local).head == 0)) v.head 0) = rw e (rw (first, chain) (led, held.1, held.2, held.3)) in
        local_step w x _ others s (λ f i. refl) (record { home = λ f. refl; marked = λ f. rw is refl; covered = λ g. refl; takes = λ k. rw is refl }) (unfreeze-work w x v away is packed none used now held' ok))
        (λ e. local_step w x _ others s (λ f i. refl) (record { home = λ f. refl; marked = λ f. rw is refl; covered = λ g. refl; takes = λ k. rw is refl }) (link-work w x v away is packed (let d = eqb-false (hand_of x.local).head 0 e in omega (arith, d)) used ok))

-- ---- a set that is moved

unmake-work : (w : World) (x : Worker) (v : SlabWord) (move : MoveSet) → x.local.spot ≡ InMoveSet LoadMoved move → IsSlabWord v
    → AreHands (Loose ∷ beside_move move) x.local.hands x.chains → AreHeld w x.local.cache (Loose ∷ beside_move move) x.local.hands x.chains 0
    → IsEmptied (w.slab (hand_of x.local).frame) (record x.local { slab_word = v; spot = InDiscard Unmake (FromMove move) })
    → IsAtWork w x → IsAtWork w (with_slab x v (InDiscard Unmake (FromMove move)))
unmake-work w x v move is fits hands held empty ok = grind arith

list-work : (w : World) (x : Worker) (v : SlabWord) (move : MoveSet) → x.local.spot ≡ InMoveSet LoadMoved move → IsSlabWord v → (v.frozen ≡ false) × (v.listed ≡ false) × (1 ≤ v.head)
    → IsAtWork w x → IsAtWork w (with_slab x v (InMoveSet ListSlab move))
list-work w x v move is fits kept ok = grind arith

pub at_LoadMoved : (w : World) (x : Worker) (others : List Worker) (move : MoveSet) (word : ℕ) → x.local.spot ≡ InMoveSet LoadMoved move → w.slab (hand_of x.local).frame ≡ slab_in word → Stands w (x ∷ others)
    → ComesTo w others (move_set_advance w.setup w.value x.local LoadMoved move (Word word)).local
at_LoadMoved w x others move word is there s =
    let ok = All-head (IsAtWork w) x others s.fresh.workers in
    let r = first-hand Kept (beside_move move) x.local.hands x.chains (rw is at ok.spot.hands) in
    (with_slab x (slab_in word) (way_of_moved w.setup w.value x.local move (slab_in word)), refl, by_hand r.0 r.1 r.2 r.3 r.4 r.5 ok)
  where
    v : SlabWord
    v = slab_in word

    packed : IsSlabWord v
    packed = fits w (x ∷ others) (hand_of x.local).frame word s there

    by_hand : (h : Hand) (hs : List Hand) (xs : List ℕ) (xss : List (List ℕ)) → x.local.hands ≡ h ∷ hs → x.chains ≡ xs ∷ xss → IsAtWork w x → Stands w (with_slab x v (way_of_moved w.setup w.value x.local move v) ∷ others)
    by_hand h hs xs xss first chain ok =
        let hands : AreHands (Kept ∷ beside_move move) (h ∷ hs) (xs ∷ xss) = rw (is, first, chain) at ok.spot.hands in
        let held : AreHeld w x.local.cache (Kept ∷ beside_move move) (h ∷ hs) (xs ∷ xss) 0 = rw (is, first, chain) at ok.seen.hands in
        let real : h.frame ≢ 0 = λ e. absurd (let a = hands.0 in omega arith) in
        let here : w.slab h.frame ≡ v = rw first at there in
        let live = hand-live w x others h hs s first real in
        cond_both ((v.inuse == 0) && has_enough w.setup w.value x.local) (InDiscard Unmake (FromMove move)) (InMoveSet ListSlab move) (λ spot. Stands w (with_slab x v spot ∷ others))
        (λ e.
        let none = eqb-true v.inuse 0 (and_parts (v.inuse == 0) (has_enough w.setup w.value x.local) e).0 in
        let empty : IsEmptied (w.slab (hand_of x.local).frame) (record x.local { slab_word = v; spot = InDiscard Unmake (FromMove move) }) = rw first (record {
          none = ap (λ (u : SlabWord). u.inuse) here ∙ none;
          objects = ap (λ (u : SlabWord). u.objects) here;
          some = live;
          cache = held.1;
        }) in
        local_step w x _ others s (λ f i. refl) (record { home = λ f. refl; marked = λ f. rw is refl; covered = λ g. refl; takes = λ k. rw is refl })
        (unmake-work w x v move is packed (rw (first, chain) hands) (rw (first, chain) (held.0, held.1, (held.2.0, held.2.2), held.3)) empty ok))
        (λ e. local_step w x _ others s (λ f i. refl) (record { home = λ f. refl; marked = λ f. rw is refl; covered = λ g. refl; takes = λ k. rw is refl })
        (list-work w x v move is packed (subst (λ (u : SlabWord). (u.frozen ≡ false) × (u.listed ≡ false) × (1 ≤ u.head)) here held.2) ok))

-- ---- the scan of a trim

drop-work : (w : World) (x : Worker) (v : SlabWord) → x.local.spot ≡ InTrim LoadScanned → IsSlabWord v → IsEmptied (w.slab (scanned_slab w.value x.local)) (record x.local { slab_word = v; spot = InTrim DropScanned })
    → 1 ≤ times (scanned_slab w.value x.local) (node_of w.value x.local) → IsAtWork w x → IsAtWork w (with_slab x v (InTrim DropScanned))
drop-work w x v is fits empty on ok = grind arith

scan-work : (w : World) (x : Worker) (v : SlabWord) (free : List ℕ) → x.local.spot ≡ InTrim LoadScanned → IsSlabWord v → length free ≤ length (node_of w.value x.local)
    → IsAtWork w x → IsAtWork w (record x { local = record x.local { slab_word = v; scanned = free; spot = InTrim ScanNode } })
scan-work w x v free is fits room ok = grind arith

pub at_LoadScanned : (w : World) (x : Worker) (others : List Worker) (word : ℕ) → x.local.spot ≡ InTrim LoadScanned → w.slab (scanned_slab w.value x.local) ≡ slab_in word → Stands w (x ∷ others)
    → ComesTo w others (trim_advance x.local LoadScanned (Word word)).local
at_LoadScanned w x others word is there s = elim (cases_Bool (v.inuse == 0)) [
  | inl e ↦ (
    with_slab x v (InTrim DropScanned),
    rw e refl,
    local_step w x _ others s (λ f i. refl) (record { home = λ f. refl; marked = λ f. rw is refl; covered = λ g. refl; takes = λ k. rw is refl })
        (drop-work w x v is packed (record {
          none = ap (λ (u : SlabWord). u.inuse) there ∙ eqb-true v.inuse 0 e;
          objects = ap (λ (u : SlabWord). u.objects) there;
          some = live;
          cache = (s.listed.shaped.node x.local.cache f below on).owner;
        }) on ok),
  )
  | inr e ↦ (
    record x { local = record x.local { slab_word = v; scanned = x.local.scanned ++ (v.objects - v.inuse) ∷ []; spot = InTrim ScanNode } },
    rw e refl,
    local_step w x _ others s (λ f i. refl) (record { home = λ f. refl; marked = λ f. rw is refl; covered = λ g. refl; takes = λ k. rw is refl })
        (scan-work w x v _ is packed (let n = next in let a = length-append x.local.scanned ((v.objects - v.inuse) ∷ []) in omega arith) ok),
  )
]
  where
    v : SlabWord
    v = slab_in word

    f : ℕ
    f = scanned_slab w.value x.local

    ok : IsAtWork w x
    ok = All-head (IsAtWork w) x others s.fresh.workers

    packed : IsSlabWord v
    packed = fits w (x ∷ others) f word s there

    next : length x.local.scanned < length (node_of w.value x.local)
    next = ok.seen.scan_next (rw is refl)

    on : 1 ≤ times f (node_of w.value x.local)
    on = times-at f (node_of w.value x.local) (length x.local.scanned) next refl

    below : node_lock x.local.cache < w.setup.locks
    below = let c = (ok.spot.plain (rw is refl)).0 in let n = s.fresh.setup.locks in omega arith

    live : 1 ≤ (w.slab f).objects
    live =
        let a = on-node w s.chains (node_lock x.local.cache) f below on in
        let c = homes-cons w s.chains x others f in
        home-live w s.chains (x ∷ others) f s.listed (λ e. absurd (let z = s.listed.shaped.no_lists in let t : 1 ≤ times 0 (node_of w.value x.local) = subst (λ g. 1 ≤ times g (node_of w.value x.local)) e on in let b = on-node w s.chains (node_lock x.local.cache) 0 below t in omega arith)) (omega arith)
