-- Free pointers that are stored, spot by spot: no word that a worker wrote changes by it.
use Rattle.std.proofs.Common.{◌≡◌, ℕ, ◌-◌, ◌<◌, ◌≤◌, true, false, Option, Some, None, List, ◌∷◌, refl, sym, ap, subst, arith}
use Rattle.std.specs.Prelude.{IsSome}
use Rattle.std.proofs.lemmas.Bool.{false≢true}
use Rattle.std.proofs.lemmas.List.Elements.{All-head}
use Rattle.slub_common.specs.Times.{times}
use Rattle.slub_core.specs.declared.local.FrameRun.{FrameRun}
use Rattle.slub_core.specs.declared.local.Hand.{Hand}
use Rattle.slub_core.specs.declared.spot.Spot.{Spot}
use Rattle.slub_core.specs.declared.spot.Spot.TheVariants.{InAlloc, InPutAway}
use Rattle.slub_core.specs.declared.spot.AllocSpot.TheVariants.{LinkNew}
use Rattle.slub_core.specs.declared.spot.Away.{Away}
use Rattle.slub_core.specs.declared.spot.PutAwaySpot.TheVariants.{LinkLast}
use Rattle.slub_core.specs.declared.step.Answer.TheVariants.{Done}
use Rattle.slub_core.specs.Setup.{pointer_at}
use Rattle.slub_core.specs.World.{World, LockValue, exists_at, set_memory}
use Rattle.slub_core.specs.Local.{Worker, here, hand_of, run_of, run_in}
use Rattle.slub_core.specs.Steps.{advance_at, told}
use Rattle.slub_core.specs.Spots.{Untied, beside_away, frees, in_plain, takes_board}
use Rattle.slub_core.specs.Placed.{in_hands}
use Rattle.slub_core.specs.Fresh.{AreHands, AreHeld}
use Rattle.slub_core.specs.Coherent.{Stands}
use Rattle.slub_core.specs.Accounted.{IsAccounted}
use Rattle.slub_core.proofs.Accounts.{Accounts}
use Rattle.slub_core.proofs.Exists.{in_chain-here, hands-exist}
use Rattle.slub_core.proofs.StepHands.{first-hand}
use Rattle.slub_core.proofs.Leads.{at_work}
use Rattle.slub_core.proofs.Lists.{times-at}
use Rattle.slub_core.proofs.Slots.{IsWordOf, pointer-word}
use Rattle.slub_core.proofs.TaleSteps.{quiet_at}
use Rattle.slub_core.proofs.TaleUses.{told_link, told_chain, told_run}

-- in the object that is freed
pub tale_link : (opening w : World) (value : ℕ → LockValue) (x : Worker) (others : List Worker) (v : ℕ) (spot : Spot) → x.local.spot ≡ spot → frees spot ≡ true → in_plain spot ≡ true → takes_board spot ≡ false → (advance_at w.setup value x.local spot Done).reply ≡ None
    → Stands w (x ∷ others) → IsAccounted opening w (x ∷ others) → Accounts opening (set_memory w (pointer_at w.setup (here x.local).cache (here x.local).frame (here x.local).index) v) others (told (advance_at w.setup value x.local spot Done))
tale_link opening w value x others v spot is busy plain away none s ac = (
  record x { local = told (advance_at w.setup value x.local spot Done) },
  refl,
  rw none (told_link opening w x (record x { local = (advance_at w.setup value x.local spot Done).local }) others v ac s (rw is busy) (rw is plain) (quiet_at w value x spot Done is away none)),
)

-- in the last object of a chain in hand
pub tale_LinkLast : (opening w : World) (value : ℕ → LockValue) (x : Worker) (others : List Worker) (v : ℕ) (away : Away) → x.local.spot ≡ InPutAway LinkLast away → Stands w (x ∷ others) → IsAccounted opening w (x ∷ others)
    → Accounts opening (set_memory w (pointer_at w.setup x.local.cache (hand_of x.local).frame ((hand_of x.local).last - 1)) v) others (told (advance_at w.setup value x.local (InPutAway LinkLast away) Done))
tale_LinkLast opening w value x others v away is s ac =
    let ok = at_work w x others s in
    let r = first-hand Untied (beside_away away) x.local.hands x.chains (rw is at ok.spot.hands) in
    by_hand r.0 r.1 r.2 r.3 r.4 r.5
  where
    by_hand : (h : Hand) (hs : List Hand) (xs : List ℕ) (xss : List (List ℕ)) → x.local.hands ≡ h ∷ hs → x.chains ≡ xs ∷ xss
        → Accounts opening (set_memory w (pointer_at w.setup x.local.cache (hand_of x.local).frame ((hand_of x.local).last - 1)) v) others (told (advance_at w.setup value x.local (InPutAway LinkLast away) Done))
    by_hand h hs xs xss one chain =
        let ok = at_work w x others s in
        let hands : AreHands (Untied ∷ beside_away away) (h ∷ hs) (xs ∷ xss) = rw (is, one, chain) at ok.spot.hands in
        let held : AreHeld w x.local.cache (Untied ∷ beside_away away) (h ∷ hs) (xs ∷ xss) 0 = rw (is, one, chain) at ok.seen.hands in
        let hand : hand_of x.local ≡ h = rw one refl in
        let some : 1 ≤ h.head = (let t : 1 ≤ (hand_of x.local).head = ok.spot.some_chain (rw is refl) in rw hand at t) in
        let walked : h.walked ≡ true = (let t : 1 ≤ (hand_of x.local).head → (hand_of x.local).walked ≡ true = ok.spot.walked (rw is refl) in (rw hand at t) some) in
        let ended = hands.4.ended walked in
        let last = hands.4.last ended.1 in
        let within = hands.4.short in
        let more = ended.1 in
        let j = h.last - 1 in
        let has : 1 ≤ times j xs = times-at j xs (h.length - 1) (omega arith) (omega arith) in
        let c = in_chain-here h.frame xs j in
        let mine : 1 ≤ in_hands h.frame j x.local.hands x.chains = rw (one, chain) (omega arith) in
        let most = All-head (λ (o : Worker). in_hands h.frame j o.local.hands o.chains ≤ exists_at w h.frame j) x others (hands-exist w s.chains (x ∷ others) h.frame j s.placed s.listed) in
        let live = (ok.spot.plain (rw is refl)).1 in
        let word = subst (λ c. IsWordOf (w.setup.layout c) h.frame j (pointer_at w.setup x.local.cache h.frame j)) (sym held.1) (pointer-word w.setup x.local.cache h.frame j s.fresh.setup live) in
        subst (λ (g : Hand). Accounts opening (set_memory w (pointer_at w.setup x.local.cache g.frame (g.last - 1)) v) others (told (advance_at w.setup value x.local (InPutAway LinkLast away) Done))) (sym hand) (
          record x { local = told (advance_at w.setup value x.local (InPutAway LinkLast away) Done) },
          refl,
          told_chain opening w x (record x { local = (advance_at w.setup value x.local (InPutAway LinkLast away) Done).local }) others h.frame j (pointer_at w.setup x.local.cache h.frame j) v ac s mine (omega arith) word
              (quiet_at w value x (InPutAway LinkLast away) Done is refl refl),
        )

-- in an object of a run in hand
pub tale_LinkNew : (opening w : World) (value : ℕ → LockValue) (x : Worker) (others : List Worker) (v i : ℕ) → x.local.spot ≡ InAlloc (LinkNew i) → Stands w (x ∷ others) → IsAccounted opening w (x ∷ others)
    → Accounts opening (set_memory w (pointer_at w.setup x.local.cache (run_of x.local).frame i) v) others (told (advance_at w.setup value x.local (InAlloc (LinkNew i)) Done))
tale_LinkNew opening w value x others v i is s ac = by_run x.local.run refl
  where
    by_run : (r : Option FrameRun) → x.local.run ≡ r → Accounts opening (set_memory w (pointer_at w.setup x.local.cache (run_of x.local).frame i) v) others (told (advance_at w.setup value x.local (InAlloc (LinkNew i)) Done))
    by_run None none = absurd (let some : IsSome x.local.run = (at_work w x others s).spot.run (rw is refl) in false≢true (rw none at some))
    by_run (Some run) some =
        let ok = at_work w x others s in
        let mine : run_of x.local ≡ run = ap run_in some in
        let room : i < run.objects = (let b : i < (run_of x.local).objects = rw is at (ok.spot.unstored (rw is refl)) in rw mine at b) in
        subst (λ (g : FrameRun). Accounts opening (set_memory w (pointer_at w.setup x.local.cache g.frame i) v) others (told (advance_at w.setup value x.local (InAlloc (LinkNew i)) Done))) (sym mine) (
          record x { local = told (advance_at w.setup value x.local (InAlloc (LinkNew i)) Done) },
          refl,
          told_run opening w x (record x { local = (advance_at w.setup value x.local (InAlloc (LinkNew i)) Done).local }) others run i v ac s some room
              (quiet_at w value x (InAlloc (LinkNew i)) Done is refl refl),
        )
