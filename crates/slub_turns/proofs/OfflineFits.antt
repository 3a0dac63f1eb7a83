-- What the spots of a trim and of a flush ask.
use Rattle.std.proofs.Common.{◌≡◌, ℕ, ◌-◌, ◌≤◌, List, [], ◌∷◌, length, refl, sym, subst, arith}
use Rattle.std.proofs.lemmas.List.Elements.{All-head}
use Rattle.slub_core.specs.declared.spot.Spot.{Spot}
use Rattle.slub_core.specs.declared.spot.Spot.TheVariants.{InOffline, InTrim}
use Rattle.slub_core.specs.declared.spot.Sweep.{Sweep}
use Rattle.slub_core.specs.declared.spot.OfflineSpot.{OfflineSpot}
use Rattle.slub_core.specs.declared.spot.OfflineSpot.TheVariants.{LoadCurrent, DetachCurrent, TakeCurrent}
use Rattle.slub_core.specs.declared.spot.TrimSpot.{TrimSpot}
use Rattle.slub_core.specs.declared.spot.TrimSpot.TheVariants.{ScanNode, LoadScanned, DropScanned}
use Rattle.slub_core.specs.Setup.{Setup, IsPlain, node_lock}
use Rattle.slub_core.specs.World.{World, LockValue, Node, frames_in}
use Rattle.slub_core.specs.Local.{Worker}
use Rattle.slub_core.specs.Alloc.{node_of}
use Rattle.slub_core.specs.Offline.{scanned_slab}
use Rattle.slub_core.specs.Spots.{roles}
use Rattle.slub_core.specs.Listed.{IsGuarded}
use Rattle.slub_core.specs.Fresh.{AreHands, IsAtWork}
use Rattle.slub_core.specs.Coherent.{Stands}
use Rattle.slub_core.proofs.UnderLock.{node-is}
use Rattle.slub_offline.specs.Fits.{OfflineFits, OfflineRoom, IsNodeList, MayScan}
use Rattle.slub_core.specs.declared.guarded.Guarded.{Guarded}
use Rattle.slub_turns.specs.Fits.{StepFits, AtOnceFits, AreValues}
use Rattle.slub_turns.proofs.Counts.{CountsFit}
use Rattle.slub_turns.proofs.OnNode.{hands-length, node-once}

-- ---- what a CPU has

offline-fits : (w : World) (x : Worker) (others : List Worker) (spot : OfflineSpot) (sweep : Sweep) → x.local.spot ≡ InOffline spot sweep → Stands w (x ∷ others) → OfflineFits w.setup.step x.local spot
offline-fits w x others DetachCurrent sweep is s = (All-head (IsAtWork w) x others s.fresh.workers).spot.noted.step (rw is refl)
offline-fits w x others _ sweep is s = tt

-- what it is to tell leaves room
offline-room : (w : World) (x : Worker) (others : List Worker) (spot : OfflineSpot) (sweep : Sweep) → x.local.spot ≡ InOffline spot sweep → Stands w (x ∷ others) → CountsFit x.local (InOffline spot sweep) → OfflineRoom x.local spot
offline-room w x others LoadCurrent sweep is s counts = tt
offline-room w x others DetachCurrent sweep is s counts =
    let ok = All-head (IsAtWork w) x others s.fresh.workers in
    let n = length x.local.hands in
    let e = hands-length [] x.local.hands x.chains (subst (λ (p : Spot). AreHands (roles p n) x.local.hands x.chains) is ok.spot.hands) in
    (omega arith, counts)
offline-room w x others TakeCurrent sweep is s counts = counts

pub offline_step : (w : World) (x : Worker) (others : List Worker) (spot : OfflineSpot) (sweep : Sweep) → x.local.spot ≡ InOffline spot sweep → Stands w (x ∷ others) → CountsFit x.local (InOffline spot sweep) → StepFits w.setup.step x.local (InOffline spot sweep)
offline_step w x others spot sweep is s counts = (offline-fits w x others spot sweep is s, offline-room w x others spot sweep is s counts)

-- ---- the scan of a node list

-- a node list holds fewer slabs than the machine has frames
node-short : (m : Setup) (cache : ℕ) (v : LockValue) → IsPlain m cache → IsGuarded m (node_lock cache) v → IsNodeList v × (length (frames_in v) ≤ m.frames - 1)
node-short m cache v plain is = by_value (frames_in v) (node-is m cache v plain is)
  where
    by_value : (frames : List ℕ) → v ≡ Node frames → IsNodeList v × (length (frames_in v) ≤ m.frames - 1)
    by_value frames e =
        let g : IsGuarded m (node_lock cache) (Node frames) = subst (IsGuarded m (node_lock cache)) e is in
        subst (λ (v : LockValue). IsNodeList v × (length (frames_in v) ≤ m.frames - 1)) (sym e) (tt, g.4)

the-list : (w : World) (x : Worker) (others : List Worker) (spot : TrimSpot) → x.local.spot ≡ InTrim spot → Stands w (x ∷ others) → IsNodeList (w.value (node_lock x.local.cache)) × (length (node_of w.value x.local) ≤ w.setup.frames - 1)
the-list w x others spot is s =
    let ok = All-head (IsAtWork w) x others s.fresh.workers in
    let plain = ok.spot.plain (rw is refl) in
    let count = s.fresh.setup.locks in
    let c = plain.0 in
    node-short w.setup x.local.cache (w.value (node_lock x.local.cache)) plain (s.listed.shaped.guarded (node_lock x.local.cache) (omega arith))

pub trim_step : (w : World) (x : Worker) (others : List Worker) (spot : TrimSpot) → x.local.spot ≡ InTrim spot → Stands w (x ∷ others) → StepFits w.setup.step x.local (InTrim spot)
trim_step w x others LoadScanned is s =
    let ok = All-head (IsAtWork w) x others s.fresh.workers in
    let more = ok.seen.scan_next (rw is refl) in
    let short = (the-list w x others LoadScanned is s).1 in
    let frames = s.fresh.setup.frames in
    omega arith
trim_step w x others _ is s = tt

may-scan : (w : World) (x : Worker) (others : List Worker) (spot : TrimSpot) → x.local.spot ≡ InTrim spot → Stands w (x ∷ others) → MayScan w.value x.local spot
may-scan w x others ScanNode is s =
    let ok = All-head (IsAtWork w) x others s.fresh.workers in
    ((the-list w x others ScanNode is s).0, ok.seen.scan (rw is refl))
may-scan w x others DropScanned is s =
    let ok = All-head (IsAtWork w) x others s.fresh.workers in
    let n = length x.local.hands in
    let e = hands-length [] x.local.hands x.chains (subst (λ (p : Spot). AreHands (roles p n) x.local.hands x.chains) is ok.spot.hands) in
    let last = ok.seen.scanned (rw is refl) in
    (ok.seen.scan_next (rw is refl), node-once w x others (scanned_slab w.value x.local) s (rw is refl) last.1, omega arith)
may-scan w x others _ is s = tt

pub trim_once : (w : World) (x : Worker) (others : List Worker) (guarded : List Guarded) (spot : TrimSpot) → x.local.spot ≡ InTrim spot → Stands w (x ∷ others) → AreValues w.setup w.value guarded → AtOnceFits guarded x.local (InTrim spot)
trim_once w x others guarded spot is s values = subst (λ (v : ℕ → LockValue). MayScan v x.local spot) (sym values.values) (may-scan w x others spot is s)
