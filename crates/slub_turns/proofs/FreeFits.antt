-- What the spots of a free ask.
use Rattle.std.proofs.Common.{◌≡◌, ℕ, ◌<◌, ◌≤◌, true, List, ◌∷◌, length, refl, sym, ◌∙◌, subst, arith}
use Rattle.std.proofs.lemmas.List.Elements.{All-head}
use Rattle.slub_common.specs.Times.{times}
use Rattle.slub_core.specs.declared.spot.Spot.{Spot}
use Rattle.slub_core.specs.declared.spot.Spot.TheVariants.{InFree}
use Rattle.slub_core.specs.declared.spot.FreeSpot.{FreeSpot}
use Rattle.slub_core.specs.declared.spot.FreeSpot.TheVariants.{Push, FreeSlab, FreeLocked, TakeOff, LoadCount, TakeSet}
use Rattle.slub_core.specs.World.{World, LockValue}
use Rattle.slub_core.specs.Local.{Worker, nobody, here}
use Rattle.slub_core.specs.Alloc.{node_of}
use Rattle.slub_core.specs.Spots.{roles, frees}
use Rattle.slub_core.specs.Fresh.{AreHands, IsAtWork}
use Rattle.slub_core.specs.Coherent.{Stands}
use Rattle.slub_core.proofs.Counts.{places-cons}
use Rattle.slub_core.proofs.Exists.{plain-object, object-small}
use Rattle.slub_core.proofs.Spots.{frees-plain}
use Rattle.slub_core.proofs.ValueStep.{known-owned}
use Rattle.slub_core.specs.declared.guarded.Guarded.{Guarded}
use Rattle.slub_free_paths.specs.Fits.{FreeFits, TakesOff}
use Rattle.slub_turns.specs.Fits.{StepFits, AtOnceFits, AreValues}
use Rattle.slub_turns.proofs.OnNode.{hands-length, node-once}

-- ---- in hand

free-roles : (spot : FreeSpot) (n : ℕ) → length (roles (InFree spot) n) ≤ 1
free-roles LoadCount n = omega arith
free-roles TakeSet n = omega arith
free-roles _ n = omega arith

-- a slab more has room in hand
free-hands : (w : World) (x : Worker) (others : List Worker) (spot : FreeSpot) → x.local.spot ≡ InFree spot → Stands w (x ∷ others) → length x.local.hands < 2
free-hands w x others spot is s =
    let ok = All-head (IsAtWork w) x others s.fresh.workers in
    let n = length x.local.hands in
    let held = subst (λ (p : Spot). AreHands (roles p n) x.local.hands x.chains) is ok.spot.hands in
    let e = hands-length (roles (InFree spot) n) x.local.hands x.chains held in
    let few = free-roles spot n in
    omega arith

-- ---- the object that is freed

-- its index leaves room for one more
index-small : (w : World) (x : Worker) (others : List Worker) → frees x.local.spot ≡ true → Stands w (x ∷ others) → (here x.local).index < 65535
index-small w x others free s =
    let ok = All-head (IsAtWork w) x others s.fresh.workers in
    let held = ok.spot.frees free in
    let plain = ok.spot.plain (frees-plain x.local.spot free) in
    let f = (here x.local).frame in
    let i = (here x.local).index in
    let has = known-owned x x.local.place nobody held.0 held.1 in
    let p = places-cons w s.chains x others f i in
    let o = s.placed.once f i in
    let object = plain-object w s.chains x.local.cache f i s.listed.shaped plain.2 (sym held.2 ∙ ok.seen.known x.local.place nobody held.0 held.1) (omega arith) in
    let small = object-small w (x ∷ others) f i s (omega (arith, object.exists)) in
    omega arith

free-fits : (w : World) (x : Worker) (others : List Worker) (spot : FreeSpot) → x.local.spot ≡ InFree spot → Stands w (x ∷ others) → FreeFits w.setup.step x.local spot
free-fits w x others Push is s =
    let ok = All-head (IsAtWork w) x others s.fresh.workers in
    (ok.spot.noted.step (rw is refl), index-small w x others (rw is refl) s)
free-fits w x others FreeSlab is s = index-small w x others (rw is refl) s
free-fits w x others FreeLocked is s = index-small w x others (rw is refl) s
free-fits w x others _ is s = tt

pub free_step : (w : World) (x : Worker) (others : List Worker) (spot : FreeSpot) → x.local.spot ≡ InFree spot → Stands w (x ∷ others) → StepFits w.setup.step x.local (InFree spot)
free_step w x others spot is s = (free-fits w x others spot is s, free-hands w x others spot is s)

-- ---- at once

-- the slab of the freed object stands on the node list once
takes-off : (w : World) (x : Worker) (others : List Worker) (guarded : List Guarded) (spot : FreeSpot) → x.local.spot ≡ InFree spot → Stands w (x ∷ others) → AreValues w.setup w.value guarded → TakesOff guarded x.local spot
takes-off w x others guarded TakeOff is s values =
    let ok = All-head (IsAtWork w) x others s.fresh.workers in
    let last = ok.seen.freed_last (rw is refl) in
    let once = node-once w x others (here x.local).frame s (rw is refl) last.1 in
    subst (λ (v : ℕ → LockValue). times (here x.local).frame (node_of v x.local) ≡ 1) (sym values.values) once
takes-off w x others guarded _ is s values = tt

pub free_once : (w : World) (x : Worker) (others : List Worker) (guarded : List Guarded) (spot : FreeSpot) → x.local.spot ≡ InFree spot → Stands w (x ∷ others) → AreValues w.setup w.value guarded → AtOnceFits guarded x.local (InFree spot)
free_once w x others guarded spot is s values = (free-hands w x others spot is s, takes-off w x others guarded spot is s values)
