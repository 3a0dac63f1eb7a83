-- Slabs of a node list, and how many slabs are in hand.
use Rattle.std.proofs.Common.{◌≡◌, ◌≢◌, ℕ, suc, ◌<◌, ◌≤◌, true, List, [], ◌∷◌, length, refl, ap, arith}
use Rattle.std.proofs.lemmas.List.Elements.{All-head}
use Rattle.slub_common.specs.Times.{times}
use Rattle.slub_core.specs.declared.local.Hand.{Hand}
use Rattle.slub_core.specs.Setup.{node_lock}
use Rattle.slub_core.specs.World.{World, frames_in}
use Rattle.slub_core.specs.Local.{Worker}
use Rattle.slub_core.specs.Alloc.{node_of}
use Rattle.slub_core.specs.Spots.{Role, in_plain}
use Rattle.slub_core.specs.Fresh.{AreHands, IsAtWork}
use Rattle.slub_core.specs.Coherent.{Stands}
use Rattle.slub_core.proofs.Counts.{homes-cons}
use Rattle.slub_core.proofs.Homes.{live-most}
use Rattle.slub_core.proofs.Update.{term_le_sum}

-- each slab in hand has one role
pub hands-length : (rs : List Role) (hs : List Hand) (xss : List (List ℕ)) → AreHands rs hs xss → length hs ≡ length rs
hands-length [] [] [] ok = refl
hands-length (r ∷ rs) (h ∷ hs) (xs ∷ xss) ok = ap suc (hands-length rs hs xss ok.5)
hands-length _ _ _ ok = absurd ok

-- a slab stands on a node list once at most
pub node-once : (w : World) (x : Worker) (others : List Worker) (f : ℕ) → Stands w (x ∷ others) → in_plain x.local.spot ≡ true → 1 ≤ times f (node_of w.value x.local) → times f (node_of w.value x.local) ≡ 1
node-once w x others f s plain some =
    let ok = All-head (IsAtWork w) x others s.fresh.workers in
    let cache = (ok.spot.plain plain).0 in
    let count = s.fresh.setup.locks in
    let below : node_lock x.local.cache < w.setup.locks = omega arith in
    let t = term_le_sum w.setup.locks (λ k. times f (frames_in (w.value k))) (node_lock x.local.cache) below in
    let d : f ≢ 0 = λ e. absurd (let a = s.listed.shaped.no_lists in let z : 1 ≤ times 0 (node_of w.value x.local) = rw e at some in let u = term_le_sum w.setup.locks (λ k. times 0 (frames_in (w.value k))) (node_lock x.local.cache) below in omega arith) in
    let split = homes-cons w s.chains x others f in
    let once = s.listed.once f d in
    let one = live-most (w.slab f) in
    omega arith
