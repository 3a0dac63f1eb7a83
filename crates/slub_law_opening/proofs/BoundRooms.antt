-- What bounded counts leave room for.
use Rattle.std.proofs.Common.{◌≡◌, ℕ, ◌+◌, ◌<◌, ◌≤◌, Some, false, ◌++◌, length, get_or, refl, sym, subst, arith}
use Rattle.slub_core.specs.declared.call.CallKind.TheVariants.{Flush}
use Rattle.slub_core.specs.declared.spot.Spot.{Spot}
use Rattle.slub_core.specs.declared.spot.Spot.TheVariants.{InPutAway, InDiscard, InMoveSet, InOffline, InTrim}
use Rattle.slub_core.specs.declared.spot.Away.TheVariants.{ForInstall, ForSpent, ForSweep}
use Rattle.slub_core.specs.declared.spot.Discard.{Discard}
use Rattle.slub_core.specs.declared.spot.Discard.TheVariants.{FromAway, FromFree, FromMove, FromTrim}
use Rattle.slub_core.specs.declared.spot.MoveSet.TheVariants.{ForFree, ForOffline}
use Rattle.slub_core.specs.declared.spot.Sweep.{Sweep}
use Rattle.slub_core.specs.declared.spot.Sweep.TheVariants.{Trimming, Flushing}
use Rattle.slub_core.specs.Setup.{Setup}
use Rattle.slub_core.specs.World.{LockValue, world_from, world_of}
use Rattle.slub_core.specs.Local.{Local, string_of}
use Rattle.slub_core.specs.Alloc.{node_of}
use Rattle.slub_core.specs.Spots.{doing, of_sweep, of_discard}
use Rattle.slub_core.specs.Run.{idle}
use Rattle.slub_law_opening.specs.Bounded.{come_to, come_with, come_by, left_to_tell, MayCount, IsWithin}
use Rattle.slub_law_opening.specs.BoundLaws.{BoundedCountsFit}
use Rattle.slub_law_opening.proofs.Steps.{KnowsFew}
use Rattle.slub_law_opening.proofs.Carried.{knows-few, begun-within}
use Rattle.slub_law_opening.proofs.Turns.{has-begun}

-- a sweep comes to no more than 32 caches, or 16 CPUs and the node list
sweep-most : (sweep : Sweep) (cpu turn : ℕ) → cpu < 16 → (of_sweep sweep ≡ Some Flush → turn < 32) → come_to cpu turn sweep + 1 ≤ 33
sweep-most Trimming cpu turn few flush = omega arith
sweep-most Flushing cpu turn few flush = let t = flush refl in omega arith

with-most : (discard : Discard) (cpu turn : ℕ) → cpu < 16 → (of_discard discard ≡ Some Flush → turn < 32) → come_with cpu turn discard ≤ 33
with-most (FromAway ForInstall) cpu turn few flush = omega arith
with-most (FromAway ForSpent) cpu turn few flush = omega arith
with-most (FromAway (ForSweep sweep)) cpu turn few flush = sweep-most sweep cpu turn few flush
with-most FromFree cpu turn few flush = omega arith
with-most (FromMove ForFree) cpu turn few flush = omega arith
with-most (FromMove (ForOffline sweep)) cpu turn few flush = sweep-most sweep cpu turn few flush
with-most FromTrim cpu turn few flush = omega arith

come-most : (s : Spot) (cpu turn : ℕ) → cpu < 16 → (doing s ≡ Some Flush → turn < 32) → come_by cpu turn s ≤ 33
come-most (InOffline s sweep) cpu turn few flush = sweep-most sweep cpu turn few flush
come-most (InPutAway s away) cpu turn few flush = with-most (FromAway away) cpu turn few flush
come-most (InDiscard s discard) cpu turn few flush = with-most discard cpu turn few flush
come-most (InMoveSet s move) cpu turn few flush = with-most (FromMove move) cpu turn few flush
come-most (InTrim s) cpu turn few flush = omega arith
come-most s cpu turn few flush = omega arith

-- what a worker counts leaves room, wherever it stands
pub may-count : (m : Setup) (value : ℕ → LockValue) (l : Local) → KnowsFew value l l.spot → IsWithin m value l → MayCount l
may-count m value l knows ok =
    let put = ok.few.put in
    let count = ok.few.count in
    let most = come-most l.spot l.cpu l.turn knows.cpu knows.turn in
    let left : ℕ = left_to_tell (string_of l).count (length (node_of value l)) l.spot in
    record { put = omega arith; count = omega arith }

pub counts-fit : BoundedCountsFit
unfolding world_of world_from
counts-fit m flags opening s k tries is ok below =
    let b = has-begun m opening s (record { worker = k; refused = false; tries = tries }) below is in
    let w = world_of m s.value s.words in
    let knows = knows-few w b.x (b.front ++ b.back) ok.plain b.stands in
    subst MayCount b.local (may-count m s.value b.x.local knows (subst (IsWithin m s.value) (sym b.local) (begun-within m tries s.value (get_or s.locals k idle) (ok.workers k idle below))))
