-- What the spots ask at which a set of slabs is moved to the node list.
use Rattle.std.proofs.Common.{◌≡◌, ◌≤◌, List, [], ◌∷◌, ◌++◌, length, refl, subst, arith}
use Rattle.std.proofs.lemmas.List.{length-append}
use Rattle.std.proofs.lemmas.List.Elements.{All-head}
use Rattle.slub_core.specs.declared.spot.Spot.{Spot}
use Rattle.slub_core.specs.declared.spot.Spot.TheVariants.{InMoveSet}
use Rattle.slub_core.specs.declared.spot.MoveSet.{MoveSet}
use Rattle.slub_core.specs.declared.spot.MoveSet.TheVariants.{ForFree, ForOffline}
use Rattle.slub_core.specs.declared.spot.MoveSetSpot.{MoveSetSpot}
use Rattle.slub_core.specs.declared.spot.MoveSetSpot.TheVariants.{ChooseFront, FollowSet, PutTail}
use Rattle.slub_core.specs.World.{World}
use Rattle.slub_core.specs.Local.{Worker, hand_of}
use Rattle.slub_core.specs.Spots.{roles, beside_move}
use Rattle.slub_core.specs.Fresh.{AreHands, IsAtWork}
use Rattle.slub_core.specs.Setup.{node_lock}
use Rattle.slub_core.specs.World as value
use Rattle.slub_core.specs.Alloc.{node_of}
use Rattle.slub_core.specs.MoveSet.{move_set_at_once}
use Rattle.slub_core.specs.Coherent.{Stands}
use Rattle.slub_core.proofs.NodePuts.{at_PutTail}
use Rattle.slub_core.proofs.Update.{update_same}
use Rattle.slub_core.specs.declared.guarded.Guarded.{Guarded}
use Rattle.slub_free_paths.specs.Fits.{MoveSetFits, PutsTail}
use Rattle.slub_turns.specs.Fits.{StepFits, AtOnceFits, AreValues}
use Rattle.slub_turns.proofs.Values.{node-room}
use Rattle.slub_turns.proofs.OnNode.{hands-length}

-- only the slab that was freed into is kept beside
beside-few : (move : MoveSet) → length (beside_move move) ≤ 1
beside-few ForFree = omega arith
beside-few (ForOffline sweep) = omega arith

move-fits : (w : World) (x : Worker) (others : List Worker) (spot : MoveSetSpot) (move : MoveSet) → x.local.spot ≡ InMoveSet spot move → Stands w (x ∷ others) → MoveSetFits x.local spot
move-fits w x others ChooseFront move is s =
    let ok = All-head (IsAtWork w) x others s.fresh.workers in
    let n = length x.local.hands in
    let e = hands-length (beside_move move) x.local.hands x.chains (subst (λ (p : Spot). AreHands (roles p n) x.local.hands x.chains) is ok.spot.hands) in
    let few = beside-few move in
    omega arith
move-fits w x others FollowSet move is s =
    let ok = All-head (IsAtWork w) x others s.fresh.workers in
    let n = length x.local.hands in
    let e = hands-length (beside_move move) x.local.hands x.chains (subst (λ (p : Spot). AreHands (roles p n) x.local.hands x.chains) is ok.spot.hands) in
    let few = beside-few move in
    omega arith
move-fits w x others _ move is s = tt

pub move_step : (w : World) (x : Worker) (others : List Worker) (spot : MoveSetSpot) (move : MoveSet) → x.local.spot ≡ InMoveSet spot move → Stands w (x ∷ others) → StepFits w.setup.step x.local (InMoveSet spot move)
move_step w x others spot move is s = move-fits w x others spot move is s

-- the node list has room for the slab
puts-tail : (w : World) (x : Worker) (others : List Worker) (guarded : List Guarded) (spot : MoveSetSpot) (move : MoveSet) → x.local.spot ≡ InMoveSet spot move → Stands w (x ∷ others) → AreValues w.setup w.value guarded → PutsTail guarded x.local spot
puts-tail w x others guarded PutTail move is s values =
    let ok = All-head (IsAtWork w) x others s.fresh.workers in
    let l = x.local in
    let frames = node_of w.value l ++ (hand_of l).frame ∷ [] in
    node-room w (x ∷ others) others guarded l.cache (move_set_at_once w.value l PutTail move) frames s values (ok.spot.plain (rw is refl))
    (update_same w.value (node_lock l.cache) (value.Node frames)) (length-append (node_of w.value l) ((hand_of l).frame ∷ [])) (at_PutTail w x others move is s)
puts-tail w x others guarded _ move is s values = tt

pub move_once : (w : World) (x : Worker) (others : List Worker) (guarded : List Guarded) (spot : MoveSetSpot) (move : MoveSet) → x.local.spot ≡ InMoveSet spot move → Stands w (x ∷ others) → AreValues w.setup w.value guarded → AtOnceFits guarded x.local (InMoveSet spot move)
move_once w x others guarded spot move is s values = (move-fits w x others spot move is s, puts-tail w x others guarded spot move is s values)
