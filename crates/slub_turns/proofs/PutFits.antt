-- What the spots of putting a string on a CPU's partial list ask: it is short, and what is counted has room.
use Rattle.std.proofs.Common.{◌≡◌, ◌<◌, List, ◌∷◌, refl, arith}
use Rattle.slub_core.specs.declared.spot.Spot.TheVariants.{InPutOnList}
use Rattle.slub_core.specs.declared.spot.PutOnListSpot.{PutOnListSpot}
use Rattle.slub_core.specs.declared.spot.PutOnListSpot.TheVariants.{WalkString, PushString}
use Rattle.slub_core.specs.declared.spot.PutOnList.{PutOnList}
use Rattle.slub_core.specs.World.{World}
use Rattle.slub_core.specs.Local.{Worker, string_of}
use Rattle.slub_core.specs.Coherent.{Stands}
use Rattle.slub_core.proofs.Leads.{at_work}
use Rattle.slub_turns.specs.Fits.{StepFits}
use Rattle.slub_turns.proofs.Counts.{CountsFit}

-- a walk along a string is before its end, which is among the frames
walk-within : (w : World) (x : Worker) (others : List Worker) (put : PutOnList) → x.local.spot ≡ InPutOnList WalkString put → Stands w (x ∷ others) → (string_of x.local).place < 65535
walk-within w x others put is s =
    let ok = at_work w x others s in
    let before = ok.spot.before_end (rw is refl) in
    let list = (ok.spot.noted.list (rw is refl)).1 in
    let frames = s.fresh.setup.frames.1 in
    omega arith

pub put_step : (w : World) (x : Worker) (others : List Worker) (a : PutOnListSpot) (put : PutOnList) → x.local.spot ≡ InPutOnList a put → Stands w (x ∷ others) → CountsFit x.local (InPutOnList a put) → StepFits w.setup.step x.local (InPutOnList a put)
put_step w x others WalkString put is s counts = walk-within w x others put is s
put_step w x others PushString put is s counts = counts
put_step w x others _ put is s counts = tt
