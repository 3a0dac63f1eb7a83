-- The spots of the two fast paths: an allocation's (`slab_alloc_node`) and a free's
-- (`do_slab_free`). Nothing is done at once after a step there.
use Rattle.slub_core.specs.declared.spot.Spot.{Spot}
use Rattle.slub_core.specs.declared.spot.Spot.TheVariants.{InAlloc, InFree}
use Rattle.slub_core.specs.declared.spot.AllocSpot.TheVariants as alloc
use Rattle.slub_core.specs.declared.spot.FreeSpot.TheVariants as free
use Rattle.slub_core.specs.declared.step.Answer.{Answer}
use Rattle.slub_core.specs.Setup.{Setup}
use Rattle.slub_core.specs.World.{LockValue}
use Rattle.slub_core.specs.World as value
use Rattle.slub_core.specs.Local.{Local, Turn}
use Rattle.slub_core.specs.Steps.{advance_at, told, rested}
use Rattle.slub_turns.specs.Fits.{HasCallFor}
use Rattle.slub_turns.specs.declared.quick.Quick.{Quick}
use Rattle.slub_turns.specs.declared.quick.Quick.TheVariants as quick

-- the spot of the step machine
abbrev pub spot_of : Quick → Spot
spot_of quick.LoadCpu = InAlloc alloc.LoadCpu
spot_of quick.LoadNext = InAlloc alloc.LoadNext
spot_of quick.Pop = InAlloc alloc.Pop
spot_of quick.LoadOwn = InFree free.LoadOwn
spot_of quick.LinkOwn = InFree free.LinkOwn
spot_of quick.Push = InFree free.Push

-- where the answer to the step of a spot leads, whatever the locks guard
abbrev pub blind : Setup → Local → Spot → Answer → Turn
blind m l spot answer = advance_at m (λ _. value.Nothing) l spot answer

-- a worker that has a reply by it has a call without one
abbrev pub MayHear : Setup → Local → Spot → Answer → Type 0
MayHear m l spot answer = let turn = blind m l spot answer in HasCallFor turn.local turn.reply

-- where it leads with that reply, and with the replies that take no step
abbrev pub quick_to : Setup → Local → Spot → Answer → Local
quick_to m l spot answer = rested m (told (blind m l spot answer))
