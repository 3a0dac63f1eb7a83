-- What is done at once up to a spot that calls for a step keeps all, the account too.
use Rattle.std.proofs.Common.{Bool, Option, List, refl, subst}
use Rattle.slub_trace.specs.declared.reply.Reply.{Reply}
use Rattle.slub_core.specs.World.{World}
use Rattle.slub_core.specs.Local.{Local, Worker, noted}
use Rattle.slub_core.specs.Steps.{at_once, settled}
use Rattle.slub_core.proofs.Locks.{ComesTo}
use Rattle.slub_core.proofs.Accounts.{Comes}
use Rattle.slub_core.proofs.Onces.{makes}
use Rattle.slub_core.proofs.Tells.{change-quits}
use Rattle.slub_core.proofs.Noted.{noted-comes}
use Rattle.slub_core.proofs.OncesTold.{tells_once}

-- all stands after what is done at once
stands_once : (w : World) (refused : Bool) (others : List Worker) (l : Local) → ComesTo w others l → let c = at_once w.setup refused w.value l l.spot in ComesTo (record w { value = c.value }) others (noted c.local c.reply)
stands_once w refused others l (z, e, s) =
    subst (λ l. let c = at_once w.setup refused w.value l l.spot in ComesTo (record w { value = c.value }) others (noted c.local c.reply)) e
    (let c = at_once w.setup refused w.value z.local z.local.spot in
    noted-comes (record w { value = c.value }) others c.local c.reply (change-quits w.setup refused w.value z.local z.local.spot) (makes w refused z others z.local.spot refl s))

-- and the account agrees
pub comes_once : (opening w : World) (refused : Bool) (others : List Worker) (l : Local) → Comes opening w others l → let c = at_once w.setup refused w.value l l.spot in Comes opening (record w { value = c.value }) others (noted c.local c.reply)
comes_once opening w refused others l (stands, accounts) = (stands_once w refused others l stands, tells_once opening w refused others l stands accounts)

-- up to a spot that calls for a step
pub comes_settled : (opening w : World) (refused : Bool) (others : List Worker) (l : Local) (reply : Option Reply) → Comes opening w others (noted l reply)
    → let c = settled w.setup refused (record { value = w.value; local = l; reply = reply }) in Comes opening (record w { value = c.value }) others (noted c.local c.reply)
comes_settled opening w refused others l reply comes =
    let n = noted l reply in
    let c = at_once w.setup refused w.value n n.spot in
    comes_once opening (record w { value = c.value }) refused others (noted c.local c.reply) (comes_once opening w refused others n comes)
