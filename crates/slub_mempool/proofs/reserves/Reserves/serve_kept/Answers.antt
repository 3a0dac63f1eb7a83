use Rattle.std.proofs.Common.{◌≡◌, [], ◌∷◌, refl, subst, All, arith}
use Rattle.std.proofs.lemmas.Result.{IfOk-weaker}
use Rattle.slub_trace.specs.Sound.{asked_objects}
use Rattle.slub_slabinfo_text.specs.Lawful.{IsUnheld}
use Rattle.slub_mempool.proofs.Keeping.{known-of, usable-of}
use Rattle.slub_mempool.proofs.reserves.Reserves.serve_kept.Goals as goal

pub mget-requires-clause-unheld : goal.mget-requires-clause-unheld
mget-requires-clause-unheld c =
    let mine : asked_objects c.args.client.now ≡ c.in-Mget.object ∷ [] = rw c.in-Mget.is refl in
    subst (All (IsUnheld c.args.heap.lists)) mine c.requires.servable.unheld 0 c.in-Mget.object (omega arith)

pub mget-requires-clause-known : goal.mget-requires-clause-known
mget-requires-clause-known c = known-of c.args.heap.lists c.args.trace.now c.args.self.now c.requires.reserves

pub mget-requires-clause-usable : goal.mget-requires-clause-usable
mget-requires-clause-usable c = usable-of c.args.heap.lists c.args.trace.now c.args.self.now c.requires.servable.heap.names c.requires.reserves

pub mput-requires-clause-usable : goal.mput-requires-clause-usable
mput-requires-clause-usable c = usable-of c.args.heap.lists c.args.trace.now c.args.self.now c.requires.servable.heap.names c.requires.reserves

pub returns-in-Mempool-clause-served : goal.returns-in-Mempool-clause-served
returns-in-Mempool-clause-served c = rw c.in-Mempool.is c.mempool.ensures.served

pub returns-in-Mempool-clause-unheld : goal.returns-in-Mempool-clause-unheld
returns-in-Mempool-clause-unheld c = rw c.in-Mempool.is c.mempool.ensures.unheld

pub returns-in-Mget-clause-unheld : goal.returns-in-Mget-clause-unheld
returns-in-Mget-clause-unheld c = rw c.in-Mget.is c.mget.ensures.unheld

pub returns-in-Mempool-clause-stays : goal.returns-in-Mempool-clause-stays
returns-in-Mempool-clause-stays c = rw c.in-Mempool.is (IfOk-weaker c.mempool.result _ _ (λ done stays. stays c.args.trace.now) c.mempool.ensures.stays)

pub returns-in-Mget-clause-stays : goal.returns-in-Mget-clause-stays
returns-in-Mget-clause-stays c = rw c.in-Mget.is (IfOk-weaker c.mget.result _ _ (λ done stays. stays c.args.trace.now) c.mget.ensures.stays)

pub returns-in-Mput-clause-stays : goal.returns-in-Mput-clause-stays
returns-in-Mput-clause-stays c = rw c.in-Mput.is (IfOk-weaker c.mput.result _ _ (λ done stays. stays c.args.trace.now) c.mput.ensures.stays)

pub returns-in-Mempool-clause-stopped : goal.returns-in-Mempool-clause-stopped
returns-in-Mempool-clause-stopped c = rw c.in-Mempool.is c.mempool.ensures.stopped

pub returns-in-Mget-clause-stopped : goal.returns-in-Mget-clause-stopped
returns-in-Mget-clause-stopped c = rw c.in-Mget.is c.mget.ensures.stopped

pub returns-in-Mput-clause-stopped : goal.returns-in-Mput-clause-stopped
returns-in-Mput-clause-stopped c = rw c.in-Mput.is c.mput.ensures.stopped
