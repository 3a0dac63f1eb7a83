use Rattle.std.proofs.Common.{[], ◌∷◌, All, arith}
use Rattle.std.proofs.lemmas.List.Elements.{All-cons, All-nil}
use Rattle.slub_rounds.specs.ClientLaws.{IsNumber}
use Rattle.slub_rounds.proofs.Allowed.{frees-may}
use Rattle.slub_rounds.proofs.Stopping.{none-stopped}
use Rattle.slub_kmalloc.proofs.serve.free_other.Goals as goal

pub client_round-requires-clause-asks : goal.client_round-requires-clause-asks
client_round-requires-clause-asks c = (c.args.trace.now, c.requires.asks)

pub client_round-requires-clause-may_do : goal.client_round-requires-clause-may_do
client_round-requires-clause-may_do c =
    let known : All (IsNumber c.args.heap) (c.args.asked.object ∷ []) = All-cons (IsNumber c.args.heap) c.args.asked.object [] (c.requires.object.0, omega (arith, c.requires.object.1, c.requires.asks.objects)) (All-nil (IsNumber c.args.heap)) in
    (c.args.trace.now, frees-may c.args.heap c.args.trace.now c.args.asked.cpu (c.args.asked.object ∷ []) c.requires.asks c.requires.cpu (omega arith) known)

pub returns-clause-stays : goal.returns-clause-stays
returns-clause-stays c = c.in_ok-after.ensures.stays c.args.trace.now

pub returns-in_err-push-clause-stopped : goal.returns-in_err-push-clause-stopped
returns-in_err-push-clause-stopped c = none-stopped _ c.from_residual-in_err-push.result c.from_residual-in_err-push.ensures.1
