use Rattle.std.proofs.Common.{rules, IfErr, sym}
use Rattle.slub_rounds.specs.Kmalloc.{SpendsOfClass}
use Rattle.slub_rounds.specs.ClientStopped.{IsStoppedWhere}
use Rattle.slub_rounds.proofs.Stopping.{whole-stopped}
use Rattle.slub_kmalloc.proofs.serve.kget.Goals as goal

pub returns-clause-served : goal.returns-clause-served
returns-clause-served c = rw (← c.in-Some.ensures.place) (c.in_ok-after.told, rw c.from_vec.ensures c.in_ok-after.ensures.takes, c.given_answer.ensures)

pub returns-in_err-after-clause-stopped : goal.returns-in_err-after-clause-stopped
returns-in_err-after-clause-stopped c =
    let part : IfErr c.from_residual.result (IsStoppedWhere (SpendsOfClass c.args.heap c.args.trace.now c.args.cpu c.in-Some.class c.args.object)) = search rules in
    whole-stopped _ _ (λ spent. (c.in-Some.class, sym c.in-Some.ensures.place, spent)) c.from_residual.result part
