use Rattle.std.proofs.Common.{rules, IfErr, [], ◌∷◌, refl, Err, Ok, inl, inr}
use Rattle.std.proofs.lemmas.Result.{IfOk-weaker}
use Rattle.slub_rounds.specs.Kmalloc.{SpendsOfClass}
use Rattle.slub_rounds.specs.ClientStopped.{IsStoppedWhere}
use Rattle.slub_rounds.proofs.Staying.{stays-now, stays-then, unheld_after}
use Rattle.slub_rounds.proofs.Stopping.{whole-stopped}
use Rattle.slub_kmalloc.proofs.serve.move_to.Goals as goal

pub free_other-requires-clause-asks : goal.free_other-requires-clause-asks
free_other-requires-clause-asks c = stays-now c.args.heap c.args.trace.now 1 c.in_ok-mid.mid c.requires.asks c.in_ok-mid.ensures.stays

pub returns-in-Ok-clause-served : goal.returns-in-Ok-clause-served
returns-in-Ok-clause-served c =
    let takes = rw c.in-Ok.is at c.in_ok-mid.ensures.takes in
    IfOk-weaker c.free_other.result _ _ (λ done moved. (Ok c.in-Ok.address, c.take_of_class.new.rounds.items, c.in_ok-mid.mid, takes, moved)) c.free_other.ensures.moved

pub returns-in-Ok-clause-stays : goal.returns-in-Ok-clause-stays
returns-in-Ok-clause-stays c = IfOk-weaker c.free_other.result _ _ (λ done stays. stays-then c.args.heap c.in_ok-mid.mid done.0 c.args.trace.now 1 c.in_ok-mid.ensures.stays stays) c.free_other.ensures.stays

pub returns-in-Ok-clause-unheld : goal.returns-in-Ok-clause-unheld
returns-in-Ok-clause-unheld c =
    IfOk-weaker c.free_other.result _ _ (λ done unheld. unheld_after c.args.heap.lists c.in_ok-mid.mid.lists done.0.lists (c.args.asked.fresh ∷ []) c.in_ok-mid.ensures.unheld unheld) c.free_other.ensures.unheld

pub returns-in-Ok-clause-stopped : goal.returns-in-Ok-clause-stopped
returns-in-Ok-clause-stopped c =
    let takes = rw c.in-Ok.is at c.in_ok-mid.ensures.takes in
    whole-stopped _ _ (λ spent. inr (c.in-Ok.address, c.take_of_class.new.rounds.items, c.in_ok-mid.mid, takes, spent)) c.free_other.result c.free_other.ensures.stopped

pub returns-in_err-mid-clause-stopped : goal.returns-in_err-mid-clause-stopped
returns-in_err-mid-clause-stopped c =
    let part : IfErr c.from_residual.result (IsStoppedWhere (SpendsOfClass c.args.heap c.args.trace.now c.args.asked.cpu c.args.class c.args.asked.fresh)) = search rules in
    whole-stopped _ _ inl c.from_residual.result part

pub returns-in-Err-clause-served : goal.returns-in-Err-clause-served
returns-in-Err-clause-served c =
    let takes = rw c.in-Err.is at c.in_ok-mid.ensures.takes in
    (Err c.in-Err.why, c.take_of_class.new.rounds.items, c.in_ok-mid.mid, takes, (c.from_vec.ensures, refl, refl))
