use Rattle.std.proofs.Common.{List, sym, ◌∙◌, ap, subst}
use Rattle.std.proofs.lemmas.Result.{IfOk-weaker}
use Rattle.slub_lists.specs.State.{State}
use Rattle.slub_rounds.specs.Heap.{HeapState}
use Rattle.slub_rounds.specs.Reserves.{AreReserves, Reserve, SpendsKept, kept_in}
use Rattle.slub_rounds.proofs.Stopping.{whole-stopped}
use Rattle.slub_mempool.proofs.Keeping.{dropped}
use Rattle.slub_mempool.proofs.Serving.{serves_keep}
use Rattle.slub_mempool.proofs.reserves.Reserves.serve.Goals as goal

pub serve_kept-requires-clause-reserves : goal.serve_kept-requires-clause-reserves
serve_kept-requires-clause-reserves c =
    let left = c.drop_freed.ensures ∙ ap (λ (s : State). kept_in s c.args.self.now) (ap (λ (h : HeapState). h.lists) c.heap.view_is) in
    subst (AreReserves c.args.heap.lists c.args.trace.now) (sym left) (dropped c.args.heap.lists c.args.trace.now c.args.self.now c.requires.sound)

pub returns-clause-reserves : goal.returns-clause-reserves
returns-clause-reserves c =
    let left = c.drop_freed.ensures ∙ ap (λ (s : State). kept_in s c.args.self.now) (ap (λ (h : HeapState). h.lists) c.heap.view_is) in
    let are = subst (AreReserves c.args.heap.lists c.args.trace.now) (sym left) (dropped c.args.heap.lists c.args.trace.now c.args.self.now c.requires.sound) in
    IfOk-weaker c.serve_kept.result _ _
    (λ done served. serves_keep c.rounds_by_text_are_lawful.ensures c.args.heap c.args.trace.now c.drop_freed.new.self c.args.client.now done.1 done.0 c.serve_kept.new.self c.requires.servable are served) c.serve_kept.ensures.served

pub returns-clause-stopped : goal.returns-clause-stopped
returns-clause-stopped c =
    let left = c.drop_freed.ensures ∙ ap (λ (s : State). kept_in s c.args.self.now) (ap (λ (h : HeapState). h.lists) c.heap.view_is) in
    whole-stopped _ _ (subst (λ (reserves : List Reserve). SpendsKept c.args.heap reserves c.args.client.now) left) c.serve_kept.result c.serve_kept.ensures.stopped
