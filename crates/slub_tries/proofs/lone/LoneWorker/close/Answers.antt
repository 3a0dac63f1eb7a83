use Rattle.std.proofs.Common.{◌∙◌, [], ◌∷◌, ap, subst}
use Rattle.slub_workers.specs.Round.{HasClosed, begun_by}
use Rattle.slub_workers.specs.Tables.{begun_at, table_of}
use Rattle.slub_tries.specs.Lone.{Lone}
use Rattle.slub_tries.proofs.Sitting.{alone-rising}
use Rattle.slub_tries.proofs.lone.LoneWorker.close.Goals as goal

pub returns : goal.returns
returns c =
    let tried = c.end-ended.result.tried in
    let shared = c.self.inside.shared in
    let rising = alone-rising (begun_at shared) (table_of shared) c.self.inside.workers.list.items c.self.invariant.alone in
    record {
      tried = tried;
      closed = subst (λ (l : Lone). HasClosed l.key tried (begun_by c.close.result)) c.self.view_is c.close.ensures.closed;
      local = ap (λ v. v.items) c.close.ensures.locals ∙ c.end-ended.ensures.locals ∙ rising ∙ ap (λ (l : Lone). l.standing.local ∷ []) c.self.view_is;
    }
