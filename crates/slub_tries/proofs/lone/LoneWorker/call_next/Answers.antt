use Rattle.std.proofs.Common.{◌≡◌, ◌∙◌, ap, subst}
use Rattle.slub_core.specs.declared.spot.Spot.TheVariants.{Between}
use Rattle.slub_core.specs.Run.{IsFinished}
use Rattle.slub_workers.specs.Standing.{Standing}
use Rattle.slub_workers.specs.Tables.{begun_at, table_of}
use Rattle.slub_tries.specs.Lone.{Lone}
use Rattle.slub_tries.proofs.Sitting.{finished-so, here-of}
use Rattle.atomic_table.specs.Seated.{TableId}
use Rattle.slub_tries.proofs.lone.LoneWorker.call_next.Goals as goal

pub returns-then-not-has_next-clause-none : goal.returns-then-not-has_next-clause-none
returns-then-not-has_next-clause-none g c = λ none.
    let inv = c.self.invariant in
    let before = c.index_mut-worker.result.now in
    let here = here-of (begun_at c.self.inside.shared) (table_of c.self.inside.shared) c.self.inside.workers.list.items inv.alone before c.index_mut-worker.ensures.value in
    let between : before.1.local.spot ≡ Between = ap (λ (w : TableId × Standing). w.1.local.spot) here ∙ inv.alone.between in
    let done : IsFinished before.1.local = finished-so before.1.local between (c.has_next.ensures.no c.if-not-has_next.true) in
    subst (λ (l : Lone). IsFinished l.standing.local) c.self.view_is (subst (λ (w : TableId × Standing). IsFinished w.1.local) here done)
