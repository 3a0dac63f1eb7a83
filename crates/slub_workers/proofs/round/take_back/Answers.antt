use Rattle.std.proofs.Common.{◌<◌, ◌≡◌, ap, ◌∙◌, arith}
use Rattle.atomic_table.specs.Seated.{TableId}
use Rattle.slub_core.specs.declared.spot.Spot.TheVariants.{Between}
use Rattle.slub_workers.specs.Locks.{slots_out}
use Rattle.slub_workers.specs.Standing.{Standing}
use Rattle.slub_workers.proofs.Opening.{no_locks}
use Rattle.slub_workers.proofs.Parts.{returns_as}
use Rattle.slub_workers.proofs.round.take_back.Goals as goal

pub join_seat-requires : goal.join_seat-requires
join_seat-requires c =
    let r = c.requires in
    let sits = c.worker.invariant in
    let count = c.args.shared.now.words_are in
    let many : 0 < c.args.shared.now.words.shared.table_id.words = omega arith in
    let between : c.worker.inside.standing.local.spot ≡ Between = ap (λ (w : TableId × Standing). w.1.local.spot) c.worker.view_is ∙ r.between in
    let slots = sits.slots ∙ ap slots_out (no_locks c.worker.inside.standing.local between) in
    (r.table.0, ap (λ (w : TableId × Standing). w.0) c.worker.view_is ∙ r.table.1, slots, many, returns_as _ _ _ _ _ sits.fork sits.view)
