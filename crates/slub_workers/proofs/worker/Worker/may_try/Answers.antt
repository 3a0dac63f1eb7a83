use Rattle.std.proofs.Common.{nat_lt, length, sym, ap, ◌∙◌}
use Rattle.atomic_table.specs.Seated.{TableId}
use Rattle.slub_core.specs.Local.{Local, call_of}
use Rattle.slub_workers.specs.declared.worker.Worker.TheInside.{Inside}
use Rattle.slub_workers.specs.Standing.{Standing}
use Rattle.slub_workers.proofs.Try.{may_be_tried}
use Rattle.slub_workers.proofs.worker.Worker.may_try.Goals as goal

pub returns-then-has_call-clause-yes : goal.returns-then-has_call-clause-yes
returns-then-has_call-clause-yes c told =
    let s = c.args.shared.now in
    let local = ap (λ (y : Inside). y.standing.local) c.self-inside.view_is ∙ ap (λ (p : TableId × Standing). p.1.local) c.self.view_is in
    let plain = c.is_plain_alloc.ensures.yes told in
    may_be_tried s.words.shared.key s.setup s.facts c.args.self.now.1.local c.call.result plain.0 (ap (λ (l : Local). l.spot) (sym local) ∙ sym c.spot.ensures ∙ c.in-Between.is)
    (ap (λ (l : Local). nat_lt 0 (length l.todo)) (sym local) ∙ sym c.has_call.ensures ∙ c.if-has_call.true) (c.call.ensures ∙ ap (λ (l : Local). call_of l) local) plain.1 plain.2 plain.3
