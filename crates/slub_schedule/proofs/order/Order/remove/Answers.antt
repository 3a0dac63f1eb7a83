use Rattle.std.proofs.Common.{◌≡◌, ◌<◌, ◌∙◌, sym, ap, subst, length, arith}
use Rattle.std.specs.Prelude.{slice_index}
use Rattle.std.specs.List.{remove}
use Rattle.slub_schedule.specs.Schedule.{places_of}
use Rattle.slub_schedule.proofs.Marked.{places-remove}
use Rattle.slub_schedule.proofs.order.Order.remove.Goals as goal

pub returns : goal.returns
returns c marks is =
    let place = c.args.place in
    let same : c.self.inside.workers.items ≡ places_of marks = c.self.view_is ∙ is in
    let at : slice_index (places_of marks) place ≡ slice_index c.args.self.now place = sym (ap (λ ws. slice_index ws place) is) in
    c.remove-finished.ensures.items ∙ ap (λ ws. remove ws place) same
    ∙ places-remove 0 marks place (slice_index c.args.self.now place) (subst (λ ws. place < length ws) is c.requires) (at ∙ omega arith)
