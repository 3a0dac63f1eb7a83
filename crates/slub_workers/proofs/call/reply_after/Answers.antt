use Rattle.std.proofs.Common.{◌≡◌, List, length, reverse, get_or, sym, ap, ◌∙◌, arith}
use Rattle.std.proofs.lemmas.List.{reverse-reverse, length-reverse}
use Rattle.slub_core.specs.declared.local.Answered.{Answered}
use Rattle.slub_workers.proofs.call.reply_after.Goals as goal

pub returns-in-Some-clause-over : goal.returns-in-Some-clause-over
returns-in-Some-clause-over c =
    let items : List Answered = c.answers.result.now in
    let has = c.in-Some.ensures.lookup.3 in
    let back : reverse c.args.local.now.done ≡ items = ap reverse (sym c.answers.ensures) ∙ reverse-reverse items in
    let long = ap (λ (ds : List Answered). length ds) (sym c.answers.ensures) ∙ length-reverse items in
    let below = has.0 in (
      record { between = sym c.spot.ensures ∙ c.in-Between.is; replied = omega (arith, long, below) },
      λ d. ap (λ (ds : List Answered). (get_or ds c.args.told d).reply) back ∙ ap (λ (a : Answered). a.reply) (sym (has.1 d)),
    )
