use Rattle.std.proofs.Common.{Some, sym, ap, ◌∙◌}
use Rattle.slub_trace_reader.proofs.Fronts.{front_field}
use Rattle.slub_trace_reader.proofs.digits.number_field.Goals as goal

pub returns-in-Some-eq32-default : goal.returns-in-Some-eq32-default
returns-in-Some-eq32-default c =
    front_field c.args.bytes.now c.in-Some.n c.in-Some.behind.now c.in-Some-eq32-default.field-0-0.now c.in-Some-eq32-default.rest.now c.in-Some.ensures.front c.in-Some-eq32-default.ensures.cases.0 c.in-Some-eq32-default.field-0-0-test c.in-Some.ensures.small
    ∙ ap (λ n. Some (n, c.in-Some-eq32-default.rest.now)) (sym c.from.ensures)
