use Rattle.std.proofs.Common.{Some, sym, ap, ◌∙◌}
use Rattle.slub_trace_reader.proofs.Fronts.{front_number}
use Rattle.slub_trace_reader.proofs.Readings.{none_left}
use Rattle.slub_trace_reader.proofs.digits.number.Goals as goal

pub returns-then-is_empty : goal.returns-then-is_empty
returns-then-is_empty c =
    ap (λ n. Some n) c.from.ensures ∙ sym (front_number c.args.word.now c.in-Some.n c.in-Some.rest.now c.in-Some.ensures.front (none_left c.in-Some.rest.now c.if-is_empty.ensures) c.in-Some.ensures.small)
