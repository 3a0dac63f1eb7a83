use Rattle.std.proofs.Common.{◌∙◌, ap, subst, List}
use Rattle.slub_trace.specs.declared.trace.Item.{Item}
use Rattle.slub_outcomes.specs.declared.tally.Outcome.{Outcome}
use Rattle.slub_outcomes.specs.Span.{IsSpan}
use Rattle.slub_outcomes.specs.Table.{table_text}
use Rattle.slub_outcomes.proofs.Endings.{done-ends, round-least, span-within}
use Rattle.slub_outcomes.proofs.run.work.Goals as goal

pub returns-in-Err-clause-untouched : goal.returns-in-Err-clause-untouched
returns-in-Err-clause-untouched g c = λ bad. absurd (bad c.in-Some.request c.in-Some.ensures)

pub span_of-span-requires : goal.span_of-span-requires
span_of-span-requires g c = round-least _ c.in-Some.request.round c.in-Some.ensures.2.round

pub count-requires-clause-within : goal.count-requires-clause-within
count-requires-clause-within g c κs within = span-within c.in-Some.request.round c.in-Ok.trace.items c.span_of-span.result (subst (λ (items : List Item). IsSpan c.in-Some.request.round items c.span_of-span.result) c.as_slice.ensures c.span_of-span.ensures)

pub returns-in_err-counted-clause-untouched : goal.returns-in_err-counted-clause-untouched
returns-in_err-counted-clause-untouched g c = λ bad. absurd (bad c.in-Some.request c.in-Some.ensures)

pub returns-in_err-text-clause-untouched : goal.returns-in_err-text-clause-untouched
returns-in_err-text-clause-untouched g c = λ bad. absurd (bad c.in-Some.request c.in-Some.ensures)

pub returns-clause-ends : goal.returns-clause-ends
returns-clause-ends g c =
    let reads = c.in-Ok.ensures.reads in
    done-ends _ c.done_status.result c.in_ok-text.text.items c.in_ok-counted.counted.is_spent c.done_status.ensures
    (record {
      request = c.in-Some.request;
      asked = c.in-Some.ensures;
      trace = c.in-Ok.trace;
      read = record { at_end = reads.1; spelled = reads.0; sound = c.in-Ok.ensures.sound };
      span = c.span_of-span.result;
      is_span = subst (λ (items : List Item). IsSpan c.in-Some.request.round items c.span_of-span.result) c.as_slice.ensures c.span_of-span.ensures;
      counted = c.in_ok-counted.counted;
      counts = c.in_ok-counted.ensures;
      status_is = c.done_status.ensures;
      text_is = c.in_ok-text.ensures ∙ ap (λ (outcomes : List Outcome). table_text outcomes c.in-Some.request) c.as_slice-2.ensures.value;
    }) reads.2

pub returns-clause-untouched : goal.returns-clause-untouched
returns-clause-untouched g c = λ bad. absurd (bad c.in-Some.request c.in-Some.ensures)
