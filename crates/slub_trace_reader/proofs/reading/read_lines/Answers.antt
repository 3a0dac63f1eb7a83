use Rattle.std.proofs.Common.{ℕ, List, length, length-append, refl, sym, ap, ◌∙◌, arith, subst}
use Rattle.std.proofs.lemmas.Result.{err_from_is_err_and}
use Rattle.slub_trace_reader.specs.Parsing.{StopsAt}
use Rattle.slub_trace_reader.specs.State.{above}
use Rattle.slub_edges.specs.Window.{items}
use Rattle.slub_edges.proofs.Windows.{counts_none}
use Rattle.slub_trace_reader.specs.Window.{next_of}
use Rattle.slub_trace_reader.proofs.Readings.{stands_grown, stands_on, stands_modest, read_stops, line_stops, end_stops, all_read}
use Rattle.slub_trace_reader.proofs.reading.read_lines.Goals.{then-not-ended+in_ok-pass_rest, else-not-ended}
use Rattle.slub_trace_reader.proofs.reading.read_lines.Goals as goal

pub returns-in_err-ended-clause-stops : goal.returns-in_err-ended-clause-stops
returns-in_err-ended-clause-stops g c =
    let is = err_from_is_err_and c.from_residual-in_err-ended.result c.from_residual-in_err-ended.ensures.1 in
    let kept = c.loop-state.invariant in
    rw (is.1, is.2) (read_stops _ _ _ _ _ _ _ _ _ _ c.in_err-ended.field-0.0 kept.stands refl kept.still c.in_err-ended.ensures.stops)

pub take_lines-requires-clause-modest : goal.take_lines-requires-clause-modest
take_lines-requires-clause-modest g c = stands_modest _ _ _ _ _ c.loop-state.invariant.stands

pub returns-in_err-pass_rest-clause-stops : goal.returns-in_err-pass_rest-clause-stops
returns-in_err-pass_rest-clause-stops g c =
    let is = err_from_is_err_and c.from_residual-in_err-pass_rest.result c.from_residual-in_err-pass_rest.ensures.1 in
    let kept = c.loop-state.invariant in
    let stands = stands_grown _ _ _ _ _ _ _ _ kept.stands c.in_ok-ended.ensures.grows in
    rw (is.1, is.2) (read_stops _ _ _ _ _ _ _ _ _ _ c.in_err-pass_rest.field-0.0 stands c.take_lines.ensures.count (c.in_ok-ended.ensures.still ∙ kept.still) c.in_err-pass_rest.ensures.stops)

pub returns-in-Err-clause-stops : goal.returns-in-Err-clause-stops
returns-in-Err-clause-stops g c =
    let kept = c.loop-state.invariant in
    let stands = stands_grown _ _ _ _ _ _ _ _ kept.stands c.in_ok-ended.ensures.grows in
    let still = c.in_ok-ended.ensures.still ∙ kept.still in
    elim c.if-not-ended.branch [
      | then-not-ended+in_ok-pass_rest w ↦
          (let passed = w.in_ok-pass_rest.ensures in
          let stops = line_stops _ _ _ _ _ _ _ _ _ _ c.in-Err.fault stands c.in-Err.ensures.refused c.take_lines.ensures.count passed.passed passed.end passed.few (passed.still ∙ still) in
          rw w.source-is stops)
      | else-not-ended w ↦
          (let ended = c.in_ok-ended.ensures.end w.if-not-ended.false in
          let stops = line_stops _ _ _ _ _ _ _ _ _ _ c.in-Err.fault stands c.in-Err.ensures.refused refl (counts_none _ _) ended c.in_ok-ended.ensures.few still in
          rw w.source-is stops)
    ]

pub returns-in_err-judge_end-clause-stops : goal.returns-in_err-judge_end-clause-stops
returns-in_err-judge_end-clause-stops g c =
    let is = err_from_is_err_and c.from_residual-in_err-judge_end.result c.from_residual-in_err-judge_end.ensures.1 in
    let kept = c.loop-state.invariant in
    let grown = stands_grown _ _ _ _ _ _ _ _ kept.stands c.in_ok-ended.ensures.grows in
    let stands = stands_on _ _ _ _ _ _ _ _ grown c.in_default.ensures.taken c.take_lines.ensures.count in
    let fault = c.in_err-judge_end.field-0.0 in
    let stops = subst (λ (rest : List ℕ). StopsAt (above c.take_lines.new.state) (next_of rest) fault) c.as_slice.ensures c.in_err-judge_end.ensures.refused in
    rw (is.1, is.2) (end_stops _ _ _ _ _ _ _ fault stands c.in_default.ensures.none stops (c.in_ok-ended.ensures.end c.if-ended.true) (omega (arith, c.take_lines.ensures.count, c.in_ok-ended.ensures.few)) (c.in_ok-ended.ensures.still ∙ kept.still))

pub returns-then-ended-clause-read : goal.returns-then-ended-clause-read
returns-then-ended-clause-read g c =
    let kept = c.loop-state.invariant in
    let grown = stands_grown _ _ _ _ _ _ _ _ kept.stands c.in_ok-ended.ensures.grows in
    let stands = stands_on _ _ _ _ _ _ _ _ grown c.in_default.ensures.taken c.take_lines.ensures.count in
    all_read _ _ _ _ _ stands (sym c.as_slice.ensures ∙ c.in_ok-judge_end.ensures.ended.0) c.in_ok-judge_end.ensures.ended.1 (c.in_ok-ended.ensures.end c.if-ended.true) (omega (arith, c.take_lines.ensures.count, c.in_ok-ended.ensures.few))

pub loop-state-preserved : goal.loop-state-preserved
loop-state-preserved g c =
    let kept = c.loop-state.invariant in
    let grown = stands_grown _ _ _ _ _ _ _ _ kept.stands c.in_ok-ended.ensures.grows in
    record {
      stands = stands_on _ _ _ _ _ _ _ _ grown c.in_default.ensures.taken c.take_lines.ensures.count;
      keeps = c.in_default.ensures.keeps;
      room = omega (arith, kept.room, c.in_ok-ended.ensures.grows.counted, ap length c.in_ok-ended.ensures.grows.behind, length-append (items c.loop-state.window) c.in_ok-ended.ensures.grows.more, c.in_default.ensures.room, c.take_lines.ensures.count);
      few = omega (arith, c.take_lines.ensures.count, c.in_ok-ended.ensures.few);
      still = c.in_ok-ended.ensures.still ∙ kept.still;
    }
