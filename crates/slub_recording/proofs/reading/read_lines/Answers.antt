use Rattle.std.proofs.Common.{◌∙◌, List, ℕ, ap, arith, length, length-append, refl, subst, sym}
use Rattle.std.proofs.lemmas.Bool.{false≢true}
use Rattle.slub_edges.specs.Window.{count_of, items}
use Rattle.slub_recording.specs.Recording.{Above, end_of, start}
use Rattle.slub_recording.specs.State.{IsAnswer, IsModest, above, read_below}
use Rattle.slub_recording.proofs.Readings.{modest_start}
use Rattle.slub_recording.proofs.Windows.{ends_on, passes_on, refuses_on, stands_grown, stands_none, stands_on, stops_on}
use Rattle.slub_recording.proofs.reading.read_lines.Goals as goal

pub loop-fault-init : goal.loop-fault-init
loop-fault-init g c =
    let lines = ap (λ (a : Above). a.lines) c.new-state.ensures in
    record {
      stands = stands_none (items c.args.window) _ (count_of c.args.window) (above c.new-state.result) c.new-state.ensures c.requires.count;
      modest = subst (λ (a : Above). IsModest a) (sym c.new-state.ensures) modest_start;
      room = omega (arith, lines, c.requires.count);
      few = c.requires.few;
      at_end = λ never. absurd (false≢true never);
      still = refl;
    }

pub returns-in-Err-clause-reads : goal.returns-in-Err-clause-reads
returns-in-Err-clause-reads g c =
    let kept = c.loop-fault.invariant in
    passes_on (read_below start) (items c.args.window) kept.stands.more _ _ _ (count_of c.take_window.new.window) _ _ _ c.in-Err.fault c.pass_on.result kept.stands.read (c.take_window.ensures.count ∙ kept.stands.counted) kept.still
    (refuses_on _ _ _ _ _ _ c.in-Err.fault kept.stands c.in-Err.ensures.refused) c.pass_on.ensures.passes

pub returns-then-ended-clause-reads : goal.returns-then-ended-clause-reads
returns-then-ended-clause-reads g c =
    let kept = c.loop-fault.invariant in
    let stands = stands_on _ _ _ _ _ _ _ _ _ kept.stands c.in_default.ensures.taken c.take_window.ensures.count in
    let answers = subst (λ (b : List ℕ). IsAnswer (end_of (above c.take_window.new.state) b) c.end.result) c.as_slice.ensures c.end.ensures in
    ends_on _ _ _ _ _ _ _ _ (end_of (above c.take_window.new.state) (items c.take_window.new.window)) c.end.result stands c.in_default.ensures.last answers (kept.at_end c.if-ended.true) (omega (arith, c.take_window.ensures.count, kept.few)) kept.still

pub loop-fault-preserved : goal.loop-fault-preserved
loop-fault-preserved g c =
    let kept = c.loop-fault.invariant in
    let stands = stands_on _ _ _ _ _ _ _ _ _ kept.stands c.in_default.ensures.taken c.take_window.ensures.count in
    let grows = c.in-Ok.ensures.grows in
    record {
      stands = stands_grown _ _ _ _ _ _ _ _ _ stands grows;
      modest = c.in_default.ensures.modest;
      room = omega (arith, kept.room, c.in_default.ensures.room, c.take_window.ensures.count, grows.counted, ap length grows.behind, length-append (items c.take_window.new.window) grows.more);
      few = c.in-Ok.ensures.few;
      at_end = c.in-Ok.ensures.end;
      still = c.in-Ok.ensures.still ∙ kept.still;
    }

pub returns-in-Err-fill-clause-reads : goal.returns-in-Err-fill-clause-reads
returns-in-Err-fill-clause-reads g c =
    let kept = c.loop-fault.invariant in
    let stands = stands_on _ _ _ _ _ _ _ _ _ kept.stands c.in_default.ensures.taken c.take_window.ensures.count in
    rw c.of_source.ensures (stops_on (read_below start) (items c.args.window) stands.more _ _ _ (count_of c.take_window.new.window) _ _ _ c.in-Err-fill.fault stands.read stands.counted kept.still c.in-Err-fill.ensures.stops)
