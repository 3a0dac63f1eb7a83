use Rattle.std.proofs.Common.{ap, arith}
use Rattle.slub_recording.specs.Recording.{Above}
use Rattle.slub_recording.specs.State.{above}
use Rattle.slub_recording.proofs.Readings.{ends_below}
use Rattle.slub_recording.proofs.Splits.{shorter_behind}
use Rattle.slub_recording.proofs.Windows.{leads_line, refuses_line}
use Rattle.slub_recording.proofs.reading.take_lines.Goals as goal

pub take_line-requires-clause-room : goal.take_line-requires-clause-room
take_line-requires-clause-room c =
    let less = shorter_behind 10 c.loop-text.rest.now c.in-Some.text.now c.in-Some.behind.now c.in-Some.ensures in
    omega (arith, less, c.loop-text.invariant.2, c.requires.room)

pub loop-text-smaller : goal.loop-text-smaller
loop-text-smaller c = shorter_behind 10 c.loop-text.rest.now c.in-Some.text.now c.in-Some.behind.now c.in-Some.ensures

pub loop-text-preserved : goal.loop-text-preserved
loop-text-preserved c =
    let less = shorter_behind 10 c.loop-text.rest.now c.in-Some.text.now c.in-Some.behind.now c.in-Some.ensures in
    let lines = ap (λ (a : Above). a.lines) c.in_default-take_line.ensures.taken.2 in (
      leads_line _ (above c.loop-text.state) (above c.take_line.new.state) _ c.loop-text.rest.now c.in-Some.text.now c.in-Some.behind.now c.loop-text.invariant.0 c.in-Some.ensures c.in_default-take_line.ensures.taken,
      c.in_default-take_line.ensures.modest,
      omega (arith, less, lines, c.loop-text.invariant.2),
    )

pub returns-in-Err-clause-refused : goal.returns-in-Err-clause-refused
returns-in-Err-clause-refused c =
    refuses_line _ (above c.loop-text.state) _ c.loop-text.rest.now c.in-Some.text.now c.in-Some.behind.now c.in-Err.fault c.loop-text.invariant.0 c.in-Some.ensures c.in-Err.ensures.refused

pub returns-clause-last : goal.returns-clause-last
returns-clause-last c = ends_below (above c.loop-text.state) c.loop-text.rest.now c.in_default.ensures
