use Rattle.std.proofs.Common.{◌∙◌, ap, arith, subst, sym}
use Rattle.slub_recording.specs.Recording.{Above}
use Rattle.slub_recording.specs.State.{IsModest, above, read_below}
use Rattle.slub_recording.proofs.Readings.{modest_start, answer_from, fault_from}
use Rattle.slub_recording.proofs.Windows.{leads_whole, refuses_whole}
use Rattle.slub_recording.proofs.reading.read_text.Goals as goal

pub take_lines-requires-clause-modest : goal.take_lines-requires-clause-modest
take_lines-requires-clause-modest c = subst (λ (a : Above). IsModest a) (sym c.new-state.ensures) modest_start

pub take_lines-requires-clause-room : goal.take_lines-requires-clause-room
take_lines-requires-clause-room c = let lines = ap (λ (a : Above). a.lines) c.new-state.ensures in omega (arith, lines, c.requires)

pub end-requires : goal.end-requires
end-requires c = c.in-Ok.ensures.modest.few

pub returns-in-Err : goal.returns-in-Err
returns-in-Err c =
    fault_from _ _ c.in-Err.fault (ap (λ (a : Above). read_below a c.args.bytes.now) (sym c.new-state.ensures)) (refuses_whole (read_below (above c.new-state.result)) c.args.bytes.now c.in-Err.fault c.in-Err.ensures.refused)

pub returns-in-Ok : goal.returns-in-Ok
returns-in-Ok c =
    answer_from _ _ c.end.result (ap (λ (a : Above). read_below a c.args.bytes.now) (sym c.new-state.ensures) ∙ leads_whole _ _ _ _ c.in-Ok.ensures.taken ∙ c.in-Ok.ensures.last) c.end.ensures
