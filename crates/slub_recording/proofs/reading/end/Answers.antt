use Rattle.std.proofs.Common.{◌∙◌, sym, refl, length}
use Rattle.std.proofs.lemmas.Bool.{eqb-true, false≢true}
use Rattle.slub_recording.specs.State.{above}
use Rattle.slub_recording.proofs.Readings.{end_empty, end_whole, events_recorded}
use Rattle.slub_recording.proofs.reading.end.Goals as goal

pub returns-then-is_empty : goal.returns-then-is_empty
returns-then-is_empty c =
    end_empty (above c.args.state) c.args.rest.now (eqb-true (length c.args.rest.now) 0 (sym c.if-not-is_empty.ensures)) (events_recorded c.args.state.recording ∙ c.if-is_empty.ensures.0 refl)

pub returns : goal.returns
returns c =
    end_whole (above c.args.state) c.args.rest.now (eqb-true (length c.args.rest.now) 0 (sym c.if-not-is_empty.ensures)) (λ none. false≢true (c.if-is_empty.ensures.1 (sym (events_recorded c.args.state.recording) ∙ none)))
