use Rattle.std.proofs.Common.{List, ℕ, inr, subst}
use Rattle.std.specs.Io.KnownBytes.{Appends}
use Rattle.slub_round_log.specs.Log.{SinkState}
use Rattle.slub_steps.specs.Run.{IsEnded}
use Rattle.slub_steps.proofs.run.write_log.Goals as goal

pub returns : goal.returns
returns g c =
    let old : SinkState = (record { taken = g.K.Sink.taken c.args.sink; faults = g.K.Sink.faults c.args.sink }) in
    let begun : SinkState = (record { taken = g.K.Sink.taken c.write_lines.new.sink; faults = g.K.Sink.faults c.write_lines.new.sink }) in
    let behind : SinkState = (record { taken = g.K.Sink.taken c.replay-sink.result.0; faults = g.K.Sink.faults c.replay-sink.result.0 }) in
    let new : SinkState = (record { taken = g.K.Sink.taken c.end-status.new.sink; faults = g.K.Sink.faults c.end-status.new.sink }) in
    inr (record {
      begun = begun;
      opens = record { written = subst (λ (text : List ℕ). Appends old.taken begun.taken text) c.page_text-front.ensures c.in_default.ensures.ok; still = c.in_default.ensures.still };
      behind = behind;
      end = c.replay-sink.result.1;
      writes = c.replay-sink.ensures;
      ends = subst (λ (text : List ℕ). IsEnded behind new text c.replay-sink.result.1 c.end-status.result) c.page_text-back.ensures c.end-status.ensures;
    })
