use Rattle.std.proofs.Common.{ℕ, Err, List, ◌++◌, refl, subst, true}
use Rattle.slub_round_log.specs.Log.{SinkState}
use Rattle.slub_slabinfo_text.specs.declared.journal.Done.TheVariants as done
use Rattle.slub_slabinfo_text.specs.Text.{text_at}
use Rattle.slub_steps.specs.Inner.{WritesText}
use Rattle.slub_steps.specs.Rounds.{if_shown}
use Rattle.slub_steps.proofs.Ends.{closes_text}
use Rattle.slub_steps.proofs.round.close_round.Goals as goal

pub returns-in-Ok-write_item : goal.returns-in-Ok-write_item
returns-in-Ok-write_item g c = (refl, refl, c.in-Ok.tail.items, c.in-Ok.ensures, rw (← c.as_slice.ensures.value) c.in-Ok-write_item.ensures)

pub returns-in-Err-write_item : goal.returns-in-Err-write_item
returns-in-Err-write_item g c =
    let old : SinkState = (record { taken = g.K.Sink.taken c.args.sink; faults = g.K.Sink.faults c.args.sink }) in
    let new : SinkState = (record { taken = g.K.Sink.taken c.write_item.new.sink; faults = g.K.Sink.faults c.write_item.new.sink }) in
    closes_text ℕ c.args.place c.args.trace.now c.args.round.now c.args.live.now c.args.machine c.args.left c.args.outcome c.args.kept.now old new c.in-Ok.tail.items c.in-Err-write_item.stop c.in-Ok.ensures
    (subst (λ (b : List ℕ). WritesText {A = ℕ} old new (if_shown c.args.place.is_shown (b ++ text_at true c.args.trace.now c.args.place.number (done.Round c.args.outcome))) (Err c.in-Err-write_item.stop)) c.as_slice.ensures.value c.in-Err-write_item.ensures)
