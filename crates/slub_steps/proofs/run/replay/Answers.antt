use Rattle.std.proofs.Common.{◌≡◌, ◌++◌, List, ℕ, Err, ap, subst, ◌∙◌, inl}
use Rattle.slub_log_text.specs.Parts.{head_text}
use Rattle.slub_round_log.specs.Log.{SinkState, Takes}
use Rattle.slub_steps.specs.Inner.{WritesText}
use Rattle.slub_steps.specs.Run.{wanted_of}
use Rattle.slub_steps.proofs.Ends.{head_stops}
use Rattle.slub_steps.proofs.Finishing.{head_alone, log_done, log_stopped, log_unfinished}
use Rattle.slub_steps.proofs.Texts.{takes_nothing}
use Rattle.slub_steps.proofs.run.replay.Goals as goal

pub returns-in-Err : goal.returns-in-Err
returns-in-Err g c = inl (takes_nothing (record { taken = g.K.Sink.taken c.args.sink; faults = g.K.Sink.faults c.args.sink }))

pub returns-in-Err-show : goal.returns-in-Err-show
returns-in-Err-show g c =
    let old : SinkState = (record { taken = g.K.Sink.taken c.args.sink; faults = g.K.Sink.faults c.args.sink }) in
    let shown : SinkState = (record { taken = g.K.Sink.taken c.show.new.sink; faults = g.K.Sink.faults c.show.new.sink }) in
    let text : c.as_slice.result.now ≡ head_text c.args.trace c.args.request.now.way =
    c.as_slice.ensures.value ∙ c.in_default.ensures ∙ ap (λ (xs : List ℕ). xs ++ head_text c.args.trace c.args.request.now.way) c.new-head.ensures.items in
    head_stops ℕ (wanted_of c.args.request.now) c.args.trace old shown c.in-Err-show.stop
    (subst (λ (xs : List ℕ). WritesText {A = ℕ} old shown xs (Err c.in-Err-show.stop)) text c.in-Err-show.ensures)

pub returns-in-Err-open : goal.returns-in-Err-open
returns-in-Err-open g c =
    let old : SinkState = (record { taken = g.K.Sink.taken c.args.sink; faults = g.K.Sink.faults c.args.sink }) in
    let shown : SinkState = (record { taken = g.K.Sink.taken c.show.new.sink; faults = g.K.Sink.faults c.show.new.sink }) in
    let text : c.as_slice.result.now ≡ head_text c.args.trace c.args.request.now.way =
    c.as_slice.ensures.value ∙ c.in_default.ensures ∙ ap (λ (xs : List ℕ). xs ++ head_text c.args.trace c.args.request.now.way) c.new-head.ensures.items in
    let took : Takes old shown (head_text c.args.trace c.args.request.now.way) = subst (λ (xs : List ℕ). Takes old shown xs) text c.in_default-show.ensures in
    head_alone (wanted_of c.args.request.now) c.args.trace old shown took

pub returns-in-Err-result : goal.returns-in-Err-result
returns-in-Err-result g c =
    let old : SinkState = (record { taken = g.K.Sink.taken c.args.sink; faults = g.K.Sink.faults c.args.sink }) in
    let shown : SinkState = (record { taken = g.K.Sink.taken c.show.new.sink; faults = g.K.Sink.faults c.show.new.sink }) in
    let text : c.as_slice.result.now ≡ head_text c.args.trace c.args.request.now.way =
    c.as_slice.ensures.value ∙ c.in_default.ensures ∙ ap (λ (xs : List ℕ). xs ++ head_text c.args.trace c.args.request.now.way) c.new-head.ensures.items in
    let took : Takes old shown (head_text c.args.trace c.args.request.now.way) = subst (λ (xs : List ℕ). Takes old shown xs) text c.in_default-show.ensures in
    let begun : SinkState = (record { taken = g.K.Sink.taken c.open-2.result.sink; faults = g.K.Sink.faults c.open-2.result.sink }) in
    let mid : SinkState = (record { taken = g.K.Sink.taken c.do_items-progress.result.0.sink; faults = g.K.Sink.faults c.do_items-progress.result.0.sink }) in
    let head : Takes old begun (head_text c.args.trace c.args.request.now.way) = rw c.open-2.ensures.sink took in
    log_stopped (wanted_of c.args.request.now) c.args.trace old begun mid c.in-Err-result.stop head (rw c.in-Err-result.is at c.do_items-progress.ensures.run)

pub returns-in-Ok-finished : goal.returns-in-Ok-finished
returns-in-Ok-finished g c =
    let old : SinkState = (record { taken = g.K.Sink.taken c.args.sink; faults = g.K.Sink.faults c.args.sink }) in
    let shown : SinkState = (record { taken = g.K.Sink.taken c.show.new.sink; faults = g.K.Sink.faults c.show.new.sink }) in
    let text : c.as_slice.result.now ≡ head_text c.args.trace c.args.request.now.way =
    c.as_slice.ensures.value ∙ c.in_default.ensures ∙ ap (λ (xs : List ℕ). xs ++ head_text c.args.trace c.args.request.now.way) c.new-head.ensures.items in
    let took : Takes old shown (head_text c.args.trace c.args.request.now.way) = subst (λ (xs : List ℕ). Takes old shown xs) text c.in_default-show.ensures in
    let begun : SinkState = (record { taken = g.K.Sink.taken c.open-2.result.sink; faults = g.K.Sink.faults c.open-2.result.sink }) in
    let mid : SinkState = (record { taken = g.K.Sink.taken c.do_items-progress.result.0.sink; faults = g.K.Sink.faults c.do_items-progress.result.0.sink }) in
    let head : Takes old begun (head_text c.args.trace c.args.request.now.way) = rw c.open-2.ensures.sink took in
    let new : SinkState = (record { taken = g.K.Sink.taken c.finish-finished.new.self.sink; faults = g.K.Sink.faults c.finish-finished.new.self.sink }) in
    log_done c.in-Ok-finished.field-0 (wanted_of c.args.request.now) c.args.trace c.done_as.result c.do_items-progress.result.0.journal.items c.in-Ok-result.machine c.do_items-progress.result.0.rounds old begun mid new head
    (rw c.in-Ok-result.is at c.do_items-progress.ensures.run) c.in-Ok-finished.ensures.finished
    (record { journal = c.finish-finished.new.self.journal; items = c.in-Ok-finished.ensures.items; status_is = c.done_as.ensures })

pub returns-in-Err-finished : goal.returns-in-Err-finished
returns-in-Err-finished g c =
    let old : SinkState = (record { taken = g.K.Sink.taken c.args.sink; faults = g.K.Sink.faults c.args.sink }) in
    let shown : SinkState = (record { taken = g.K.Sink.taken c.show.new.sink; faults = g.K.Sink.faults c.show.new.sink }) in
    let text : c.as_slice.result.now ≡ head_text c.args.trace c.args.request.now.way =
    c.as_slice.ensures.value ∙ c.in_default.ensures ∙ ap (λ (xs : List ℕ). xs ++ head_text c.args.trace c.args.request.now.way) c.new-head.ensures.items in
    let took : Takes old shown (head_text c.args.trace c.args.request.now.way) = subst (λ (xs : List ℕ). Takes old shown xs) text c.in_default-show.ensures in
    let begun : SinkState = (record { taken = g.K.Sink.taken c.open-2.result.sink; faults = g.K.Sink.faults c.open-2.result.sink }) in
    let mid : SinkState = (record { taken = g.K.Sink.taken c.do_items-progress.result.0.sink; faults = g.K.Sink.faults c.do_items-progress.result.0.sink }) in
    let head : Takes old begun (head_text c.args.trace c.args.request.now.way) = rw c.open-2.ensures.sink took in
    let new : SinkState = (record { taken = g.K.Sink.taken c.finish-finished.new.self.sink; faults = g.K.Sink.faults c.finish-finished.new.self.sink }) in
    log_unfinished ℕ (wanted_of c.args.request.now) c.args.trace c.do_items-progress.result.0.journal.items c.in-Ok-result.machine c.do_items-progress.result.0.rounds old begun mid new c.in-Err-finished.stop head
    (rw c.in-Ok-result.is at c.do_items-progress.ensures.run) c.in-Err-finished.ensures.finished
