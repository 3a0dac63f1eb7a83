use Rattle.std.proofs.Common.{◌≡◌, ◌+◌, ◌-◌, ◌^◌, ℕ, Bool, min, get_or, ap, subst, ◌∙◌}
use Rattle.slub_round_log.specs.Log.{SinkState}
use Rattle.slub_steps.specs.Inner.{OpensAs, WritesPlain, wanted_by}
use Rattle.slub_steps.specs.Sayers.{sayer_of}
use Rattle.slub_steps.specs.Written.{lines_before, shared_before}
use Rattle.slub_steps.proofs.Doing.{plain_item, round_item}
use Rattle.slub_law_replay.specs.declared.way.Way.TheVariants.{Schedule}
use Rattle.slub_steps.proofs.Ends.{none_by, plain_does}
use Rattle.slub_steps.proofs.Putting.{counts-plain, counts-round, item-here, round-here}
use Rattle.slub_steps.proofs.replay.do_one.Goals as goal

pub do_round-requires : goal.do_round-requires
do_round-requires g c =
    let at : c.index-as_slice-number.result ≡ get_or c.args.trace.now.items c.args.number c.index-as_slice-number.result = rw (← c.as_slice.ensures) c.index-as_slice-number.is in
    record {
      sound = c.requires.sound;
      ready = c.requires.ready;
      few = c.requires.few;
      here = round-here c.args.trace.now c.args.number _ c.in-Round.round c.requires.within at c.in-Round.is;
    }

pub returns-in-Round-clause-counted : goal.returns-in-Round-clause-counted
returns-in-Round-clause-counted g c =
    let at : c.index-as_slice-number.result ≡ get_or c.args.trace.now.items c.args.number c.index-as_slice-number.result = rw (← c.as_slice.ensures) c.index-as_slice-number.is in
    counts-round c.args.machine c.args.trace.now c.args.number c.in-Round.round _ c.requires.sound c.requires.ready (round-here c.args.trace.now c.args.number _ c.in-Round.round c.requires.within at c.in-Round.is) c.do_round.ensures.done c.do_round.ensures.ready

pub returns-in_default-clause-counted : goal.returns-in_default-clause-counted
returns-in_default-clause-counted g c =
    counts-plain (Schedule 0) c.args.machine c.args.trace.now c.args.number _ c.requires.sound c.requires.ready (plain_does c.args.trace.now c.args.number c.args.machine c.is_none-is_shown.result _ _ c.do_plain-result.result c.do_plain-result.ensures.written) c.do_plain-result.ensures.ready

pub returns-in-Round-clause-written : goal.returns-in-Round-clause-written
returns-in-Round-clause-written g c =
    let at : c.index-as_slice-number.result ≡ get_or c.args.trace.now.items c.args.number c.index-as_slice-number.result = rw (← c.as_slice.ensures) c.index-as_slice-number.is in
    let old : SinkState = (record { taken = g.K.Sink.taken c.args.sink; faults = g.K.Sink.faults c.args.sink }) in
    let new : SinkState = (record { taken = g.K.Sink.taken c.do_round.result.0; faults = g.K.Sink.faults c.do_round.result.0 }) in
    let S : ℕ → ℕ → Type 0 = λ a b. OpensAs (sayer_of c.args.plan.way.now a b c.in-Round.round) c.in-Round.round.workers c.choice_of-choice.result in
    let lines : ℕ = lines_before c.args.trace.now c.args.number in
    let several : ℕ = shared_before c.args.trace.now c.args.number in
    let opens : S lines several =
    subst (λ (a : ℕ). S a several) c.requires.before.lines (subst (λ (b : ℕ). S c.args.before.lines b) c.requires.before.several c.choice_of-choice.ensures) in
    round_item (wanted_by c.args.plan) c.args.trace.now c.args.number c.saturating_add-line.result c.shows.result c.in-Round.round c.args.live.now c.args.machine old new c.do_round.result.1
    (round-here c.args.trace.now c.args.number _ c.in-Round.round c.requires.within at c.in-Round.is)
    (c.saturating_add-line.ensures ∙ ap (λ (n : ℕ). min (n + 1) (2 ^ 32 - 1)) c.requires.before.lines) c.shows.ensures
    (c.do_round.ensures.written (sayer_of c.args.plan.way.now lines several c.in-Round.round) opens)

pub returns-in_default-clause-written : goal.returns-in_default-clause-written
returns-in_default-clause-written g c =
    let at : c.index-as_slice-number.result ≡ get_or c.args.trace.now.items c.args.number c.index-as_slice-number.result = rw (← c.as_slice.ensures) c.index-as_slice-number.is in
    let old : SinkState = (record { taken = g.K.Sink.taken c.args.sink; faults = g.K.Sink.faults c.args.sink }) in
    let new : SinkState = (record { taken = g.K.Sink.taken c.do_plain-result.new.sink; faults = g.K.Sink.faults c.do_plain-result.new.sink }) in
    plain_item (wanted_by c.args.plan) c.args.trace.now c.args.number c.index-as_slice-number.result c.args.live.now c.args.machine old new c.do_plain-result.result
    (item-here c.args.trace.now c.args.number c.index-as_slice-number.result c.requires.within at) c.in_default.not-Round
    (subst (λ (b : Bool). WritesPlain c.args.trace.now c.args.number c.args.machine b old new c.do_plain-result.result) (none_by c.args.plan.round c.is_none-is_shown.result c.is_none-is_shown.ensures) c.do_plain-result.ensures.written)
