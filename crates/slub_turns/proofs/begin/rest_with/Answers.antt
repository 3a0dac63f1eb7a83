use Rattle.std.proofs.Common.{◌∙◌, length, get_or, refl, sym, ap, arith}
use Rattle.std.proofs.lemmas.Bool.{ltb-true, ltb-false}
use Rattle.slub_core.specs.Calls.{call_place}
use Rattle.slub_core.specs.Local.{Local, nobody}
use Rattle.slub_core.specs.Steps.{rested_with}
use Rattle.slub_core.specs.Facts.{setup_of}
use Rattle.slub_turns.proofs.Rested.{rested_over, rested_stays, rested_more, told_here, fewer_calls}
use Rattle.slub_turns.proofs.begin.rest_with.Goals as goal

pub loop-local-smaller : goal.loop-local-smaller
loop-local-smaller c =
    let some = ltb-true 0 (length c.loop-local.local.todo) (sym c.has_call.ensures ∙ c.loop-local-test.true) in
    fewer_calls c.loop-local.local c.answered.new.self c.in-Some.reply c.answered.ensures some

pub loop-local-preserved : goal.loop-local-preserved
loop-local-preserved c = λ means.
    let m = setup_of c.args.setup.now means in
    let l : Local = c.loop-local.local in
    let some = ltb-true 0 (length l.todo) (sym c.has_call.ensures ∙ c.loop-local-test.true) in
    let told = told_here m l c.call-call.result (get_or l.known (call_place c.call-call.result) nobody) c.told_at_once.result c.call-call.ensures refl (c.told_at_once.ensures means) in
    ap (λ (k : Local). rested_with m k.todo k) c.answered.ensures ∙ sym (rested_more m l c.in-Some.reply some (sym c.in-Some.is ∙ told)) ∙ c.loop-local.invariant means

pub returns-in-None : goal.returns-in-None
returns-in-None c = λ means.
    let m = setup_of c.args.setup.now means in
    let l : Local = c.loop-local.local in
    let some = ltb-true 0 (length l.todo) (sym c.has_call.ensures ∙ c.loop-local-test.true) in
    let told = told_here m l c.call-call.result (get_or l.known (call_place c.call-call.result) nobody) c.told_at_once.result c.call-call.ensures refl (c.told_at_once.ensures means) in
    sym (rested_stays m l some (sym c.in-None.is ∙ told)) ∙ c.loop-local.invariant means

pub returns : goal.returns
returns c = λ means.
    let m = setup_of c.args.setup.now means in
    let l : Local = c.loop-local.local in
    let none = ltb-false 0 (length l.todo) (sym c.has_call.ensures ∙ c.loop-local-test.false) in
    sym (rested_over m l (omega (arith, none))) ∙ c.loop-local.invariant means
