use Rattle.std.proofs.Common.{◌≡◌, ◌<◌, ◌≤◌, ℕ, List, Err, true, ap, length, arith, subst, sym, Result}
use Rattle.slub_law_replay.proofs.Ready.{opened_machine_ready}
use Rattle.slub_law_replay.specs.Runs.{MachineState}
use Rattle.slub_outcomes.specs.declared.replay.Cut.{Cut}
use Rattle.slub_outcomes.specs.Replays.{AreDone}
use Rattle.slub_outcomes.proofs.Reached.{Reached-begins, Reached-more, Reached-spent, Reached-whole}
use Rattle.slub_outcomes.proofs.replay.do_items.Goals as goal

pub loop-number-init : goal.loop-number-init
loop-number-init g c =
    Reached-begins c.args.seed c.args.trace.now c.args.span.now c.args.opened c.args.text.now.items (opened_machine_ready c.args.trace.now c.requires.sound c.requires.coherent) c.requires.opened c.requires.no_text

pub loop-number-preserved : goal.loop-number-preserved
loop-number-preserved g c =
    let at = c.loop-number in
    let within : at.number < length c.args.trace.now.items = omega (arith, c.loop-number-test.true, c.requires.within) in
    Reached-more c.args.seed c.args.trace.now c.args.span.now at.number at.machine c.in-Ok.after at.text.items c.do_item.new.text.items within at.invariant c.in-Ok.ensures.done

pub returns-in-Err-TurnsSpent : goal.returns-in-Err-TurnsSpent
returns-in-Err-TurnsSpent g c =
    let at = c.loop-number in
    let within : at.number < length c.args.trace.now.items = omega (arith, c.loop-number-test.true, c.requires.within) in
    let spent = ap (λ (e : Cut). let r : Result MachineState Cut = Err e in r) c.in-Err-TurnsSpent.field-0-is in
    let same : c.do_item.new.text.items ≡ at.text.items = c.in-Err-TurnsSpent.ensures.same spent in
    subst (λ (text : List ℕ). AreDone c.args.trace.now c.args.span.now c.args.seed true text) (sym same)
    (Reached-spent c.args.seed c.args.trace.now c.args.span.now at.number at.machine at.text.items c.requires.coherent within c.loop-number-test.true at.invariant (c.in-Err-TurnsSpent.ensures.spent spent))

pub returns : goal.returns
returns g c =
    let at = c.loop-number in
    let all : at.number ≡ c.args.span.now.end = omega (arith, c.loop-number-test.false) in
    let within : at.number ≤ length c.args.trace.now.items = omega (arith, c.requires.within) in
    Reached-whole c.args.seed c.args.trace.now c.args.span.now at.number at.machine at.text.items c.requires.coherent within all at.invariant
