use Rattle.std.proofs.Common.{◌≡◌, ◌<◌, length, take, sym, ap, ◌∙◌, arith}
use Rattle.std.proofs.lemmas.List.{take_all}
use Rattle.slub_trace_reader.specs.Above.{with_name, with_names}
use Rattle.slub_trace.specs.Classes.{class_names}
use Rattle.slub_trace_reader.proofs.ClassNames.{are_class_names, names_none, names_then}
use Rattle.slub_trace_reader.proofs.classes.put_classes.Goals as goal

pub loop-class-init : goal.loop-class-init
loop-class-init c = sym (names_none c.args.names.now.keys)

pub loop-class-preserved : goal.loop-class-preserved
loop-class-preserved c =
    let old = c.args.names.now.keys in
    let all = are_class_names.0 in
    let within : c.loop-class.class < length class_names = omega (arith, all, c.loop-class-test.true) in
    let put : c.insert.new.self.keys ≡ with_name c.loop-class.names.keys c.class_name.result = c.in_ok-insert.ensures.keys in
    put ∙ ap (λ ns. with_name ns c.class_name.result) c.loop-class.invariant
    ∙ ap (λ n. with_name (with_names old (take c.loop-class.class class_names)) n) c.class_name.ensures ∙ sym (names_then old class_names c.loop-class.class within)

pub returns : goal.returns
returns c =
    let all = are_class_names.0 in
    c.loop-class.invariant ∙ ap (λ ns. with_names c.args.names.now.keys ns) (take_all c.loop-class.class class_names (omega (arith, all, c.loop-class-test.false)))
