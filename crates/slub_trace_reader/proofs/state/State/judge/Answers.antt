use Rattle.std.proofs.Common.{sym, ◌∙◌}
use Rattle.std.proofs.lemmas.Bool.{false≢true}
use Rattle.slub_trace_reader.specs.State.{above}
use Rattle.slub_trace_reader.proofs.Reasons.{first_form, first_reason, fit_line, none_said}
use Rattle.slub_trace_reader.proofs.state.State.judge.Goals as goal

pub returns-in_default-clause-bad : goal.returns-in_default-clause-bad
returns-in_default-clause-bad c =
    first_form (above c.args.self.now) c.args.text.now (λ off. false≢true (c.if-is_after_end.ensures.1 off))
    (λ line says _. none_said c.args.text.now line (sym c.in_default.is ∙ c.requires.said) says)

pub returns-in-None-clause-good : goal.returns-in-None-clause-good
returns-in-None-clause-good c = fit_line (above c.args.self.now) c.args.text.now c.in-Some.line c.requires.modest (sym c.requires.said ∙ c.in-Some.is) c.in-None.ensures

pub returns-in-Some-lacks-clause-bad : goal.returns-in-Some-lacks-clause-bad
returns-in-Some-lacks-clause-bad c =
    first_reason (above c.args.self.now) c.args.text.now c.in-Some.line c.in-Some-lacks.why c.requires.modest (λ off. false≢true (c.if-is_after_end.ensures.1 off))
    (sym c.requires.said ∙ c.in-Some.is) c.in-Some-lacks.ensures
