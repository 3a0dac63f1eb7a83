use Rattle.std.proofs.Common.{sym, ap, ◌∙◌}
use Rattle.slub_core.specs.declared.spot.Spot.TheVariants.{Between, InAlloc}
use Rattle.slub_core.specs.declared.spot.AllocSpot.TheVariants.{LoadCpu}
use Rattle.slub_core.specs.declared.step.Answer.{Answer}
use Rattle.slub_core.specs.Local.{Local, at}
use Rattle.slub_core.specs.Steps.{rested}
use Rattle.slub_core.specs.Facts.{setup_of}
use Rattle.slub_turns.specs.Quick.{quick_to}
use Rattle.slub_turns.proofs.AtFast.{try_ends}
use Rattle.slub_turns.proofs.quick.cpu_loaded.Goals as goal

pub returns-then-is_fast : goal.returns-then-is_fast
returns-then-is_fast c = λ means.
    let m = setup_of c.args.setup.now means in
    let l : Local = c.args.local.now in
    c.left.ensures means ∙ ap (λ (k : Local). rested m (at k Between)) c.set_cpu_word.ensures
    ∙ try_ends m l c.in-Word.word c.cpu_in-word.result c.cpu_in-word.ensures (sym c.is_spent.ensures ∙ c.if-is_spent.false) c.if-word-ne0.false (sym (ap (λ (k : Local). k.fast) c.set_cpu_word.ensures) ∙ sym c.is_fast.ensures ∙ c.if-is_fast.true)
    ∙ ap (λ (a : Answer). quick_to m l (InAlloc LoadCpu) a) (sym c.in-Word.is)
