use Rattle.std.proofs.Common.{rules, ◌≡◌, ap, sym, subst, ◌∙◌}
use Rattle.slub_open_close.specs.Beside.{first_links}
use Rattle.slub_open_close.specs.Ids.{IsStepOf}
use Rattle.slub_open_close.proofs.Firsts.{ids-fit}
use Rattle.slub_open_close.proofs.beside.Beside.of.Goals as goal

pub returns-clause-fits : goal.returns-clause-fits
returns-clause-fits c = λ s coherent frames cpus some few are.
    let tids : c.in_ok-tids.tids.items ≡ c.args.ids.now = search rules in
    let links : c.in_ok-links.links.items ≡ first_links c.args.frames = search rules in
    let step : IsStepOf c.args.cpus c.step_of.result = (c.step_of.ensures.power, c.step_of.ensures.least.0, c.step_of.ensures.least.1) in
    ids-fit s _ c.args.ids.now some few are tids (links ∙ ap first_links (sym frames)) (subst (λ n. IsStepOf n c.step_of.result) (sym cpus) step) c.step_of.ensures.few
