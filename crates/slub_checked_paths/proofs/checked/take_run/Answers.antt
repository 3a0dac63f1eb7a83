use Rattle.std.proofs.Common.{ℕ, ap, ◌∙◌}
use Rattle.slub_core.specs.Facts.{setup_of, cache_of}
use Rattle.slub_core.specs.Values.{values_of}
use Rattle.slub_checked_paths.proofs.AtOnce.{take_run-some, take_run-none}
use Rattle.slub_checked_paths.proofs.checked.take_run.Goals as goal

pub returns-in-Some-clause-change : goal.returns-in-Some-clause-change
returns-in-Some-clause-change c = λ means.
    rw (c.set_run.ensures, c.at.ensures, c.way_of_found.ensures, c.take_run-found.ensures.after)
    (take_run-some (setup_of c.args.setup.now means) (values_of c.args.values.now) c.args.local.now _ c.layout-layout.result c.take_run-found.result
    (c.layout-layout.ensures.layout ∙ ap (λ (n : ℕ). (cache_of c.args.setup.now n).layout) c.cache.ensures) (c.take_run-found.ensures.found (setup_of c.args.setup.now means)) c.in-Some.field-0 c.in-Some.is)

pub returns-in-None-clause-change : goal.returns-in-None-clause-change
returns-in-None-clause-change c = λ means.
    rw (c.at.ensures, c.way_of_found.ensures, c.take_run-found.ensures.after)
    (take_run-none (setup_of c.args.setup.now means) (values_of c.args.values.now) c.args.local.now _ c.layout-layout.result c.take_run-found.result
    (c.layout-layout.ensures.layout ∙ ap (λ (n : ℕ). (cache_of c.args.setup.now n).layout) c.cache.ensures) (c.take_run-found.ensures.found (setup_of c.args.setup.now means)) c.in-None.is)
