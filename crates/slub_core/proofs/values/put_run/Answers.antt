use Rattle.std.proofs.Common.{◌≡◌, get_or}
use Rattle.std.proofs.lemmas.List.{get_or_read}
use Rattle.slub_core.specs.declared.guarded.Guarded.TheVariants.{Nothing}
use Rattle.slub_core.proofs.Updates.{HasPool-within}
use Rattle.slub_core.proofs.values.put_run.Goals as goal

pub put_run-requires-clause-fits : goal.put_run-requires-clause-fits
put_run-requires-clause-fits c =
    let same : c.index-values-0.result ≡ get_or c.args.values.now 0 Nothing = get_or_read c.args.values.now 0 c.index-values-0.result (HasPool-within c.args.values.now c.requires.pool) c.index-values-0.is Nothing in
    rw (← c.index-values-0.is, same) c.requires.fits
