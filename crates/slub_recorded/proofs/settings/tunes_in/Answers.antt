use Rattle.std.proofs.Common.{◌<◌, length, map, string_bytes, arith}
use Rattle.std.proofs.lemmas.Grind.{common_steps}
use Rattle.slub_recorded.proofs.Options.{last_tune, next_tune}
use Rattle.slub_recorded.proofs.settings.tunes_in.Goals as goal

pub options-preserved : goal.options-preserved
options-preserved c = next_tune _ _ _ c.in-Some.name.now c.in-Some.value.now _ _ c.in-Some.ensures c.in_ok-push_tune.ensures c.options.invariant

pub returns : goal.returns
returns c =
    let short : length (map string_bytes c.options.rest.now) < 2 = grind (arith, common_steps, c.in_default.ensures) in
    last_tune _ _ (map string_bytes c.options.rest.now) short c.options.invariant
