use Rattle.std.proofs.Common.{◌<◌, length, map, string_bytes, arith, sym, ◌∙◌}
use Rattle.std.proofs.lemmas.Grind.{common_steps}
use Rattle.slub_recorded.proofs.Options.{short_value}
use Rattle.slub_recorded.proofs.words.value_of.Goals as goal

pub options-preserved : goal.options-preserved
options-preserved c = rw (c.in-Some.ensures, ← c.if-eq.ensures) at c.options.invariant

pub returns : goal.returns
returns c =
    let short : length (map string_bytes c.options.rest.now) < 2 = grind (arith, common_steps, c.in_default.ensures) in
    sym (short_value c.args.name.now (map string_bytes c.options.rest.now) short) ∙ c.options.invariant
