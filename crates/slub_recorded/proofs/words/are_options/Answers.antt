use Rattle.std.proofs.Common.{◌≡◌, ◌<◌, ℕ, ◌==◌, length, map, string_bytes, arith, sym, ap, ◌∙◌}
use Rattle.std.proofs.lemmas.Grind.{common_steps}
use Rattle.slub_recorded.proofs.Options.{short_options}
use Rattle.slub_recorded.proofs.words.are_options.Goals as goal

pub options-preserved : goal.options-preserved
options-preserved c = rw (c.in-Some.ensures, ← c.if-not-may_stand.ensures) at c.options.invariant

pub returns : goal.returns
returns c =
    let counted : length (map string_bytes c.options.rest.now) ≡ length c.options.rest.now = grind (arith, common_steps) in
    let short : length (map string_bytes c.options.rest.now) < 2 = omega (arith, c.in_default.ensures) in
    c.is_empty.ensures ∙ sym (ap (λ (n : ℕ). n == 0) counted) ∙ sym (short_options (map string_bytes c.options.rest.now) short) ∙ c.options.invariant
