use Rattle.std.proofs.Common.{◌≡◌, ◌<◌, ℕ, ◌==◌, length, map, string_bytes, arith, sym, ap, ◌∙◌, false}
use Rattle.std.proofs.lemmas.Grind.{common_steps}
use Rattle.std.specs.Option.{is_some}
use Rattle.slub_outcomes.specs.Words.{value_of}
use Rattle.slub_outcomes.proofs.Options.{none_behind, short_options}
use Rattle.slub_outcomes.proofs.words.are_options.Goals as goal

pub options-preserved : goal.options-preserved
options-preserved c =
    let none : is_some (value_of c.in-Some.name.now (map string_bytes c.in-Some.others.now)) ≡ false = none_behind _ _ _ c.value_of.ensures c.if-is_some.ensures in
    rw (c.in-Some.ensures, ← c.if-not-is_name.ensures, none) at c.options.invariant

pub returns : goal.returns
returns c =
    let counted : length (map string_bytes c.options.rest.now) ≡ length c.options.rest.now = grind (arith, common_steps) in
    let short : length (map string_bytes c.options.rest.now) < 2 = omega (arith, c.in_default.ensures) in
    c.is_empty.ensures ∙ sym (ap (λ (n : ℕ). n == 0) counted) ∙ sym (short_options (map string_bytes c.options.rest.now) short) ∙ c.options.invariant
