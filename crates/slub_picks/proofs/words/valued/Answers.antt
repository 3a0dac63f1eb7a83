use Rattle.std.proofs.Common.{◌≡◌, List, ◌∷◌, map, string_bytes, subst, refl}
use Rattle.slub_picks.specs.Spelling.{Word}
use Rattle.slub_picks.specs.Words.{IsValued}
use Rattle.slub_picks.proofs.Options.{not_equals_front, not_valued}
use Rattle.slub_picks.proofs.words.valued.Goals as goal

pub returns-in_err-after : goal.returns-in_err-after
returns-in_err-after c = rw c.from_residual-in_err-after.ensures (λ value rest is.
    let words : map string_bytes c.args.words.now ≡ c.as_bytes.result.now ∷ map string_bytes c.in_ok-word.rest.now = rw (c.in_ok-word.ensures.cases.0, c.as_bytes.ensures.value) refl in
    not_valued c.args.name.now value c.as_bytes.result.now (map string_bytes c.in_ok-word.rest.now) rest c.in_err-after.ensures (subst (λ (ws : List Word). IsValued c.args.name.now value ws rest) words is))

pub returns-in_default : goal.returns-in_default
returns-in_default c = λ value rest is.
    let words : map string_bytes c.args.words.now ≡ c.as_bytes.result.now ∷ map string_bytes c.in_ok-word.rest.now = rw (c.in_ok-word.ensures.cases.0, c.as_bytes.ensures.value) refl in
    not_equals_front c.args.name.now value c.as_bytes.result.now c.in_ok-after.field-0.now (map string_bytes c.in_ok-word.rest.now) rest c.in_ok-after.ensures c.in-len1-up.len_at_least c.if-c-eq61.false (subst (λ (ws : List Word). IsValued c.args.name.now value ws rest) words is)
