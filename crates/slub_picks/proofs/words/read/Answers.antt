use Rattle.std.proofs.Common.{◌≡◌, ◌∷◌, map, string_bytes, refl}
use Rattle.slub_picks.proofs.Asking.{bad_request}
use Rattle.slub_picks.proofs.words.read.Goals as goal

pub returns-clause-none : goal.returns-clause-none
returns-clause-none c = λ bad request asks.
    let words : map string_bytes c.args.words.now ≡ c.as_str.result.now ∷ map string_bytes c.in-Some.options.now = rw (c.in-Some.ensures.cases.0, c.as_str.ensures.value) refl in
    bad_request (map string_bytes c.args.words.now) (map string_bytes c.in-Some.options.now) c.as_str.result.now words (c.read_options.ensures.none bad) request asks
