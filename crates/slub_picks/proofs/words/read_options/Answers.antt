use Rattle.std.proofs.Common.{◌<◌, length, map, string_bytes, arith}
use Rattle.std.proofs.lemmas.Grind.{common_steps}
use Rattle.slub_picks.proofs.Asking.{asked_more, asked_no_more, asked_twice}
use Rattle.slub_picks.proofs.Saying.{bad_of}
use Rattle.slub_picks.proofs.words.read_options.Goals as goal

pub returns-in_err-said-clause-none : goal.returns-in_err-said-clause-none
returns-in_err-said-clause-none c = λ bad request for.
    let some : 0 < length (map string_bytes c.options.rest.now) = grind (arith, common_steps, c.is_empty.ensures, c.options-test.ensures) in
    asked_no_more (map string_bytes c.args.words.now) (map string_bytes c.options.rest.now) c.options.asked request c.options.invariant some (c.in_err-said.ensures.none (bad_of c.from_residual.result _ c.from_residual.ensures bad)) for

pub returns-in_err-put-clause-none : goal.returns-in_err-put-clause-none
returns-in_err-put-clause-none c = λ bad request for.
    asked_twice (map string_bytes c.args.words.now) (map string_bytes c.options.rest.now) (map string_bytes c.in_ok-said.behind.now) c.in_ok-said.said c.options.asked request c.options.invariant c.in_ok-said.ensures.said c.in_err-put.ensures.none.1 for

pub options-preserved : goal.options-preserved
options-preserved c =
    asked_more (map string_bytes c.args.words.now) (map string_bytes c.options.rest.now) (map string_bytes c.in_ok-said.behind.now) c.in_ok-said.said c.options.asked c.put.new.self c.options.invariant c.in_ok-said.ensures.said c.in_ok-put.ensures.put
