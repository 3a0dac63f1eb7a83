use Rattle.std.proofs.Common.{[], ◌++◌, ◌∙◌, ap, arith}
use Rattle.std.specs.Fmt.{decimal}
use Rattle.slub_recorded.proofs.Names.{sizes_is}
use Rattle.slub_recorded.proofs.naming.sizes_name.Goals as goal

pub named-requires-clause-front : goal.named-requires-clause-front
named-requires-clause-front c = (sizes_is c.args.asked c.as_slice.result.now (c.as_slice.ensures.value ∙ c.in_ok-front.ensures) (omega arith)).0

pub named-requires-clause-short : goal.named-requires-clause-short
named-requires-clause-short c =
    let size = (sizes_is c.args.asked c.as_slice.result.now (c.as_slice.ensures.value ∙ c.in_ok-front.ensures) (omega arith)).1 in omega (arith, size)

pub returns : goal.returns
returns c = c.in_ok-name.ensures ∙ ap (λ f. f ++ decimal c.args.slot ++ []) (c.as_slice.ensures.value ∙ c.in_ok-front.ensures)
