use Rattle.slub_picks.specs.List.{IsPart}
use Rattle.slub_picks.proofs.Saying.{bad_of, one_part, read_last, read_more, unread_last, unread_more}
use Rattle.slub_picks.proofs.list.read_parts.Goals as goal

pub returns-in_err-part-clause-none : goal.returns-in_err-part-clause-none
returns-in_err-part-clause-none c =
    λ bad whole said.
    let why = bad_of c.from_residual.result _ c.from_residual.ensures bad in
    unread_more IsPart 47 c.args.text.now c.parts.rest.now c.in-Some.front.now c.in-Some.behind.now c.parts.parts.items whole c.parts.invariant c.in-Some.ensures.0 c.in-Some.ensures.1 (c.in_err-part.ensures.none why) said

pub parts-preserved : goal.parts-preserved
parts-preserved c =
    rw c.in_ok-push.ensures.items (read_more IsPart one_part 47 c.args.text.now c.parts.rest.now c.in-Some.front.now c.in-Some.behind.now c.parts.parts.items c.in_ok-part.part c.parts.invariant c.in-Some.ensures.0 c.in-Some.ensures.1 c.in_ok-part.ensures.said)

pub returns-in_err-part-2-clause-none : goal.returns-in_err-part-2-clause-none
returns-in_err-part-2-clause-none c =
    λ bad whole said.
    let why = bad_of c.from_residual-in_err-part-2.result _ c.from_residual-in_err-part-2.ensures bad in
    unread_last IsPart 47 c.args.text.now c.parts.rest.now c.parts.parts.items whole c.parts.invariant c.in_default.ensures (c.in_err-part-2.ensures.none why) said

pub returns-clause-said : goal.returns-clause-said
returns-clause-said c =
    rw c.in_ok-push-2.ensures.items (read_last IsPart 47 c.args.text.now c.parts.rest.now c.parts.parts.items c.in_ok-part-2.part c.parts.invariant c.in_default.ensures c.in_ok-part-2.ensures.said)
