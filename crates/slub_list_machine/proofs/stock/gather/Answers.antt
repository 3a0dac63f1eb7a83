use Rattle.std.proofs.Common.{◌≡◌, [], ◌∷◌, ◌++◌, reverse, drop, sym, ◌∙◌, ap, arith}
use Rattle.slub_list_machine.proofs.Gathering.{gather-next, drop-next, take-past, drop-past}
use Rattle.slub_list_machine.proofs.stock.gather.Goals as goal

-- where the node list is empty, all of it was taken
pub returns-in_default-clause-here : goal.returns-in_default-clause-here
returns-in_default-clause-here c =
    let none : drop c.loop.counter c.args.node.now ≡ [] = sym c.loop.invariant.there ∙ c.in_default.ensures.popped.0 in
    c.loop.invariant.here ∙ ap (λ l. reverse l ++ c.args.partial.now) (take-past c.loop.counter c.args.most c.args.node.now none (omega arith))

pub returns-in_default-clause-there : goal.returns-in_default-clause-there
returns-in_default-clause-there c =
    let none : drop c.loop.counter c.args.node.now ≡ [] = sym c.loop.invariant.there ∙ c.in_default.ensures.popped.0 in
    c.in_default.ensures.popped.1 ∙ drop-past c.loop.counter c.args.most c.args.node.now none (omega arith)

pub loop-preserved : goal.loop-preserved
loop-preserved c =
    let next : drop c.loop.counter c.args.node.now ≡ c.in-Some.frame ∷ c.pop.new.self = sym c.loop.invariant.there ∙ c.in-Some.ensures.popped in
    record {
      here = c.push.ensures ∙ ap (λ l. c.in-Some.frame ∷ l) c.loop.invariant.here ∙ gather-next c.loop.counter c.args.node.now c.in-Some.frame c.pop.new.self next c.args.partial.now;
      there = sym (drop-next c.loop.counter c.args.node.now c.in-Some.frame c.pop.new.self next);
    }
