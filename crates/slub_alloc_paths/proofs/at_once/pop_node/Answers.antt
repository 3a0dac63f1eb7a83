use Rattle.std.proofs.Common.{◌≡◌, true, false, sym, ◌∙◌}
use Rattle.slub_core.specs.Alloc.{asks_for_another}
use Rattle.slub_core.specs.Facts.{setup_of}
use Rattle.slub_core.specs.Values.{values_of}
use Rattle.slub_alloc_paths.proofs.AtOnce.{pop_node-stops, pop_node-pops}
use Rattle.slub_alloc_paths.proofs.at_once.pop_node.Goals as goal

pub returns-then-not-asks_for_another-clause-change : goal.returns-then-not-asks_for_another-clause-change
returns-then-not-asks_for_another-clause-change c = λ means.
    let stop : asks_for_another (setup_of c.args.setup.now means) c.args.local.now ≡ false = sym (c.asks_for_another.ensures means) ∙ c.if-not-asks_for_another.true in
    rw c.at.ensures (pop_node-stops (setup_of c.args.setup.now means) (values_of c.args.values.now) c.args.local.now _ stop)

pub returns-in-Some-clause-change : goal.returns-in-Some-clause-change
returns-in-Some-clause-change c = λ means.
    let more : asks_for_another (setup_of c.args.setup.now means) c.args.local.now ≡ true = sym (c.asks_for_another.ensures means) ∙ c.if-not-asks_for_another.false in
    rw (c.at-in-Some.ensures, c.with_hand.ensures, c.bare_hand.ensures, c.in-Some.ensures.popped.1, c.cache.ensures)
    (pop_node-pops (setup_of c.args.setup.now means) (values_of c.args.values.now) c.args.local.now _ c.in-Some.frame more (rw (← c.cache.ensures) c.in-Some.ensures.popped.0))
