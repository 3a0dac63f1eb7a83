use Rattle.slub_words.proofs.Stored.{zeros-behind}
use Rattle.slub_words.proofs.words.reach_of.Goals as goal

pub returns-else-word-eq0-clause-zeros : goal.returns-else-word-eq0-clause-zeros
returns-else-word-eq0-clause-zeros g c =
    let inv = c.loop-reach.invariant in
    zeros-behind (g.W.Words.all c.args.words.now) c.args.from c.loop-reach.reach c.args.end inv.inside.0 inv.inside.1 c.requires.1 inv.zeros

pub returns-after-loop-reach-clause-zeros : goal.returns-after-loop-reach-clause-zeros
returns-after-loop-reach-clause-zeros g c =
    let inv = c.loop-reach.invariant in
    zeros-behind (g.W.Words.all c.args.words.now) c.args.from c.loop-reach.reach c.args.end inv.inside.0 inv.inside.1 c.requires.1 inv.zeros
