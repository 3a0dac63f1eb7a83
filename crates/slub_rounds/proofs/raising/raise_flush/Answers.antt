use Rattle.std.proofs.Common.{◌/◌, arith}
use Rattle.slub_calls.specs.Changes.{has_slab_on}
use Rattle.slub_rounds.proofs.Raised.{raised-all}
use Rattle.slub_rounds.proofs.raising.raise_flush.Goals as goal

pub returns : goal.returns
returns c =
    raised-all (has_slab_on c.args.lists.now c.args.cpu) (λ k. k / 16) c.args.step c.args.words.now c.loop-cache.words c.loop-cache.cache c.loop-cache.invariant (omega (arith, c.loop-cache.auto.words))
    (λ k below has. omega (arith, below, c.loop-cache-test.false, c.requires.count))
