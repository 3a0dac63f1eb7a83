use Rattle.std.proofs.Common.{◌%◌, arith}
use Rattle.slub_calls.specs.Changes.{has_slab_of}
use Rattle.slub_rounds.proofs.Raised.{cpu-of-slab, raised-all}
use Rattle.slub_rounds.proofs.raising.raise_of_cache.Goals as goal

pub returns : goal.returns
returns c =
    let s = c.args.lists.now in
    raised-all (has_slab_of s c.args.cache) (λ k. k % 16) c.args.step c.args.words.now c.loop-cpu.words c.loop-cpu.cpu c.loop-cpu.invariant (omega (arith, c.loop-cpu.auto.words))
    (λ k below has. omega (arith, cpu-of-slab s c.args.cache k has, c.loop-cpu-test.false, c.cpus-cpu-end.ensures))
