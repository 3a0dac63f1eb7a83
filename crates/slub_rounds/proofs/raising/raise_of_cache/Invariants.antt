use Rattle.std.proofs.Common.{◌%◌}
use Rattle.slub_calls.specs.Changes.{has_slab_of}
use Rattle.slub_rounds.proofs.Raised.{AreRaised}
use Rattle.slub_rounds.proofs.raising.raise_of_cache.Given as goal

-- the words of the first CPUs have grown
abbrev pub invariant-loop-cpu : goal.invariant-loop-cpu
invariant-loop-cpu l = AreRaised (has_slab_of l.lists l.cache) (λ k. k % 16) l.step l.fn.words l.words l.cpu
