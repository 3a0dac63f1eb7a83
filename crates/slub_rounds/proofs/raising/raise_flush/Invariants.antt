use Rattle.std.proofs.Common.{◌/◌}
use Rattle.slub_calls.specs.Changes.{has_slab_on}
use Rattle.slub_rounds.proofs.Raised.{AreRaised}
use Rattle.slub_rounds.proofs.raising.raise_flush.Given as goal

-- the words of the first caches have grown
abbrev pub invariant-loop-cache : goal.invariant-loop-cache
invariant-loop-cache l = AreRaised (has_slab_on l.lists l.cpu) (λ k. k / 16) l.step l.fn.words l.words l.cache
