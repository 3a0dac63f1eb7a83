use Rattle.std.proofs.Common.{◌≡◌, ℕ, ◌<◌, ◌≤◌, get_or}
use Rattle.slub_words.proofs.words.reach_of.Given as goal

-- those behind are 0
abbrev pub invariant-loop-reach : goal.invariant-loop-reach
invariant-loop-reach g l = record {
  inside : (l.from ≤ l.reach) × (l.reach ≤ l.end);
  zeros : (k : ℕ) → l.reach ≤ k → k < l.end → get_or (g.W.Words.all l.words) k 0 ≡ 0;
}

abbrev pub decreases-loop-reach : goal.decreases-loop-reach
decreases-loop-reach g l = l.reach
