use Rattle.std.proofs.Common.{◌≡◌, ◌+◌, ◌-◌, ◌++◌, vec_len, vec_capacity}
use Rattle.std.specs.List.{slice_range}
use Rattle.slub_words.proofs.words.put_words.Given as goal

-- those before this place are put
abbrev pub invariant-loop-at : goal.invariant-loop-at
invariant-loop-at g l =
    (l.items.items ≡ l.fn.items.items ++ slice_range (g.W.Words.all l.words) l.from l.at)
    × (vec_len l.items ≡ vec_len l.fn.items + (l.at - l.from))
    × (vec_capacity l.items ≡ vec_capacity l.fn.items)
