use Rattle.std.proofs.Common.{◌≡◌, ◌+◌, ◌++◌, replicate, vec_len, vec_capacity}
use Rattle.slub_words.proofs.memory.store_up_to.Given as goal

-- so many are stored
abbrev pub invariant-loop : goal.invariant-loop
invariant-loop g l =
    (l.items.items ≡ l.initial.items.items ++ replicate l.counter l.value)
    × (vec_len l.items ≡ vec_len l.initial.items + l.counter)
    × (vec_capacity l.items ≡ vec_capacity l.initial.items)
