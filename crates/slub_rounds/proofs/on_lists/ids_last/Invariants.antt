use Rattle.std.proofs.Common.{ℕ, ◌+◌, ◌^◌, ◌<◌, get_or}
use Rattle.slub_rounds.proofs.on_lists.ids_last.Given as goal

-- the ids so far last
abbrev pub invariant-loop-id : goal.invariant-loop-id
invariant-loop-id l = (k : ℕ) → k < l.id-index → get_or l.words k 0 + l.room < 2 ^ 32
