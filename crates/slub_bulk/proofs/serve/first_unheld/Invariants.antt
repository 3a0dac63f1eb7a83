use Rattle.std.proofs.Common.{◌≡◌, [], is_none, take}
use Rattle.std.specs.List.{filter}
use Rattle.slub_lists.specs.Coherent.{held_under}
use Rattle.slub_bulk.proofs.serve.first_unheld.Given as goal

-- all so far are on the board
abbrev pub invariant-loop-number : goal.invariant-loop-number
invariant-loop-number l = filter (λ number. is_none (held_under l.heap.lists number)) (take l.number-index l.numbers) ≡ []
