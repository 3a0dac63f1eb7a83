use Rattle.std.proofs.Common.{◌≡◌, ◌<◌, ℕ, take, get_or, length, sum_by}
use Rattle.std.specs.Prelude.{nat_lt, false}
use Rattle.slub_common.specs.Times.{times}
use Rattle.slub_open_close.proofs.classes.mark_nodes.Given as goal

-- the slabs of the first lists are marked
abbrev pub invariant-loop-node : goal.invariant-loop-node
invariant-loop-node l =
    (frame : ℕ) → frame < length l.fn.marks → get_or l.fn.marks frame false ≡ false → get_or l.marks frame false ≡ nat_lt 0 (sum_by (times frame) (take l.node-index l.nodes))
