use Rattle.std.proofs.Common.{◌≡◌, ◌≤◌, ◌⊎◌}
use Rattle.slub_object_layout.proofs.layout.line_of.Given as goal

-- the line is whole, or it has the object in it
abbrev pub invariant-loop-line : goal.invariant-loop-line
invariant-loop-line l =
    (l.line ≡ 64) ⊎ ((l.line ≡ 32) × (l.size ≤ 32)) ⊎ ((l.line ≡ 16) × (l.size ≤ 16)) ⊎ ((l.line ≤ 8) × (l.size ≤ 8))

abbrev pub decreases-loop-line : goal.decreases-loop-line
decreases-loop-line l = l.line
