use Rattle.std.proofs.Common.{◌≡◌, ◌≤◌, [], length, map, take, get_or, vec_capacity}
use Rattle.slub_list_machine.proofs.node.count_free.Given as goal

-- so many are counted
abbrev pub invariant-loop-frame : goal.invariant-loop-frame
invariant-loop-frame l = record {
  counted : l.counts.items ≡ map (λ frame. length (get_or l.frees frame [])) (take l.frame-index l.frames);
  same_capacity : vec_capacity l.fn.counts ≤ vec_capacity l.counts;
}
