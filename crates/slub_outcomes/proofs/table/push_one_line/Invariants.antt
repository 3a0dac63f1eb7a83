use Rattle.std.proofs.Common.{◌≡◌, ◌++◌, take, flat_map}
use Rattle.slub_outcomes.specs.Table.{on_line}
use Rattle.slub_outcomes.proofs.table.push_one_line.Given as goal

abbrev pub invariant-loop-c : goal.invariant-loop-c
invariant-loop-c l = l.text.items ≡ l.fn.text.items ++ flat_map on_line (take l.c-index l.c-items)
