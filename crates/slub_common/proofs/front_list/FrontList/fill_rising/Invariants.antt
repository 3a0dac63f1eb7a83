use Rattle.std.proofs.Common.{◌≡◌, ◌-◌}
use Rattle.std.specs.List.{range_with_len}
use Rattle.slub_common.proofs.front_list.FrontList.fill_rising.Given as goal

-- the last numbers stand there in rising order
abbrev pub invariant-loop-item : goal.invariant-loop-item
invariant-loop-item g l = l.self ≡ range_with_len l.item (l.fn.count - l.item)
