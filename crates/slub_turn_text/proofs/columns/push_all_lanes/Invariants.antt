use Rattle.std.proofs.Common.{◌≡◌, ◌++◌, map}
use Rattle.std.specs.List.{range_with_len}
use Rattle.slub_turn_text.specs.Columns.{lane_digit}
use Rattle.slub_turn_text.proofs.columns.push_all_lanes.Given as goal

abbrev pub invariant-loop-place : goal.invariant-loop-place
invariant-loop-place l = l.text.items ≡ l.fn.text.items ++ map lane_digit (range_with_len 0 l.place)
