use Rattle.std.proofs.Common.{◌≡◌, ◌++◌, map}
use Rattle.std.specs.List.{range_with_len}
use Rattle.slub_turn_text.specs.Columns.{lane_mark}
use Rattle.slub_turn_text.proofs.columns.push_lane.Given as goal

abbrev pub invariant-loop-place : goal.invariant-loop-place
invariant-loop-place l = l.text.items ≡ l.fn.text.items ++ map (lane_mark l.worker) (range_with_len 0 l.place)
