use Rattle.std.proofs.Common.{◌≡◌, map}
use Rattle.std.specs.List.{range_with_len}
use Rattle.slub_turn_text.specs.Labels.{share_of}
use Rattle.slub_turn_text.proofs.labels.shares_of.Given as goal

abbrev pub invariant-loop-worker : goal.invariant-loop-worker
invariant-loop-worker l = l.shares ≡ map (share_of l.events) (range_with_len 0 l.worker)
