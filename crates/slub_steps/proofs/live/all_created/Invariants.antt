use Rattle.std.proofs.Common.{◌≡◌, length, take}
use Rattle.std.specs.List.{fold, zip}
use Rattle.slub_steps.specs.Live.{live_next}
use Rattle.slub_steps.proofs.live.all_created.Given as goal

abbrev pub invariant-loop-name : goal.invariant-loop-name
invariant-loop-name l = l.live ≡ fold live_next l.fn.live (take (length l.yielded) (zip l.names l.answers))
