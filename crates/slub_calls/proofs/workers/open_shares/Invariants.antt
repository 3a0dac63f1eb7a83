use Rattle.std.proofs.Common.{◌≡◌, map}
use Rattle.std.specs.List.{range_with_len}
use Rattle.slub_core.specs.Run.{idle}
use Rattle.slub_calls.specs.Share.{gathered}
use Rattle.slub_calls.proofs.workers.open_shares.Given as goal

abbrev pub invariant-loop-worker : goal.invariant-loop-worker
invariant-loop-worker l = map gathered l.shares.items ≡ map (λ worker. record idle { worker = worker }) (range_with_len 0 l.worker)
