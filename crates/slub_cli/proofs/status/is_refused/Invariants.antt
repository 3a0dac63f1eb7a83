use Rattle.std.proofs.Common.{◌≡◌, false, length, take}
use Rattle.std.specs.List.{list_any, zip}
use Rattle.slub_cli.specs.Run.{has_refused}
use Rattle.slub_cli.proofs.status.is_refused.Given as goal

abbrev pub invariant-loop-item : goal.invariant-loop-item
invariant-loop-item l = list_any (λ one. has_refused one.0 one.1) (take (length l.yielded) (zip l.items l.dones)) ≡ false
