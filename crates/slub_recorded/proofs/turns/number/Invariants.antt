use Rattle.std.proofs.Common.{◌≡◌, take}
use Rattle.slub_recorded.specs.Turns.{count_kept, numbered}
use Rattle.slub_recorded.proofs.turns.number.Given as goal

abbrev pub invariant-loop-place : goal.invariant-loop-place
invariant-loop-place l = record {
  kept : l.kept.items ≡ numbered 0 (take l.place-index l.places);
  count : l.count ≡ count_kept (take l.place-index l.places);
}
