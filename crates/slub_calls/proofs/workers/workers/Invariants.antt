use Rattle.std.proofs.Common.{◌≡◌, ◌++◌, length, map}
use Rattle.std.specs.Vec.Iter.{into_iter_items, into_iter_len}
use Rattle.slub_calls.specs.Share.{gathered}
use Rattle.slub_calls.proofs.workers.workers.Given as goal

-- the first shares are workers
abbrev pub invariant-loop-share : goal.invariant-loop-share
invariant-loop-share l = record {
  opened : l.workers.items ≡ map gathered l.yielded;
  all : l.yielded ++ into_iter_items l.share-iterator ≡ into_iter_items l.initial.share-iterator;
  long : into_iter_len l.share-iterator ≡ length (into_iter_items l.share-iterator);
}
