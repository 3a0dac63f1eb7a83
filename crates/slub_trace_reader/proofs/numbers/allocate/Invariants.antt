use Rattle.std.proofs.Common.{◌≡◌, ◌++◌, ◌≤◌, ◌-◌, fold, max}
use Rattle.std.specs.List.{range_with_len}
use Rattle.slub_trace_reader.specs.State.{IsMarked}
use Rattle.slub_trace_reader.proofs.numbers.allocate.Given as goal

abbrev pub invariant-loop-object : goal.invariant-loop-object
invariant-loop-object l = record {
  low : l.fn.first ≤ l.object;
  put : l.objects.keys ≡ l.fn.objects.keys ++ range_with_len l.fn.first (l.object - l.fn.first);
  marked : IsMarked l.objects;
  greatest : l.most ≡ fold max 0 l.objects.keys;
}
