use Rattle.std.proofs.Common.{◌≡◌}
use Rattle.std.specs.List.{range_with_len}
use Rattle.slub_rounds.specs.Asked.{StaysOpen}
use Rattle.slub_rounds.specs.Kmalloc.{CreatesClasses}
use Rattle.slub_kmalloc.proofs.serve.kmalloc.Given as goal

abbrev pub invariant-loop-class : goal.invariant-loop-class
invariant-loop-class l = record {
  made : CreatesClasses l.fn.heap l.fn.trace (range_with_len 0 l.class) l.answers.items l.now;
  stays : StaysOpen l.fn.heap l.fn.trace 0 l.now;
  board : l.now.lists.board ≡ l.fn.heap.lists.board;
}
