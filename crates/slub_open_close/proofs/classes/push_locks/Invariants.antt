use Rattle.std.proofs.Common.{◌≡◌, ◌++◌, map, vec_capacity}
use Rattle.std.specs.List.{range_with_len}
use Rattle.slub_open_close.specs.Classes.{no_lock}
use Rattle.slub_open_close.proofs.classes.push_locks.Given as goal

-- so many are there
abbrev pub invariant-loop : goal.invariant-loop
invariant-loop l = record {
  words : l.words.items ≡ l.fn.words.items ++ map no_lock (range_with_len 0 l.counter);
  capacity : vec_capacity l.words ≡ vec_capacity l.fn.words;
}
