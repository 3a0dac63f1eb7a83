use Rattle.std.proofs.Common.{◌≡◌, map, vec_capacity}
use Rattle.std.specs.List.{range_with_len}
use Rattle.slub_open_close.specs.Ids.{first_id}
use Rattle.slub_open_close.proofs.ids.Ids.first.Given as goal

-- so many are there
abbrev pub invariant-loop-number : goal.invariant-loop-number
invariant-loop-number l = record {
  ids : l.by_word.items ≡ map (first_id l.first l.cpus) (range_with_len 0 l.number);
  capacity : vec_capacity l.by_word ≡ 512;
}
