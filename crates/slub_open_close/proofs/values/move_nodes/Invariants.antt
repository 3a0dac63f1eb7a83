use Rattle.std.proofs.Common.{◌≡◌, ℕ, ◌+◌, ◌<◌, ◌≤◌, ◌++◌, length, drop, get_or, map, reverse, vec_capacity, None}
use Rattle.std.specs.List.{range_with_len}
use Rattle.slub_core.specs.Values.{value_in, room_in}
use Rattle.slub_open_close.specs.Values.{value_at, room_at, AreKept}
use Rattle.slub_open_close.proofs.values.move_nodes.Given as goal

-- those of the first caches are moved, the others stand there still
abbrev pub invariant-loop-cache : goal.invariant-loop-cache
invariant-loop-cache l = record {
  nodes : l.nodes.items ≡ reverse (drop l.cache l.fn.nodes.items);
  nodes_capacity : vec_capacity l.nodes ≡ vec_capacity l.fn.nodes;
  checked_count : length l.checked.items ≡ 32;
  still : (k : ℕ) → l.cache ≤ k → get_or l.checked.items k None ≡ get_or l.fn.checked.items k None;
  taken : (k : ℕ) → k < l.cache → get_or l.checked.items k None ≡ None;
  values : map value_in l.values.items ≡ map value_in l.fn.values.items ++ map (value_at l.table l.fn.nodes.items l.fn.checked.items) (range_with_len 0 l.cache);
  rooms : map room_in l.values.items ≡ map room_in l.fn.values.items ++ map (room_at l.table l.fn.checked.items) (range_with_len 0 l.cache);
  count : length l.values.items ≡ length l.fn.values.items + l.cache;
  capacity : vec_capacity l.values ≡ vec_capacity l.fn.values;
  kept_count : length l.kept.items ≡ l.cache;
  kept_capacity : vec_capacity l.kept ≡ vec_capacity l.fn.kept;
  kept : AreKept l.table l.fn.nodes.items l.fn.checked.items l.kept.items;
}
