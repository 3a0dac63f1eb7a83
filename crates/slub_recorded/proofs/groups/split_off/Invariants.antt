use Rattle.std.proofs.Common.{◌≡◌, [], ◌++◌, map, take, drop}
use Rattle.slub_recorded.specs.Groups.{IsSplit}
use Rattle.slub_recorded.specs.Members.{left_over, need_of, packed}
use Rattle.slub_recorded.proofs.groups.split_off.Given as goal

abbrev pub invariant-loop-cache : goal.invariant-loop-cache
invariant-loop-cache l = record {
  split : IsSplit (take l.cache-index l.caches) l.split;
  taken : packed (map need_of l.split.taken.items) (map need_of (drop l.cache-index l.caches)) ≡ packed [] (map need_of l.caches);
  others : map need_of l.split.others.items ++ left_over (map need_of l.split.taken.items) (map need_of (drop l.cache-index l.caches)) ≡ left_over [] (map need_of l.caches);
}
