use Rattle.std.proofs.Common.{◌≡◌, ◌<◌, [], length, map, get_or, take, All}
use Rattle.std.specs.List.{IsDistinct}
use Rattle.std.specs.Str.{bytes_eq}
use Rattle.slub_cache_create.proofs.caches.open_places.Given as goal

-- the places so far are those of the names so far
abbrev pub invariant-loop-name : goal.invariant-loop-name
invariant-loop-name l = record {
  distinct : IsDistinct bytes_eq l.kept.keys;
  within : All (λ place. place < length l.kept.keys) l.places.items;
  names : map (λ place. get_or l.kept.keys place []) l.places.items ≡ take l.name-index l.names;
}
