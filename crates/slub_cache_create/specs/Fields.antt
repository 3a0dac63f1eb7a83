-- The fields of a table of caches.
use Rattle.std.specs.Prelude.{◌≡◌, ◌<◌, [], map, length, slice_index_or, All}
use Rattle.std.specs.List.{IsDistinct}
use Rattle.std.specs.Map.{lookup}
use Rattle.std.specs.Str.{bytes_eq}
use Rattle.slub_cache_create.specs.Table.{Table}
use Rattle.slub_cache_create.specs.Sound.{IsSound}
use Rattle.slub_cache_create.specs.declared.caches.Caches.TheInside.{Inside}

-- the names at these places, and the rest as it is
abbrev pub table_of : Inside → Table
table_of c = record {
  kept = map (λ place. slice_index_or c.kept.keys place []) c.places.items;
  live = c.live.entries;
  caches = c.caches.items;
  ages = c.ages.items;
}

pub record IsKept (c : Inside) : Type 0 where
  pub distinct : IsDistinct bytes_eq c.kept.keys
  -- each place is one of a name, and for each name the number that it names is at hand
  pub places : All (λ place. place < length c.kept.keys) c.places.items
  pub at : c.at.items ≡ map (λ name. lookup (bytes_eq name) c.live.entries) c.kept.keys
  pub sound : IsSound (table_of c)
