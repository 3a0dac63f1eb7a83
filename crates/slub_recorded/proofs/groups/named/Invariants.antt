use Rattle.std.proofs.Common.{◌≡◌, ℕ, ◌<◌, [], map, take, length, slice_get}
use Rattle.std.specs.Prelude.{option_map, slice_index}
use Rattle.std.specs.Str.{bytes_eq}
use Rattle.indexmap.specs.IndexSet.{insert_all}
use Rattle.slub_recorded.specs.Caches.{cache_of}
use Rattle.slub_recorded.proofs.groups.named.Given as goal

abbrev pub invariant-loop-object : goal.invariant-loop-object
invariant-loop-object l = record {
  keys : l.names.keys ≡ insert_all bytes_eq [] (map (λ t. t.name) (take l.object l.titles));
  caches : l.caches.items ≡ map (cache_of l.titles l.objects []) l.names.keys;
  long : length l.places.items ≡ l.object;
  at : (k : ℕ) → k < l.object → slice_get l.names.keys (slice_index l.places.items k) ≡ option_map (λ t. t.name) (slice_get l.titles k);
}
