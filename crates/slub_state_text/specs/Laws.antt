-- What an item does to the live names.
use Rattle.std.specs.Prelude.{◌≡◌, ℕ, List, [], ◌∷◌, ◌++◌, Ok}
use Rattle.std.specs.Map.{remove_entry}
use Rattle.std.specs.Str.{bytes_eq}
use Rattle.slub_object_layout.specs.declared.layout.Spec.{Spec}
use Rattle.slub_cache_create.specs.declared.caches.Created.{Created}
use Rattle.slub_cache_create.specs.declared.caches.Created.TheVariants.{New, Merged}
use Rattle.slub_trace.specs.declared.destroy.Destroyed.{Destroyed}
use Rattle.slub_lists.specs.State.{State}
use Rattle.slub_lists.specs.Create.{CreatesCache}
use Rattle.slub_lists.specs.Destroy.{Destroys}

-- the cache that a name was made one of
abbrev pub cache_made : Created → ℕ
cache_made (New cache) = cache
cache_made (Merged cache) = cache

abbrev pub CreationsAddNames : Type 0
CreationsAddNames =
    (s after : State) (name : List ℕ) (spec : Spec) (created : Created)
    → CreatesCache s name spec created after
    → after.table.live ≡ s.table.live ++ (name, cache_made created) ∷ []

abbrev pub DestructionsTakeNames : Type 0
DestructionsTakeNames =
    (s after : State) (name : List ℕ) (done : Destroyed) → Destroys s name (Ok done) after
    → after.table.live ≡ remove_entry (bytes_eq name) s.table.live
