-- The caches of a recording: the slot of each, and how many of its objects live at a time.
use Rattle.std.specs.Prelude.{◌≡◌, ℕ, ◌+◌, ◌-◌, ◌<◌, Bool, true, false, min, max, List, [], ◌∷◌, length, map, fold, count_by, slice_get, slice_index, option_map, ◌&&◌, if◌then◌else◌}
use Rattle.std.specs.Option.{option_map_or}
use Rattle.std.specs.Str.{bytes_eq}
use Rattle.std.specs.List.{IsDistinct}
use Rattle.indexmap.specs.IndexSet.{insert_all}
use Rattle.slub_recorded.specs.declared.groups.Cache.{Cache}
use Rattle.slub_recorded.specs.declared.naming.Title.{Title}
use Rattle.slub_recorded.specs.declared.pairing.Born.{Born}
use Rattle.slub_recorded.specs.declared.pairing.Move.{Move}
use Rattle.slub_recorded.specs.declared.pairing.Move.TheVariants as move

-- ---- the objects of a cache

-- the title of the object of this number has this name
abbrev pub is_of : List Title → List ℕ → ℕ → Bool
is_of titles name object =
    option_map_or (λ title. bytes_eq name title.name) (slice_get titles object) false

-- the slot of the first object whose title has this name
abbrev pub slot_of : List Title → List Born → List ℕ → ℕ
slot_of [] objects name = 0
slot_of (title ∷ titles) [] name = 0
slot_of (title ∷ titles) (born ∷ objects) name =
    if bytes_eq name title.name then born.slot else slot_of titles objects name

-- ---- how many live

-- the object of a move
abbrev pub object_of : Move → ℕ
object_of (move.Alloc cpu object) = object
object_of (move.Free cpu object name) = object

-- a move allocates an object
abbrev pub is_alloc : Move → Bool
is_alloc (move.Alloc cpu object) = true
is_alloc (move.Free cpu object name) = false

-- a move allocates one of these objects
abbrev pub allocates : (ℕ → Bool) → Move → Bool
allocates own step = is_alloc step && own (object_of step)

-- how many of these objects live behind a move, where so many did before
abbrev pub live_behind : (ℕ → Bool) → ℕ → Move → ℕ
live_behind own live step =
    if own (object_of step) then (if is_alloc step then live + 1 else live - 1) else live

-- the greatest number of these objects that live at a time, where so many live before the moves
abbrev pub most_live : (ℕ → Bool) → ℕ → List Move → ℕ
most_live own live [] = live
most_live own live (step ∷ moves) =
    max live (most_live own (live_behind own live step) moves)

abbrev pub most_now : Cache → Cache
most_now cache = record cache { most = max cache.most cache.live }

-- the counts of a cache behind an allocation or a free of one of its objects
abbrev pub counted : Bool → Cache → Cache
counted true cache =
    most_now (record cache {
      objects = min (cache.objects + 1) 18446744073709551615;
      live = min (cache.live + 1) 18446744073709551615;
    })
counted false cache = most_now (record cache { live = cache.live - 1 })

-- ---- the caches

-- the cache of this name: its slot is that of the first of its objects
abbrev pub cache_of : List Title → List Born → List Move → List ℕ → Cache
cache_of titles objects moves name = record {
  name = name;
  slot = slot_of titles objects name;
  objects = count_by (allocates (is_of titles name)) moves;
  live = fold (live_behind (is_of titles name)) 0 moves;
  most = most_live (is_of titles name) 0 moves;
}

-- the names of titles, each once, in the order of their first objects
abbrev pub names_of : List Title → List (List ℕ)
names_of titles = insert_all bytes_eq [] (map (λ title. title.name) titles)

-- all caches: one for each name
abbrev pub caches_of : List Title → List Born → List Move → List Cache
caches_of titles objects moves = map (cache_of titles objects moves) (names_of titles)

-- by object: the place of its title's name among these, each of which stands there once
pub record ArePlaces (titles : List Title) (names : List (List ℕ)) (places : List ℕ)
    : Type 0 where
  pub long : length places ≡ length titles
  pub at : (object : ℕ) → object < length titles
      → slice_get names (slice_index places object)
      ≡ option_map (λ title. title.name) (slice_get titles object)
  pub once : IsDistinct bytes_eq names
