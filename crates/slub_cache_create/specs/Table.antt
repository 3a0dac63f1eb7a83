-- What contracts see of a table of caches.
use Rattle.std.specs.Prelude.{◌≡◌, ℕ, List, [], replicate, Option, None, IsSome, MatchOption, slice_index_or, ◌⊎◌}
use Rattle.std.specs.Map.{lookup}
use Rattle.std.specs.Option.{option_map_or}
use Rattle.std.specs.Str.{bytes_eq}
use Rattle.slub_cache_create.specs.declared.caches.Cache.{Cache}

pub record Table : Type 0 where
  -- the names that were given at the opening, in their order
  pub kept : List (List ℕ)
  -- the live names, in the order of their creation, each with the number of its cache
  pub live : List (List ℕ × ℕ)
  -- by number: the live caches; then their numbers, oldest first
  pub caches : List (Option Cache)
  pub ages : List ℕ

-- no cache is live
abbrev pub opening : List (List ℕ) → Table
opening names = record { kept = names; live = []; caches = replicate 32 None; ages = [] }

-- the live cache of a number
abbrev pub cache_of : Table → ℕ → Option Cache
cache_of s cache = slice_index_or s.caches cache None

-- how many live names a live cache has
abbrev pub names_of : Table → ℕ → ℕ
names_of s cache = option_map_or (λ live. live.names) (cache_of s cache) 0

-- the number of the live cache that a name names
abbrev pub number_of : Table → List ℕ → Option ℕ
number_of s name = lookup (bytes_eq name) s.live

-- the name at a place of the kept ones
abbrev pub name_at : Table → ℕ → List ℕ
name_at s place = slice_index_or s.kept place []

-- the cache of this number is live and was made under this name, which may have been dropped since
abbrev pub HasTitle : Table → ℕ → List ℕ → Type 0
HasTitle s cache name = MatchOption (cache_of s cache) ⊥ (λ live. live.title ≡ name)

-- a live cache was made under this name
abbrev pub IsTitle : Table → List ℕ → Type 0
IsTitle s name = (cache : ℕ) × HasTitle s cache name

-- no cache can be made under this name: it is live, or it is a title
abbrev pub IsTaken : Table → List ℕ → Type 0
IsTaken s name = IsSome (number_of s name) ⊎ IsTitle s name
