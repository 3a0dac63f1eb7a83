-- The classes of sizes of `kmalloc`, and their caches.
use Rattle.std.specs.Prelude.{ℕ, ◌==◌, false, List, [], ◌∷◌, Option, None, if◌then◌else◌, nat_le, position, slice_index}
use Rattle.std.specs.Option.{option_map}
use Rattle.slub_object_layout.specs.declared.layout.Flags.{Flags}
use Rattle.slub_object_layout.specs.declared.layout.Spec.{Spec}

-- their sizes, in rising order (`kmalloc_info`)
unfoldable pub class_sizes : List ℕ
class_sizes =
    8 ∷ 16 ∷ 32 ∷ 64 ∷ 96 ∷ 128 ∷ 192 ∷ 256 ∷ 512 ∷ 1024 ∷ 2048 ∷ 4096 ∷ 8192 ∷ []

-- the alignments of their caches: the size where it is a power of two and at most 4096, and else 8
unfoldable pub class_aligns : List ℕ
class_aligns =
    8 ∷ 16 ∷ 32 ∷ 64 ∷ 8 ∷ 128 ∷ 8 ∷ 256 ∷ 512 ∷ 1024 ∷ 2048 ∷ 4096 ∷ 8 ∷ []

-- the place of the first class that isn't below a size above 0
abbrev pub class_place : ℕ → Option ℕ
class_place size =
    if size == 0 then None else position (λ class. nat_le size class) class_sizes

-- that class
abbrev pub class_of : ℕ → Option ℕ
class_of size = option_map (slice_index class_sizes) (class_place size)

abbrev pub no_flags : Flags
no_flags = record {
  line = false;
  reclaim = false;
  checks = false;
  zones = false;
  poison = false;
  user = false;
  trace = false;
  fail = false;
}

-- what the cache of the class at a place is asked to be
abbrev pub class_spec : ℕ → Spec
class_spec place = record {
  size = slice_index class_sizes place;
  align = slice_index class_aligns place;
  flags = no_flags;
}
