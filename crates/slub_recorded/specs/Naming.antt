-- The name of each object's cache.
use Rattle.std.specs.Prelude.{ℕ, ◌/◌, ◌%◌, ◌==◌, Bool, false, ◌&&◌, nat_eq, nat_le, List, [], ◌∷◌, ◌++◌, map, fold, length, replicate, slice_get, slice_index_or, slice_set, Option, None, Some, option_map, unwrap_or, codes, if◌then◌else◌}
use Rattle.std.specs.Fmt.{decimal}
use Rattle.std.specs.Map.{lookup}
use Rattle.std.specs.Option.{option_or}
use Rattle.indexmap.specs.IndexMap.{insert_entry}
use Rattle.slub_recording.specs.declared.event.KmallocKind.{KmallocKind}
use Rattle.slub_recording.specs.declared.event.KmallocKind.TheVariants.{Normal, Accounted, Reclaimable, Dma}
use Rattle.slub_recorded.specs.declared.naming.Known.{Known}
use Rattle.slub_recorded.specs.declared.naming.Namer.{Namer}
use Rattle.slub_recorded.specs.declared.naming.Namer.TheVariants as namer
use Rattle.slub_recorded.specs.declared.naming.Title.{Title}
use Rattle.slub_recorded.specs.declared.pairing.Born.{Born}
use Rattle.slub_recorded.specs.declared.pairing.Move.{Move}
use Rattle.slub_recorded.specs.declared.pairing.Move.TheVariants as move
use Rattle.slub_recorded.specs.declared.pairing.Origin.{Origin}
use Rattle.slub_recorded.specs.declared.pairing.Origin.TheVariants as origin

-- ---- names of sizes

-- how the names of a kind of kmalloc cache begin (`kmalloc_info`)
abbrev pub kind_text : KmallocKind → List ℕ
kind_text Normal = codes "kmalloc-"
kind_text Accounted = codes "kmalloc-cg-"
kind_text Reclaimable = codes "kmalloc-rcl-"
kind_text Dma = codes "dma-kmalloc-"

-- the name of a kmalloc cache: its slot in bytes, or in units of 1024 bytes with a k
-- (`kmalloc_info`)
abbrev pub kmalloc_text : ℕ → KmallocKind → List ℕ
kmalloc_text slot kind =
    if nat_le 1024 slot && (slot % 1024 == 0)
    then kind_text kind ++ decimal (slot / 1024) ++ codes "k"
    else kind_text kind ++ decimal slot ++ []

-- the name of a cache of which only the sizes are known: that of its objects, and its slot
-- (profile)
abbrev pub sizes_text : ℕ → ℕ → List ℕ
sizes_text asked slot = codes "slab-" ++ decimal asked ++ 45 ∷ [] ++ decimal slot ++ []

-- ---- the slots of names

-- by name: the slot of the first object whose free says it, in bytes, where an object's free says
-- this name
abbrev pub with_slot : List (Option ℕ) → ℕ → Option Born → List (Option ℕ)
with_slot slots name None = slots
with_slot slots name (Some born) =
    slice_set slots name (Some (unwrap_or (slice_index_or slots name None) born.slot))

-- the same, behind one move more
abbrev pub slots_after : List Born → List (Option ℕ) → Move → List (Option ℕ)
slots_after objects slots (move.Alloc cpu object) = slots
slots_after objects slots (move.Free cpu object None) = slots
slots_after objects slots (move.Free cpu object (Some name)) =
    with_slot slots name (slice_get objects object)

-- by name, of so many names: the slot of the first object whose free says it
abbrev pub name_slots : ℕ → List Born → List Move → List (Option ℕ)
name_slots names objects moves = fold (slots_after objects) (replicate names None) moves

-- the slot that a move tells of a name: that of the object, of a free that says it
abbrev pub told_slot : List Born → ℕ → Move → Option ℕ
told_slot objects name (move.Alloc cpu object) = None
told_slot objects name (move.Free cpu object None) = None
told_slot objects name (move.Free cpu object (Some said)) =
    if name == said then option_map (λ born. born.slot) (slice_get objects object) else None

-- the slot that the first of these moves tells that tells one
abbrev pub first_slot : List Born → ℕ → List Move → Option ℕ
first_slot objects name [] = None
first_slot objects name (step ∷ moves) =
    option_or (told_slot objects name step) (first_slot objects name moves)

-- ---- the names that frees say

-- whether a slot is known, and this one
abbrev pub is_slot : Option ℕ → ℕ → Bool
is_slot None slot = false
is_slot (Some known) slot = known == slot

-- an object whose free says this name: a name of another slot doesn't name it
abbrev pub with_own : List (Option ℕ) → List Known → ℕ → ℕ → Option Known → List Known
with_own slots known object name None = known
with_own slots known object name (Some one) =
    if is_slot (slice_index_or slots name None) one.born.slot
    then slice_set known object (record one { own = Some name })
    else known

-- the objects with the names that their own frees say, behind one move more
abbrev pub own_after : List (Option ℕ) → List Known → Move → List Known
own_after slots known (move.Alloc cpu object) = known
own_after slots known (move.Free cpu object None) = known
own_after slots known (move.Free cpu object (Some name)) =
    with_own slots known object name (slice_get known object)

-- an object of which nothing is known yet
abbrev pub unnamed : Born → Known
unnamed born = record { born = born; own = None }

-- the objects with the names that their own frees say, by the slots of names
abbrev pub known_objects : List (Option ℕ) → List Born → List Move → List Known
known_objects slots objects moves = fold (own_after slots) (map unnamed objects) moves

-- the name that a move says of an object of this slot: that of its free, where the name has this
-- slot
abbrev pub told_own : List (Option ℕ) → ℕ → ℕ → Move → Option ℕ
told_own slots object slot (move.Alloc cpu other) = None
told_own slots object slot (move.Free cpu other None) = None
told_own slots object slot (move.Free cpu other (Some name)) =
    if object == other && is_slot (slice_index_or slots name None) slot then Some name else None

-- the name that the last of these moves says that says one
abbrev pub last_own : List (Option ℕ) → ℕ → ℕ → List Move → Option ℕ
last_own slots object slot [] = None
last_own slots object slot (step ∷ moves) =
    option_or (last_own slots object slot moves) (told_own slots object slot step)

-- an object, with the name that its own free says
abbrev pub known_of : List (Option ℕ) → List Move → ℕ → Born → Known
known_of slots moves object born =
    record { born = born; own = last_own slots object born.slot moves }

-- ---- the names of call sites

-- a call site and a slot are these
abbrev pub same_site : ℕ × ℕ → ℕ × ℕ → Bool
same_site x y = nat_eq x.0 y.0 && nat_eq x.1 y.1

-- the only name, where one more comes to those known: None once there are several
abbrev pub only_name : Option (Option ℕ) → ℕ → Option ℕ
only_name None name = Some name
only_name (Some None) name = None
only_name (Some (Some only)) name = if only == name then Some only else None

-- by call site and slot: the only name, behind an object of this origin, slot and name
abbrev pub with_site : List ((ℕ × ℕ) × Option ℕ) → Origin → ℕ → Option ℕ
    → List ((ℕ × ℕ) × Option ℕ)
with_site sites (origin.Kmalloc kind) slot own = sites
with_site sites (origin.Cache asked site) slot None = sites
with_site sites (origin.Cache asked site) slot (Some name) =
    insert_entry same_site sites (site, slot)
    (only_name (lookup (same_site (site, slot)) sites) name)

-- behind one object more
abbrev pub sites_after : List ((ℕ × ℕ) × Option ℕ) → Known → List ((ℕ × ℕ) × Option ℕ)
sites_after sites one = with_site sites one.born.origin one.born.slot one.own

-- by call site and slot: the only name that frees of its objects say, None where they say several
abbrev pub site_names : List Known → List ((ℕ × ℕ) × Option ℕ)
site_names known = fold sites_after [] known

-- ---- titles

-- the name at a place
abbrev pub name_at : List (List ℕ) → Option ℕ → Option (List ℕ)
name_at names None = None
name_at names (Some place) = slice_get names place

-- the only name of a call site and a slot
abbrev pub site_name : List ((ℕ × ℕ) × Option ℕ) → ℕ → ℕ → Option ℕ
site_name sites site slot = unwrap_or (lookup (same_site (site, slot)) sites) None

-- the title of this name where there is one, else the other
abbrev pub titled : Option (List ℕ) → Namer → Title → Title
titled None by other = other
titled (Some name) by other = record { name = name; namer = by }

-- the title of an object of this origin, slot and name: by its kmalloc, else by its own free, else
-- by the only name of its call site and slot, else by its sizes
abbrev pub title_by : List (List ℕ) → List ((ℕ × ℕ) × Option ℕ) → Origin → ℕ → Option ℕ → Title
title_by names sites (origin.Kmalloc kind) slot own =
    record { name = kmalloc_text slot kind; namer = namer.Kmalloc }
title_by names sites (origin.Cache asked site) slot own =
    titled (name_at names own) namer.Free
    (titled (name_at names (site_name sites site slot)) namer.Site
    (record { name = sizes_text asked slot; namer = namer.Sizes }))

-- the title of an object
abbrev pub title_of : List (List ℕ) → List ((ℕ × ℕ) × Option ℕ) → Known → Title
title_of names sites one = title_by names sites one.born.origin one.born.slot one.own

-- the titles of all these
abbrev pub titles_known : List (List ℕ) → List Known → List Title
titles_known names known = map (title_of names (site_names known)) known

-- the titles of all objects: the names of the caches, and what gave them
abbrev pub titles_of : List (List ℕ) → List Born → List Move → List Title
titles_of names objects moves =
    titles_known names (known_objects (name_slots (length names) objects moves) objects moves)
