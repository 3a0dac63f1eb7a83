-- In which group each cache of a recording is.
use Rattle.std.specs.Prelude.{◌≡◌, ℕ, ◌+◌, ◌*◌, ◌^◌, ◌<◌, ◌≤◌, ◌==◌, Bool, true, false, ◌&&◌, nat_lt, nat_le, List, [], ◌∷◌, ◌++◌, length, map, max, filter, count_by, sum_by, All, Contains, ◌⊎◌, IsPermutation, Option, None, Some, unwrap_or, if◌then◌else◌, ⊤}
use Rattle.std.specs.Cmp.Lexicographic.{slice_cmp}
use Rattle.std.specs.Int.{div_ceil}
use Rattle.std.specs.List.Sorted.{IsSorted}
use Rattle.std.specs.Ordering.{nat_cmp, ordering_then}
use Rattle.std.specs.declared.cmp.Ordering.{Ordering}
use Rattle.slub_object_layout.specs.declared.layout.Layout.{Layout}
use Rattle.slub_object_layout.specs.declared.layout.Spec.{Spec}
use Rattle.slub_object_layout.specs.Layout.{IsAccepted, IsLayout}
use Rattle.slub_recorded.specs.declared.groups.Cache.{Cache}
use Rattle.slub_recorded.specs.declared.groups.Chosen.{Chosen}
use Rattle.slub_recorded.specs.declared.groups.Groups.{Groups}
use Rattle.slub_recorded.specs.declared.groups.Split.{Split}
use Rattle.slub_recorded.specs.declared.text.Row.{Row}

-- ---- frames

-- what a trace asks of a cache of this slot: the slot is its size, words are its alignment
abbrev pub spec_of : ℕ → Spec
spec_of slot = record {
  size = slot;
  align = 8;
  flags = record {
    line = false;
    reclaim = false;
    checks = false;
    zones = false;
    poison = false;
    user = false;
    trace = false;
    fail = false;
  };
}

-- a machine has so many page frames, and the cache needs them at least: they are the whole slabs
-- for the greatest number of its objects that live at a time
pub record IsNeed (cpus : ℕ) (cache : Cache) (frames : ℕ) : Type 0 where
  pub layout : Layout
  pub accepted : IsAccepted (spec_of cache.slot)
  pub laid : IsLayout (spec_of cache.slot) cpus layout
  pub frames_are : frames ≡ div_ceil cache.most layout.objects * 2 ^ layout.order
  pub few : frames ≤ 4095

-- no machine has the frames that the cache needs, or there is no such cache
abbrev pub IsTooLarge : ℕ → Cache → Type 0
IsTooLarge cpus cache = (frames : ℕ) → ¬ IsNeed cpus cache frames

-- a cache, and the frames that it needs
pub record Need : Type 0 where
  pub cache : Cache
  pub frames : ℕ

-- ---- groups

-- which of two caches stands first: the one with more objects, else by their names
abbrev pub cache_cmp : Cache → Cache → Ordering
cache_cmp x y = ordering_then (nat_cmp y.objects x.objects) (slice_cmp nat_cmp x.name y.name)

-- a cache, and the number of its group from 1 on, where it is in one
pub record Member : Type 0 where
  pub need : Need
  pub group : Option ℕ

abbrev pub is_number : Option ℕ → ℕ → Bool
is_number None k = false
is_number (Some group) k = group == k

-- those of a group
abbrev pub in_group : ℕ → List Member → List Need
in_group k members = map (λ m. m.need) (filter (λ m. is_number m.group k) members)

-- those that are in none
abbrev pub is_none : Option ℕ → Bool
is_none None = true
is_none (Some group) = false

abbrev pub in_none : List Member → List Need
in_none members = map (λ m. m.need) (filter (λ m. is_none m.group) members)

-- how many groups there are: the greatest number of one, and 1 where no cache is in any
abbrev pub count_groups : List Member → ℕ
count_groups [] = 1
count_groups (member ∷ members) = max (unwrap_or member.group 1) (count_groups members)

-- beside these a trace has room for one more: they are fewer than 32, of its slot fewer than two,
-- and a machine has frames for all
unfoldable pub has_room : List Need → Need → Bool
has_room there need =
    nat_lt (length there) 32
    && nat_lt (count_by (λ other. other.cache.slot == need.cache.slot) there) 2
    && nat_le (sum_by (λ other. other.frames) there + need.frames) 4095

-- beside those before it, the cache has room in this group, and in none before that
pub record IsFirstRoom (before : List Member) (need : Need) (group : ℕ) : Type 0 where
  pub from_one : 1 ≤ group
  pub most : group ≤ 256
  pub room : has_room (in_group group before) need ≡ true
  pub first : (k : ℕ) → 1 ≤ k → k < group → has_room (in_group k before) need ≡ false

-- the cache is in that group; in none, where none of 256 has room
abbrev pub IsPlaced : List Member → Need → Option ℕ → Type 0
IsPlaced before need None =
    (k : ℕ) → 1 ≤ k → k ≤ 256 → has_room (in_group k before) need ≡ false
IsPlaced before need (Some group) = IsFirstRoom before need group

-- so is each of these, behind some others
abbrev pub ArePlaced : List Member → List Member → Type 0
ArePlaced before [] = ⊤
ArePlaced before (member ∷ members) =
    IsPlaced before member.need member.group × ArePlaced (before ++ member ∷ []) members

-- the caches that a machine has frames for, each once, the one with most objects first, and each in
-- the first group that has room for it
pub record AreGrouped (cpus : ℕ) (caches : List Cache) (members : List Member) : Type 0 where
  -- the others: those that no machine has frames for
  pub others : List Cache
  pub all : IsPermutation caches (map (λ m. m.need.cache) members ++ others)
  pub needs : All (λ m. IsNeed cpus m.need.cache m.need.frames) members
  pub too_large : All (IsTooLarge cpus) others
  pub ordered : IsSorted cache_cmp (map (λ m. m.need.cache) members)
  pub placed : ArePlaced [] members

-- ---- what is chosen for a trace

abbrev pub need_of : Chosen → Need
need_of one = record { cache = one.cache; frames = one.frames }

-- the caches of this group, those that are in none, and how many groups there are
pub record IsGrouped (cpus : ℕ) (caches : List Cache) (group : ℕ) (groups : Groups)
    : Type 0 where
  pub members : List Member
  pub grouped : AreGrouped cpus caches members
  pub chosen : map need_of groups.chosen.items ≡ in_group group members
  pub beyond : map need_of groups.beyond.items ≡ in_none members
  pub count : groups.groups ≡ count_groups members

-- a cache of this name is among these
abbrev pub HasName : List ℕ → List Chosen → Type 0
HasName name chosen = (one : Chosen) × Contains chosen one × (one.cache.name ≡ name)

-- no machine has frames for the cache, or its name is among those beyond the last group
abbrev pub IsLeftOut : ℕ → Cache → List Chosen → Type 0
IsLeftOut cpus cache beyond = IsTooLarge cpus cache ⊎ HasName cache.name beyond

-- the line of a cache, whatever its letter
abbrev pub row_for : Need → Row
row_for need = record { name = need.cache.name; slot = need.cache.slot; reclaim = false }

abbrev pub unlettered_row : Row → Row
unlettered_row row = record row { reclaim = false }

-- ---- its parts

-- those of these caches that a machine has frames for, each with these
pub record AreFramed (cpus : ℕ) (caches : List Cache) (chosen : List Chosen) : Type 0 where
  pub others : List Cache
  pub all : IsPermutation caches (map (λ one. one.cache) chosen ++ others)
  pub needs : All (λ one. IsNeed cpus one.cache one.frames) chosen
  pub too_large : All (IsTooLarge cpus) others

-- those of these caches for which there is room, one behind another
unfoldable pub packed : List Need → List Need → List Need
packed there [] = there
packed there (need ∷ needs) =
    if has_room there need then packed (there ++ need ∷ []) needs else packed there needs

-- the others
unfoldable pub left_over : List Need → List Need → List Need
left_over there [] = []
left_over there (need ∷ needs) =
    if has_room there need then left_over (there ++ need ∷ []) needs
    else need ∷ left_over there needs

-- so caches are taken to a group, and left
pub record Packs (given : List Chosen) (split : Split) : Type 0 where
  pub taken : map need_of split.taken.items ≡ packed [] (map need_of given)
  pub others : map need_of split.others.items ≡ left_over [] (map need_of given)

-- one more is taken if there is room for it, else left
pub record PacksMore (old : Split) (cache : Chosen) (new : Split) : Type 0 where
  pub taken : map need_of new.taken.items
      ≡ (if has_room (map need_of old.taken.items) (need_of cache)
      then map need_of old.taken.items ++ need_of cache ∷ [] else map need_of old.taken.items)
  pub others : map need_of new.others.items
      ≡ (if has_room (map need_of old.taken.items) (need_of cache)
      then map need_of old.others.items else map need_of old.others.items ++ need_of cache ∷ [])
