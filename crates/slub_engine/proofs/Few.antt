-- The counts of a coherent machine are small.
use Rattle.std.proofs.Common.{◌≡◌, ℕ, ◌+◌, ◌-◌, ◌*◌, ◌^◌, ◌<◌, ◌≤◌, true, false, cond, eqb, List, [], ◌∷◌, length, drop, get_or, refl, sym, ◌∙◌, ap, arith, Option, Some, None, IfSome, MatchOption, is_some, unwrap_or, Bool, count_by, inl, inr, sum_by}
use Rattle.std.specs.Option.{option_map_or}
use Rattle.std.specs.List.{AllByRecursion, IsDistinct, list_any, slice_range, zip}
use Rattle.std.proofs.lemmas.Bool.Decides.{nat_tests}
use Rattle.std.proofs.lemmas.List.{get_or_past}
use Rattle.std.proofs.lemmas.List.Sums.{count_by-le-length, get_or-le-sum_by, sum_by-cons, sum_by-le, sum_by-take-drop, sum_by-take-le}
use Rattle.std.proofs.lemmas.Map.Keys.{IsDistinct-cons}
use Rattle.std.proofs.lemmas.Map.Steps.{length-le_from_distinct_below}
use Rattle.std.proofs.lemmas.Option.{get_or_from_slice_get, slice_get-get_or}
use Rattle.std.proofs.lemmas.Slice.Zip.{length-zip, get_or-zip}
use Rattle.slub_object_layout.specs.declared.layout.Flags.{Flags}
use Rattle.slub_object_layout.specs.declared.layout.Layout.{Layout}
use Rattle.slub_object_layout.specs.Layout.{IsWithinBounds}
use Rattle.slub_cache_create.specs.declared.caches.Cache.{Cache}
use Rattle.slub_cache_create.specs.Table.{Table}
use Rattle.slub_cache_create.specs.Sound.{IsLiveCache, IsLiveLayout, IsSound as IsSoundTable}
use Rattle.slub_red_zone.specs.declared.slab.ObjectState.{ObjectState}
use Rattle.slub_red_zone.specs.State.{CheckedState, SlabState, aside_count, free_count, is_aside, is_free, no_slab}
use Rattle.slub_red_zone.specs.Sound.{IsSlab, IsSound as IsSoundChecked, is_stocked}
use Rattle.slub_lists.specs.declared.lists.Slab.{Slab}
use Rattle.slub_lists.specs.declared.lists.CpuLists.{CpuLists}
use Rattle.slub_lists.specs.declared.lists.Held.{Held}
use Rattle.slub_lists.specs.State.{State}
use Rattle.slub_lists.specs.Alloc.{cache_of, checked_of, no_lists, own_free, slab_of}
use Rattle.slub_common.specs.Times.{times}
use Rattle.slub_lists.specs.Coherent.{IsCheckedOf, IsCoherent, IsShaped, IsSlabOf, has_object, held_of, if_current, on_cpu}
use Rattle.slub_lists.specs.Shrink.{is_slab_of}
use Rattle.slub_slabinfo_text.specs.Counts.{aside_of, counts_of, free_in, free_of, is_frozen_of, loose_of}
use Rattle.slub_engine.specs.Sums.{IsAtMost}

-- ---- a list in which no number stands twice is short

none_is : (x : ℕ) (xs : List ℕ) → times x xs ≡ 0 → AllByRecursion (λ y. eqb x y ≡ false) xs
none_is x [] none = tt
none_is x (y ∷ ys) none =
    let split = sum_by-cons (λ z. cond (eqb z x) 1 0) y ys in
    (grind (arith, nat_tests, split, none), none_is x ys (omega (arith, split)))

once_distinct : (xs : List ℕ) → ((x : ℕ) → times x xs ≤ 1) → IsDistinct eqb xs
unfolding IsDistinct
once_distinct [] once = tt
once_distinct (x ∷ xs) once =
    let split = λ (z : ℕ). sum_by-cons (λ y. cond (eqb y z) 1 0) x xs in
    let none : times x xs ≡ 0 = grind (arith, nat_tests, split x, once x) in
    IsDistinct-cons eqb x xs (none_is x xs none) (once_distinct xs (λ z. omega (arith, split z, once z)))

any_counted : (x : ℕ) (xs : List ℕ) → list_any (eqb x) xs ≡ true → 1 ≤ times x xs
any_counted x [] any = absurd (let never : ⊥ = cc in never)
any_counted x (y ∷ ys) any =
    let split = sum_by-cons (λ z. cond (eqb z x) 1 0) y ys in
    let more = any_counted x ys in
    grind (arith, nat_tests, split, more, any)

-- each number once at most, and none from `limit` on
short : (xs : List ℕ) (limit : ℕ) → ((x : ℕ) → times x xs ≤ 1) → ((x : ℕ) → limit ≤ x → times x xs ≡ 0) → length xs ≤ limit
short xs limit once none = length-le_from_distinct_below xs limit (once_distinct xs once) (λ x any. below x (any_counted x xs any))
  where
    below : (x : ℕ) → 1 ≤ times x xs → x < limit
    below x some = grind (arith, none x)

-- ---- freelists

-- a slab has at most 512 objects
layout_few : (flags : Flags) (layout : Layout) (slab : Slab) → IsLiveLayout flags layout → IsSlabOf layout slab → slab.objects ≤ 512
layout_few flags layout slab tuned of_it =
    let most = tuned.made.objects.1 in
    let least = tuned.made.min_objects_slab.1 in
    elim of_it [ inl usual ↦ omega (arith, most, usual.1) | inr small ↦ omega (arith, most, least, small.1) ]

cache_few : (table : Table) (cache : ℕ) (found : Option Cache) (slab : Slab) → IfSome found (IsLiveCache table cache) → MatchOption found ⊥ (λ live. IsSlabOf live.layout slab) → slab.objects ≤ 512
cache_few table cache None slab sound of_it = absurd of_it
cache_few table cache (Some live) slab sound of_it = layout_few live.flags live.layout slab sound.layout of_it

slab_few : (s : State) → IsShaped s → (slab : Option Slab) → IfSome slab (λ slab. MatchOption (cache_of s slab.cache) ⊥ (λ live. IsSlabOf live.layout slab))
    → (index : ℕ) → (has_object index slab ≤ 1) × (512 ≤ index → has_object index slab ≡ 0)
slab_few s shaped None of_it index = (omega arith, λ past. refl)
slab_few s shaped (Some slab) of_it index =
    let few = cache_few s.table slab.cache (cache_of s slab.cache) slab (shaped.table.live slab.cache) of_it in
    (grind (arith, nat_tests), λ past. grind (arith, nat_tests, few, past))

own_few : (s : State) → IsCoherent s → (frame : ℕ) → length (own_free s frame) ≤ 512
own_few s coherent frame =
    let slab = slab_few s coherent.shaped (slab_of s frame) (coherent.shaped.slab frame) in
    short (own_free s frame) 512
    (λ index. omega (arith, coherent.placed frame index, (slab index).0))
    (λ index past. omega (arith, coherent.placed frame index, (slab index).1 past))

cpu_few : (s : State) → IsCoherent s → (place : ℕ) (lists : CpuLists) → place < length s.cpu_lists → get_or s.cpu_lists place no_lists ≡ lists
    → (current : Option ℕ) → lists.current ≡ current → length lists.free ≤ 512
cpu_few s coherent place lists within is None none =
    let bare = coherent.shaped.bare place (ap (λ (lists : CpuLists). lists.current) is ∙ none) in
    let nothing : lists.free ≡ [] = sym (ap (λ (lists : CpuLists). lists.free) is) ∙ bare in
    rw nothing (omega arith)
cpu_few s coherent place lists within is (Some frame) here =
    let slab = slab_few s coherent.shaped (slab_of s frame) (coherent.shaped.slab frame) in
    let counted : (index : ℕ) → times index lists.free ≤ has_object index (slab_of s frame) = λ index.
    (let mine : on_cpu frame index lists ≡ times index lists.free = ap (if_current frame (times index lists.free)) here ∙ current_same frame (times index lists.free) in
    let all = get_or-le-sum_by (on_cpu frame index) s.cpu_lists place no_lists within in
    let same : on_cpu frame index (get_or s.cpu_lists place no_lists) ≡ on_cpu frame index lists = ap (on_cpu frame index) is in
    omega (arith, coherent.placed frame index, all, same, mine)) in
    short lists.free 512
    (λ index. omega (arith, counted index, (slab index).0))
    (λ index past. omega (arith, counted index, (slab index).1 past))
  where
    current_same : (frame n : ℕ) → if_current frame n (Some frame) ≡ n
    current_same frame n = grind (arith, nat_tests)

-- ---- the counts

-- within a list the default doesn't matter
same_default : {A : Type 0} (xs : List A) (i : ℕ) (d e : A) → i < length xs → get_or xs i d ≡ get_or xs i e
same_default xs i d e within = get_or_from_slice_get xs i (get_or xs i e) d (slice_get-get_or xs i e within)

free_in_few : (cache : ℕ) (slab : Option Slab) (free : List ℕ) → length free ≤ 512 → free_in cache (slab, free) ≤ 512
free_in_few cache None free few = omega arith
free_in_few cache (Some slab) free few = grind (arith, nat_tests)

loose_few : (s : State) (cache : ℕ) → IsCoherent s → loose_of s cache ≤ 4096 * 512 + 512 * 512
loose_few s cache coherent =
    let slabs : length (zip s.slabs s.frees) ≤ 4096 = omega (arith, length-zip s.slabs s.frees, coherent.shaped.slabs, coherent.shaped.frames.1) in
    let own : sum_by (free_in cache) (zip s.slabs s.frees) ≤ length (zip s.slabs s.frees) * 512 =
    sum_by-le (free_in cache) 512 (zip s.slabs s.frees) (λ frame d within.
    rw (get_or-zip s.slabs s.frees frame d (omega (arith, length-zip s.slabs s.frees)) (omega (arith, length-zip s.slabs s.frees)))
    (free_in_few cache (get_or s.slabs frame d.0) (get_or s.frees frame d.1)
    (rw (same_default s.frees frame d.1 [] (omega (arith, length-zip s.slabs s.frees))) (own_few s coherent frame)))) in
    let cpus : sum_by (λ lists. length lists.free) s.cpu_lists ≤ length s.cpu_lists * 512 =
    sum_by-le (λ lists. length lists.free) 512 s.cpu_lists (λ place d within. cpu_few s coherent place (get_or s.cpu_lists place d) within (same_default s.cpu_lists place no_lists d within) (get_or s.cpu_lists place d).current refl) in
    let part : sum_by (λ lists. length lists.free) (slice_range s.cpu_lists (cache * s.cpus) ((cache + 1) * s.cpus)) ≤ sum_by (λ lists. length lists.free) s.cpu_lists =
    omega (arith, sum_by-take-le (λ lists. length lists.free) (drop (cache * s.cpus) s.cpu_lists) ((cache + 1) * s.cpus - cache * s.cpus), sum_by-take-drop (λ lists. length lists.free) s.cpu_lists (cache * s.cpus)) in
    omega (arith, own, cpus, part, slabs, coherent.shaped.cpu_lists, coherent.shaped.cpus.1)

-- ---- checked caches

-- a slab of a checked cache has at most 512 objects
slab_objects_few : (layout : Layout) (slab : SlabState) → IsWithinBounds layout → IsSlab layout slab → length slab.states ≤ 512
slab_objects_few layout slab bounds sound =
    let most = bounds.objects.1 in
    let least = bounds.min_objects_slab.1 in
    elim sound.sized [ inl usual ↦ omega (arith, most, usual.1) | inr small ↦ omega (arith, most, least, small.1) ]

states_few : (layout : Layout) (p : ObjectState → Bool) (slab : Option SlabState) → IsWithinBounds layout → IfSome slab (IsSlab layout)
    → count_by p (unwrap_or slab no_slab).states ≤ 512
states_few layout p None bounds sound = omega arith
states_few layout p (Some slab) bounds sound = omega (arith, count_by-le-length p slab.states, slab_objects_few layout slab bounds sound)

-- so the cache has few that are free or set aside
objects_few : (slabs : CheckedState) (p : ObjectState → Bool) → IsSoundChecked slabs → sum_by (λ (slab : Option SlabState). count_by p (unwrap_or slab no_slab).states) slabs.slabs ≤ 4096 * 512
objects_few slabs p sound =
    let all = sum_by-le (λ (slab : Option SlabState). count_by p (unwrap_or slab no_slab).states) 512 slabs.slabs (λ frame d within.
    rw (same_default slabs.slabs frame d None within) (states_few slabs.layout p (get_or slabs.slabs frame None) sound.layout.bounds (sound.slab frame))) in
    omega (arith, all, sound.frames)

free_few_in : (s : State) (cache : ℕ) (slabs : Option CheckedState) → IfSome slabs (IsCheckedOf s cache) → (loose : ℕ) → loose ≤ 4096 * 512 + 512 * 512
    → option_map_or free_count slabs loose ≤ 4096 * 512 + 512 * 512
free_few_in s cache None sound loose few = few
free_few_in s cache (Some slabs) sound loose few = omega (arith, objects_few slabs is_free sound.sound)

aside_few_in : (s : State) (cache : ℕ) (slabs : Option CheckedState) → IfSome slabs (IsCheckedOf s cache) → option_map_or aside_count slabs 0 ≤ 4096 * 512
aside_few_in s cache None sound = omega arith
aside_few_in s cache (Some slabs) sound = omega (arith, objects_few slabs is_aside sound.sound)

free_few : (s : State) (cache : ℕ) → IsCoherent s → free_of s cache ≤ 4096 * 512 + 512 * 512
free_few s cache coherent = free_few_in s cache (checked_of s cache) (coherent.shaped.checked.those cache) (loose_of s cache) (loose_few s cache coherent)

aside_few : (s : State) (cache : ℕ) → IsCoherent s → aside_of s cache ≤ 4096 * 512
aside_few s cache coherent = aside_few_in s cache (checked_of s cache) (coherent.shaped.checked.those cache)

-- at most 4096 slabs of a checked cache are listed
pub listed_few : (slabs : CheckedState) → IsSoundChecked slabs → length slabs.listed ≤ 4096
listed_few slabs sound = omega (arith, sound.listed_count, sound.frames, count_by-le-length is_stocked slabs.slabs)

-- ---- the counts of a cache

held_few : (cache : ℕ) (held : Option Held) → held_of cache held ≤ 1
held_few cache None = omega arith
held_few cache (Some held) = grind (arith, nat_tests)

-- the counts of a cache are below 2 ^ 32
pub counts_few : (s : State) (cache : ℕ) (layout : Layout) → IsCoherent s → IsAtMost (2 ^ 32) (counts_of s cache layout)
counts_few s cache layout coherent = record {
  live = omega (arith, sum_by-le (held_of cache) 1 s.board (λ object d within. held_few cache (get_or s.board object d)), coherent.shaped.board);
  free = omega (arith, free_few s cache coherent);
  aside = omega (arith, aside_few s cache coherent);
  frozen = omega (arith, count_by-le-length (is_frozen_of cache) s.slabs, coherent.shaped.slabs, coherent.shaped.frames.1);
  slabs = omega (arith, count_by-le-length (is_slab_of cache) s.slabs, coherent.shaped.slabs, coherent.shaped.frames.1);
}

-- at most 32 caches are live
pub ages_few : (table : Table) → IsSoundTable table → length table.ages ≤ 32
ages_few table sound = short table.ages 32 (λ cache. most cache (is_some (get_or table.caches cache None)) (sound.aged cache)) (λ cache past. none cache past (sound.aged cache))
  where
    most : (cache : ℕ) (live : Bool) → times cache table.ages ≡ cond live 1 0 → times cache table.ages ≤ 1
    most cache true counted = omega arith
    most cache false counted = omega arith

    none : (cache : ℕ) → 32 ≤ cache → times cache table.ages ≡ cond (is_some (get_or table.caches cache None)) 1 0 → times cache table.ages ≡ 0
    none cache past counted =
        let bare : get_or table.caches cache None ≡ None = get_or_past table.caches cache None (omega (arith, sound.numbers)) in
        rw bare at counted
