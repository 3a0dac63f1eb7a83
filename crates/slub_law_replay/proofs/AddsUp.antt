-- A live cache's objects are given, free or set aside.
use Rattle.std.proofs.Common.{length, true, Bool, ◌≡◌, ℕ, zero, suc, ◌+◌, ◌<◌, ◌≤◌, List, [], refl, sym, ap, ◌∙◌, inl, inr, subst, arith}
use Rattle.std.specs.Prelude.{Option, Some, None, MatchOption, IfSome, IsSome, ⊤, sum_by, if◌then◌else◌}
use Rattle.std.specs.Option.{option_map_or}
use Rattle.std.specs.List.{zip}
use Rattle.std.proofs.Math.ListN.{get_or-eq_default}
use Rattle.std.proofs.lemmas.Bool.{cases_lt, eqb-true, false≢true, le-ltb}
use Rattle.slub_common.specs.Times.{times}
use Rattle.slub_cache_create.specs.declared.caches.Cache.{Cache}
use Rattle.slub_cache_create.specs.Sound.{IsLiveCache}
use Rattle.slub_cache_create.specs.Table.{Table}
use Rattle.slub_red_zone.specs.State.{CheckedState, free_count, aside_count}
use Rattle.slub_lists.specs.declared.lists.Slab.{Slab}
use Rattle.slub_lists.specs.declared.lists.CpuLists.{CpuLists}
use Rattle.slub_lists.specs.State.{State}
use Rattle.slub_lists.specs.Alloc.{cache_of, checked_of, held_here, lists_of, own_free, slab_of}
use Rattle.slub_lists.specs.Coherent.{IsCheckedOf, IsCoherent, IsShaped, IsSlabOf, has_object, held_of, idle_in, on_cpu}
use Rattle.slub_lists.specs.Shrink.{is_slab_of}
use Rattle.slub_slabinfo_text.specs.Counts.{aside_of, free_in, free_of, loose_of, num_objs_of}
use Rattle.slub_law_replay.proofs.Adding.{over_both, over_none, over_same, upto, upto_none}
use Rattle.slub_law_replay.proofs.Places.{AreBelow, current_of_cache, free_of_cpus, held_of_cache, idle_of_cache, idle_of_checked, objects_of_cache, of_cache, own_of_cache}

-- ---- a slab has at most 512 objects

few_objects : (table : Table) (cache : ℕ) (slab : Slab) (o : Option Cache) → MatchOption o ⊥ (λ live. IsSlabOf live.layout slab) → IfSome o (IsLiveCache table cache) → slab.objects ≤ 512
few_objects table cache slab None shape live = absurd shape
few_objects table cache slab (Some one) shape live =
    let made = live.layout.made in
    elim shape [
      | inl usual ↦ omega (arith, usual.1, made.objects.1)
      | inr least ↦ omega (arith, least.1, made.objects.1, made.min_objects_slab.1)
    ]

none_past : (i : ℕ) (o : Option Slab) → 512 ≤ i → IfSome o (λ slab. slab.objects ≤ 512) → has_object i o ≡ 0
none_past i None past few = refl
none_past i (Some slab) past few = ap (λ (b : Bool). if b then suc zero else zero) (le-ltb i slab.objects (omega arith))

few_in : (s : State) → IsShaped s → (o : Option Slab) → IfSome o (λ slab. MatchOption (cache_of s slab.cache) ⊥ (λ live. IsSlabOf live.layout slab)) → IfSome o (λ slab. slab.objects ≤ 512)
few_in s shaped None is = tt
few_in s shaped (Some slab) is = few_objects s.table slab.cache slab (cache_of s slab.cache) is (shaped.table.live slab.cache)

all_below : (s : State) → IsShaped s → AreBelow s 512
all_below s shaped f i past = none_past i (slab_of s f) past (few_in s shaped (slab_of s f) (shaped.slab f))

-- ---- a live cache has one of the numbers

pub is_number : (s : State) (cache : ℕ) → IsShaped s → IsSome (cache_of s cache) → cache < 32
is_number s cache shaped live =
    let long : length s.table.caches ≡ 32 = shaped.table.numbers in
    elim (cases_lt cache (length s.table.caches)) [
      | inl here ↦ omega arith
      | inr past ↦ absurd (false≢true (subst (λ (o : Option Cache). IsSome o) (get_or-eq_default s.table.caches None past) live))
    ]

-- ---- idle, on the slabs' own freelists and on the CPUs' freelists: free or set aside

bare_slab : (cache : ℕ) (o : Option Slab) (free : List ℕ) → is_slab_of cache o ≡ true → MatchOption o ⊤ (λ slab. slab.cache ≡ cache → free ≡ []) → free ≡ []
bare_slab cache None free mine bare = absurd (cc)
bare_slab cache (Some slab) free mine bare = bare (eqb-true slab.cache cache mine)

spare : (s : State) (cache k : ℕ) → IsCoherent s → AreBelow s k → cache < 32 → (o : Option CheckedState) → IfSome o (IsCheckedOf s cache)
    → of_cache s cache k (λ f i. times i (own_free s f)) ≡ sum_by (free_in cache) (zip s.slabs s.frees)
    → of_cache s cache k (λ f i. idle_in f i o) + of_cache s cache k (λ f i. times i (own_free s f)) + upto (λ cpu. length (lists_of s cache cpu).free) s.cpus
    ≡ option_map_or free_count o (loose_of s cache) + option_map_or aside_count o 0
spare s cache k coherent below live None is own =
    let idle : of_cache s cache k (λ f i. 0) ≡ 0 = over_none (λ f. is_slab_of cache (slab_of s f)) (length s.slabs) k (λ f i. 0) (λ f i within mine. refl) in
    let cpus = free_of_cpus s cache live coherent.shaped.cpu_lists in
    omega (arith, idle, own, cpus)
spare s cache k coherent below live (Some slabs) is own =
    let slabs_long = coherent.shaped.slabs in
    let frames = coherent.shaped.frames.1 in
    let many = is.sound.frames in
    let idle = idle_of_checked s cache k slabs below (omega arith) is.agrees in
    let none : of_cache s cache k (λ f i. times i (own_free s f)) ≡ 0 =
    over_none (λ f. is_slab_of cache (slab_of s f)) (length s.slabs) k (λ f i. times i (own_free s f))
    (λ f i within mine. ap (times i) (bare_slab cache (slab_of s f) (own_free s f) mine (is.unfree f))) in
    let cpus : upto (λ cpu. length (lists_of s cache cpu).free) s.cpus ≡ 0 =
    upto_none (λ cpu. length (lists_of s cache cpu).free) s.cpus (λ cpu within. ap (λ (lists : CpuLists). length lists.free) (is.unlisted cpu within)) in
    omega (arith, idle, none, cpus)

-- ---- the whole

adds_up_below : (s : State) (cache k : ℕ) → IsCoherent s → AreBelow s k → cache < 32 → sum_by (held_of cache) s.board + free_of s cache + aside_of s cache ≡ num_objs_of s cache
adds_up_below s cache k coherent below live =
    let m = (λ (f : ℕ). is_slab_of cache (slab_of s f)) in
    let n = length s.slabs in
    let held = (λ (f i : ℕ). sum_by (held_here f i) s.board) in
    let on = (λ (f i : ℕ). sum_by (on_cpu f i) s.cpu_lists) in
    let own = (λ (f i : ℕ). times i (own_free s f)) in
    let idle = (λ (f i : ℕ). sum_by (idle_in f i) s.checked) in
    let placed = coherent.placed in
    let whole = over_same m n k (λ f i. held f i + on f i + own f i + idle f i) (λ f i. has_object i (slab_of s f)) (λ f i mine. placed f i) in
    let split = over_both m n k (λ f i. held f i + on f i + own f i) idle in
    let split_more = over_both m n k (λ f i. held f i + on f i) own in
    let split_most = over_both m n k held on in
    let objects = objects_of_cache s cache k below in
    let given = held_of_cache s cache k below coherent.shaped.held (λ f i. let all = placed f i in omega (arith, all)) in
    let listed = coherent.listed in
    let current = current_of_cache s cache k below live coherent.shaped.cpu_lists coherent.shaped.bare listed.of_current (λ f i. let all = placed f i in omega (arith, all)) in
    let loose = own_of_cache s cache k (coherent.shaped.frees ∙ sym coherent.shaped.slabs) (λ f i past. let all = placed f i in let none = below f i past in omega (arith, all, none)) in
    let numbers = coherent.shaped.checked.numbers in
    let checked = idle_of_cache s cache k (omega arith) coherent.shaped.checked.those in
    let rest = spare s cache k coherent below live (checked_of s cache) (coherent.shaped.checked.those cache) loose in
    omega (arith, whole, split, split_more, split_most, objects, given, current, checked, rest)

pub adds_up : (s : State) (cache : ℕ) → IsCoherent s → IsSome (cache_of s cache) → sum_by (held_of cache) s.board + free_of s cache + aside_of s cache ≡ num_objs_of s cache
adds_up s cache coherent live = adds_up_below s cache 512 coherent (all_below s coherent.shaped) (is_number s cache coherent.shaped live)

-- the same of the live cache
pub adds_up_live : (s : State) (cache : ℕ) → IsCoherent s → (o : Option Cache) → IsSome (cache_of s cache) → IfSome o (λ live. sum_by (held_of cache) s.board + free_of s cache + aside_of s cache ≡ num_objs_of s cache)
adds_up_live s cache coherent None live = tt
adds_up_live s cache coherent (Some one) live = adds_up s cache coherent live
