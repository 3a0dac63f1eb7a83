-- A new slab, and an object that is given.
use Rattle.std.proofs.Common.{◌≡◌, ℕ, ◌+◌, ◌^◌, ◌<◌, ◌≤◌, true, false, List, ◌∷◌, length, get_or, set, sum_by, Option, Some, None, Result, Ok, Err, MatchResult, IsSome, IfSome, MatchOption, inl, inr, refl, sym, ap, ◌∙◌, subst, arith, get_or-set_same}
use Rattle.std.specs.List.{range_with_len}
use Rattle.std.proofs.lemmas.Bool.Decides.{nat_tests}
use Rattle.std.proofs.lemmas.List.FromFn.{length-range_with_len}
use Rattle.slub_page_pool.specs.FreeFrames.{FreeFrames, IsPool}
use Rattle.slub_object_layout.specs.declared.layout.Layout.{Layout}
use Rattle.slub_cache_create.specs.Table.{Table, cache_of as live_cache}
use Rattle.slub_lists.specs.declared.lists.Slab.{Slab}
use Rattle.slub_lists.specs.declared.lists.CpuLists.{CpuLists}
use Rattle.slub_cache_create.specs.declared.caches.Cache.{Cache}
use Rattle.slub_lists.specs.declared.lists.Held.{Held}
use Rattle.slub_lists.specs.declared.lists.Run.{Run}
use Rattle.slub_lists.specs.State.{State}
use Rattle.slub_lists.specs.Alloc.{FindsRun, IsStocked, held_here, no_lists, cpu_place, cache_of, checked_of, slab_of, lists_of, with_new_slab, with_given, HasLayout, IsLive}
use Rattle.slub_common.specs.Times.{times}
use Rattle.slub_lists.specs.Coherent.{IsConsistent, IsSlabOf, has_object, if_current, on_cpu}
use Rattle.slub_lists.specs.Steps.{IsRelisted}
use Rattle.slub_lists.proofs.Times.{current-same}
use Rattle.slub_common.proofs.Times.{times-cons}
use Rattle.slub_common.proofs.Sums.{element-counted}
use Rattle.slub_lists.proofs.Placed.{placed-with_new_slab, placed-with_given}
use Rattle.slub_lists.proofs.Framed.{framed-with_new_slab, run-inside, run-unused}
use Rattle.slub_lists.proofs.Listed.{listed-with_new_slab, listed-with_given, listed-with_pool}
use Rattle.slub_lists.proofs.Accounted.{accounted-with_held, accounted-most}
use Rattle.slub_lists.proofs.Shaped.{layouts-live, shaped-with_new_slab, shaped-with_given, shaped-with_pool}
use Rattle.slub_lists.proofs.Unchecked.{apart-current, apart-unchecked, checked-lists, checked-with_new_slab}
use Rattle.slub_lists.proofs.Runs.{run-for, none-frames, none-free}
use Rattle.slub_lists.proofs.Coherence.{place-inside, live-inside, current-inside, current-live}

-- a live cache
layout-live : (x : Option Cache) (layout : Layout) → MatchOption x ⊥ (λ live. live.layout ≡ layout) → IsSome x
layout-live None layout h = absurd h
layout-live (Some live) layout h = refl

-- what holds of a live cache's layout holds of this one, and the other way round
layout-at : (x : Option Cache) (layout : Layout) (P : Layout → Type 0) → MatchOption x ⊥ (λ live. live.layout ≡ layout) → IfSome x (λ live. P live.layout) → P layout
layout-at None layout P h all = absurd h
layout-at (Some live) layout P h all = subst P h all

pub layout-of : (x : Option Cache) (layout : Layout) (P : Layout → Type 0) → MatchOption x ⊥ (λ live. live.layout ≡ layout) → P layout → IfSome x (λ live. P live.layout)
layout-of None layout P h here = tt
layout-of (Some live) layout P h here = subst P (sym h) here

pub layout-match : (x : Option Cache) (layout : Layout) (P : Layout → Type 0) → MatchOption x ⊥ (λ live. live.layout ≡ layout) → P layout → MatchOption x ⊥ (λ live. P live.layout)
layout-match None layout P h here = h
layout-match (Some live) layout P h here = subst P (sym h) here

pub HasLayout-same : (s after : State) (cache : ℕ) (layout : Layout) → IsRelisted s after → HasLayout s cache layout → HasLayout after cache layout
HasLayout-same s after cache layout same has = subst (λ (t : Table). MatchOption (live_cache t cache) ⊥ (λ live. live.layout ≡ layout)) (sym same.table) has

module _ (s : State) (cache : ℕ) (layout : Layout) (consistent : IsConsistent s) (has : HasLayout s cache layout) where
  -- its number is below 32
  pub cache-within : cache < 32
  cache-within = omega (arith, live-inside s.table.caches cache (layout-live (cache_of s cache) layout has), consistent.shaped.table.numbers)

  -- its layout is a good one
  pub layout-good : IsLive layout
  layout-good = layout-at (cache_of s cache) layout IsLive has (layouts-live s cache consistent.shaped)

  -- the objects of a run for it
  pub run-objects : (run : Run) (pool : FreeFrames) → FindsRun s.pool layout (Some run) pool → (1 ≤ run.objects) × (run.objects ≤ 512)
  run-objects run pool found =
      let good = layout-good in
      elim (run-for s.pool layout run pool found).fits [
        | inl wide ↦ (omega (arith, wide.1, good.1.made.objects.0), omega (arith, wide.1, good.1.made.objects.1))
        | inr least ↦ (omega (arith, least.1, good.1.made.min_objects_slab.0), omega (arith, least.1, good.1.made.min_objects_slab.1, good.1.made.objects.1))
      ]

  pub run-slot : (run : Run) (pool : FreeFrames) → FindsRun s.pool layout (Some run) pool → run.frame < s.frames
  run-slot run pool found = run-inside s 0 0 pool run (run-for s.pool layout run pool found).all_free consistent.framed

  pub with_new_slab-consistent : (cpu : ℕ) (run : Run) (pool : FreeFrames) → checked_of s cache ≡ None → cpu < s.cpus → (lists_of s cache cpu).current ≡ None → IsPool pool → FindsRun s.pool layout (Some run) pool → IsConsistent (with_new_slab s cache cpu pool run)
  with_new_slab-consistent cpu run pool unchecked cpu_within bare good found =
      let inside = place-inside s cache cpu consistent.shaped cache-within cpu_within in
      let is_run = run-for s.pool layout run pool found in
      let slot : run.frame < length s.slabs = omega (arith, run-slot run pool found, consistent.shaped.slabs) in
      let unused = run-unused s cache cpu pool run is_run.all_free consistent.framed slot in
      let fits : IsSlabOf layout (record { cache = cache; order = run.order; objects = run.objects; frozen = true }) = is_run.fits in
      record {
        shaped = shaped-with_new_slab s cache cpu pool run slot unused good is_run.frames is_run.aligned
            (layout-match (cache_of s cache) layout (λ l. IsSlabOf l (record { cache = cache; order = run.order; objects = run.objects; frozen = true })) has fits)
            (checked-with_new_slab s cache cpu cpu_within (apart-unchecked s cache unchecked) pool run.frame (record { cache = cache; order = run.order; objects = run.objects; frozen = true })
            (record { current = Some run.frame; free = range_with_len 0 run.objects; partial = (lists_of s cache cpu).partial }) slot refl unused consistent.shaped.checked)
            consistent.shaped;
        placed = placed-with_new_slab s cache cpu inside pool run slot unused bare consistent.placed;
        framed = framed-with_new_slab s cache cpu pool run is_run.all_free slot is_run.less consistent.framed;
        listed = listed-with_new_slab s cache cpu cpu_within inside pool run slot unused bare consistent.listed;
        accounted = consistent.accounted;
      }

  -- where no run is there, only a count of the pool changes
  pub with_pool-consistent : (pool : FreeFrames) → IsPool pool → FindsRun s.pool layout None pool → IsConsistent (record s { pool = pool })
  with_pool-consistent pool good found = record {
    shaped = shaped-with_pool s pool good (none-frames s.pool layout pool found) consistent.shaped;
    placed = consistent.placed;
    framed = λ f. omega (arith, consistent.framed f, ap (times f) (none-free s.pool layout pool found));
    listed = listed-with_pool s pool consistent.listed;
    accounted = consistent.accounted;
  }

  -- the first object of the CPU freelist
  module _ (cpu frame index : ℕ) (rest : List ℕ) (cpu_within : cpu < s.cpus) (current : (lists_of s cache cpu).current ≡ Some frame) (first : (lists_of s cache cpu).free ≡ index ∷ rest) where
    -- it is there, so it is nowhere else
    on-cpu : 0 < on_cpu frame index (lists_of s cache cpu)
    on-cpu =
        let e : on_cpu frame index (lists_of s cache cpu) ≡ if_current frame (times index (index ∷ rest)) (Some frame) = ap (if_current frame (times index (lists_of s cache cpu).free)) current ∙ ap (λ l. if_current frame (times index l) (Some frame)) first in
        omega (arith, e, current-same frame frame (times index (index ∷ rest)) refl, times-cons index index rest, current-same index index 1 refl)

    counted : 0 < sum_by (on_cpu frame index) s.cpu_lists
    counted = omega (arith, on-cpu, element-counted (on_cpu frame index) s.cpu_lists (cpu_place s cache cpu) no_lists refl)

    one-object : (x : Option Slab) → has_object index x ≤ 1
    one-object None = omega arith
    one-object (Some slab) = grind (arith, nat_tests)

    pub unheld : sum_by (held_here frame index) s.board ≡ 0
    unheld = omega (arith, consistent.placed frame index, counted, one-object (slab_of s frame))

    -- it is one of the slab's objects, which the layout bounds
    objects-most : (x : Option Slab) → 0 < has_object index x → IfSome x (λ slab. slab.cache ≡ cache) → IfSome x (λ slab. MatchOption (cache_of s slab.cache) ⊥ (λ live. IsSlabOf live.layout slab)) → index < layout.objects
    objects-most None some own fits = absurd (omega arith)
    objects-most (Some slab) some own fits =
        let here : index < slab.objects = grind (arith, nat_tests, some) in
        let of = layout-at (cache_of s cache) layout (λ l. IsSlabOf l slab) has (weaker (λ live. IsSlabOf live.layout slab) (cache_of s cache) (subst (λ n. MatchOption (cache_of s n) ⊥ (λ live. IsSlabOf live.layout slab)) own fits)) in
        elim of [
          | inl wide ↦ omega (arith, here, wide.1)
          | inr least ↦ omega (arith, here, least.1, layout-good.1.made.min_objects_slab.1)
        ]
      where
        weaker : (P : Cache → Type 0) (x : Option Cache) → MatchOption x ⊥ P → IfSome x P
        weaker P None h = tt
        weaker P (Some live) h = h

    pub index-most : index < layout.objects
    index-most = objects-most (slab_of s frame) (omega (arith, consistent.placed frame index, counted)) (consistent.listed.of_current cache cpu frame cpu_within current) (consistent.shaped.slab frame)

    pub frame-most : frame < 4096
    frame-most = omega (arith, current-inside s cache cpu consistent cache-within cpu_within frame current, consistent.shaped.frames.1)

    pub with_given-consistent : (object worker : ℕ) → (1 ≤ object) × (object < length s.board) → get_or s.board object None ≡ None
        → IsConsistent (with_given s cache cpu (record { current = Some frame; free = rest; partial = (lists_of s cache cpu).partial }) object (record { frame = frame; index = index; cache = cache; worker = Some worker }))
    with_given-consistent object worker slot unused =
        let held : Held = record { frame = frame; index = index; cache = cache; worker = Some worker } in
        let v : CpuLists = record { current = Some frame; free = rest; partial = (lists_of s cache cpu).partial } in
        let inside = place-inside s cache cpu consistent.shaped cache-within cpu_within in
        record {
          shaped = shaped-with_given s cache cpu object frame index worker rest slot.0 (current-live s cache cpu consistent cache-within cpu_within frame current)
              (checked-lists s cache cpu cpu_within (apart-current s cache cpu frame cpu_within current) v (set s.board object (Some held)) (set s.live cache (get_or s.live cache 0 + 1)) consistent.shaped.checked)
              consistent.shaped;
          placed = placed-with_given s cache cpu inside object frame index worker rest slot.1 unused current first consistent.placed;
          framed = consistent.framed;
          listed = listed-with_given s cache cpu cpu_within inside object frame rest held current consistent.listed;
          accounted = accounted-with_held s object held (omega (arith, consistent.shaped.live, cache-within)) slot.1 unused consistent.accounted;
        }

-- a count is far from its end
pub count-room : (s : State) (cache : ℕ) → IsConsistent s → get_or s.live cache 0 ≤ 2 ^ 32
count-room s cache consistent = omega (arith, accounted-most s cache consistent.accounted, consistent.shaped.board)

-- a new slab has an object
pub lists-with_new_slab : (s : State) (cache cpu : ℕ) (pool : FreeFrames) (run : Run) → cpu_place s cache cpu < length s.cpu_lists → 1 ≤ run.objects → 0 < length (lists_of (with_new_slab s cache cpu pool run) cache cpu).free
lists-with_new_slab s cache cpu pool run inside some =
    let v : CpuLists = record { current = Some run.frame; free = range_with_len 0 run.objects; partial = (lists_of s cache cpu).partial } in
    let now = ap (λ (l : CpuLists). length l.free) (get_or-set_same s.cpu_lists (cpu_place s cache cpu) v no_lists inside) in
    omega (arith, now, length-range_with_len 0 run.objects)

-- what is given from the machine that is stocked
pub MatchResult-stocked : (r : Result State State) (mid : State) (P Q : State → Type 0) → IsStocked r true mid → P mid → MatchResult r P Q
MatchResult-stocked (Ok stocked) mid P Q h given = subst P h.1 given
MatchResult-stocked (Err bare) mid P Q h given = cc

pub MatchResult-bare : (r : Result State State) (mid : State) (P Q : State → Type 0) → IsStocked r false mid → Q mid → MatchResult r P Q
MatchResult-bare (Ok stocked) mid P Q h given = cc
MatchResult-bare (Err bare) mid P Q h given = subst Q h.1 given

-- what is said of the slabs of a checked cache, and where there are none
pub from-checked : {X : Type 0} (x : Option X) (P : Type 0) (Q : X → Type 0) → MatchOption x ⊥ Q → MatchOption x P Q
from-checked None P Q h = absurd h
from-checked (Some y) P Q h = h

pub from-unchecked : {X : Type 0} (x : Option X) (P : Type 0) (Q : X → Type 0) → x ≡ None → P → MatchOption x P Q
from-unchecked None P Q none h = h
from-unchecked (Some y) P Q none h = cc

-- what is said of a live cache, where there is one
pub live-match : {X : Type 0} (x : Option X) (P : X → Type 0) → IsSome x → IfSome x P → MatchOption x ⊥ P
live-match None P some h = cc
live-match (Some y) P some h = h

-- what is read of a CPU's lists under another name
pub current-of : (l m : CpuLists) (frame : ℕ) → l ≡ m → l.current ≡ Some frame → m.current ≡ Some frame
current-of l m frame e current = sym (ap (λ (l : CpuLists). l.current) e) ∙ current

pub first-of : (l m : CpuLists) (index : ℕ) (rest : List ℕ) → l ≡ m → l.free ≡ index ∷ rest → m.free ≡ index ∷ rest
first-of l m index rest e first = sym (ap (λ (l : CpuLists). l.free) e) ∙ first

-- a CPU freelist that isn't empty, of a machine under another name
pub stocked-at : (s after : State) (cache cpu : ℕ) → after ≡ s → 0 < length (lists_of s cache cpu).free → 0 < length (lists_of after cache cpu).free
stocked-at s after cache cpu e some = subst (λ (t : State). 0 < length (lists_of t cache cpu).free) (sym e) some
