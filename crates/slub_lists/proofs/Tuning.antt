-- A number of a live cache is set: the machine stays coherent, and slabs go by the flush alone.
use Rattle.std.proofs.Common.{◌≡◌, ℕ, ◌≤◌, Bool, true, false, List, get_or, set, Option, Some, None, option_map, is_some, IsSome, IfSome, MatchOption, refl, ap, sym, ◌∙◌, subst, arith}
use Rattle.std.specs.Option.{option_map_or}
use Rattle.slub_object_layout.specs.declared.layout.Layout.{Layout}
use Rattle.slub_object_layout.specs.declared.layout.Flags.{Flags}
use Rattle.slub_object_layout.specs.declared.layout.Setting.{Setting}
use Rattle.slub_object_layout.specs.declared.layout.Setting.TheVariants.{MinPartial, CpuPartial}
use Rattle.slub_object_layout.specs.Layout.{is_checked}
use Rattle.slub_cache_create.specs.declared.caches.Cache.{Cache}
use Rattle.slub_cache_create.specs.Sound.{IsSound as IsSoundTable}
use Rattle.slub_cache_create.specs.Table.{Table, cache_of as live_cache}
use Rattle.slub_cache_create.specs.Tune.{Takes, tuned as tuned_cache, with_setting as table_with_setting}
use Rattle.slub_red_zone.specs.State.{CheckedState}
use Rattle.slub_lists.specs.declared.lists.Slab.{Slab}
use Rattle.slub_lists.specs.State.{State}
use Rattle.slub_lists.specs.Alloc.{cache_of, checked_of, slab_of}
use Rattle.slub_lists.specs.Coherent.{AreChecked, IsCacheOf, IsCheckedOf, IsCoherent, IsSlabOf, KeepsMachine}
use Rattle.slub_lists.specs.Leaving.{LeavesSlabs}
use Rattle.slub_lists.specs.Shrink.{flushed_below, min_partial_of}
use Rattle.slub_lists.specs.Shrinking.{KeepsChecked}
use Rattle.slub_lists.specs.Tune.{TunesCache, tuned, with_setting}
use Rattle.slub_common.proofs.Writes.{at_written}
use Rattle.slub_lists.proofs.CheckedSlabs.{some_weaker}
use Rattle.slub_lists.proofs.ComingFree.{frees-lost}
use Rattle.slub_lists.proofs.Leaving.{leaves-both, leaves-same}
use Rattle.slub_lists.proofs.Destroying.{tabled, tabled-checked, tabled-coherent}

-- ---- one cache

-- its slabs stay slabs of it
slab-still : (setting : Setting) (slab : Slab) (x : Option Cache) → MatchOption x ⊥ (λ live. IsSlabOf live.layout slab) → MatchOption (option_map (tuned_cache setting) x) ⊥ (λ live. IsSlabOf live.layout slab)
slab-still (MinPartial slabs) slab None h = h
slab-still (MinPartial slabs) slab (Some live) h = h
slab-still (CpuPartial objects) slab None h = h
slab-still (CpuPartial objects) slab (Some live) h = h

flags-still : (setting : Setting) (b : Bool) (x : Option Cache) → IfSome x (λ live. is_checked live.flags ≡ b) → IfSome (option_map (tuned_cache setting) x) (λ live. is_checked live.flags ≡ b)
flags-still setting b None h = h
flags-still setting b (Some live) h = h

-- a checked cache of which `min_partial` is set is that of its slabs still
checked-still : (slabs : ℕ) (own : CheckedState) (x : Option Cache) → MatchOption x ⊥ (λ live. IsCacheOf own live.layout live.flags)
    → MatchOption (option_map (tuned_cache (MinPartial slabs)) x) ⊥ (λ live. IsCacheOf own live.layout live.flags)
checked-still slabs own None h = h
checked-still slabs own (Some live) h = (ap (λ (layout : Layout). record layout { min_partial = slabs }) h.0, h.1)

-- ---- the machine

module _ (s : State) (cache : ℕ) (setting : Setting) (coherent : IsCoherent s) (sound : IsSoundTable (table_with_setting s.table cache setting))
    (still : (own : CheckedState) (x : Option Cache) → checked_of s cache ≡ Some own → MatchOption x ⊥ (λ live. IsCacheOf own live.layout live.flags)
    → MatchOption (option_map (tuned_cache setting) x) ⊥ (λ live. IsCacheOf own live.layout live.flags)) where
  abbrev set-table : Table
  set-table = table_with_setting s.table cache setting

  -- what a setting doesn't touch holds of each cache after it
  at-set : (P : Option Cache → Type 0) (c : ℕ) → (c ≡ cache → (x : Option Cache) → P x → P (option_map (tuned_cache setting) x)) → P (cache_of s c) → P (live_cache set-table c)
  at-set P c closed old =
      at_written P s.table.caches cache c (option_map (tuned_cache setting) (cache_of s cache)) None (λ e. closed e (cache_of s cache) (subst (λ n. P (cache_of s n)) e old)) old

  set-checked : AreChecked (tabled s set-table s.checked coherent sound)
  set-checked =
      let are = coherent.shaped.checked in
      record {
        numbers = are.numbers;
        those = λ c. those c (checked_of s c) refl (are.those c);
        all = λ c. at-set (λ x. IfSome x (λ live. is_checked live.flags ≡ is_some (checked_of s c))) c (λ e. flags-still setting (is_some (checked_of s c))) (are.all c);
      }
    where
      those : (c : ℕ) (x : Option CheckedState) → checked_of s c ≡ x → IfSome x (IsCheckedOf s c) → IfSome x (IsCheckedOf (tabled s set-table s.checked coherent sound) c)
      those c None is of = tt
      those c (Some own) is of =
          tabled-checked s set-table s.checked coherent sound c own
          (at-set (λ x. MatchOption x ⊥ (λ live. IsCacheOf own live.layout live.flags)) c (λ e x. still own x (sym (ap (checked_of s) e) ∙ is)) of.live) of

  set-coherent : IsCoherent (with_setting s cache setting)
  set-coherent =
      tabled-coherent s set-table s.checked coherent sound set-checked
      (λ f. some_weaker (slab_of s f) (λ slab. MatchOption (cache_of s slab.cache) ⊥ (λ live. IsSlabOf live.layout slab)) (λ slab. MatchOption (live_cache set-table slab.cache) ⊥ (λ live. IsSlabOf live.layout slab))
      (λ slab. at-set (λ x. MatchOption x ⊥ (λ live. IsSlabOf live.layout slab)) slab.cache (λ e. slab-still setting slab)) (coherent.shaped.slab f))
      (λ f i. refl)

pub min_partial-coherent : (s : State) (cache slabs : ℕ) → IsCoherent s → IsSoundTable (table_with_setting s.table cache (MinPartial slabs)) → IsCoherent (with_setting s cache (MinPartial slabs))
min_partial-coherent s cache slabs coherent sound = set-coherent s cache (MinPartial slabs) coherent sound (λ own x is. checked-still slabs own x)

pub cpu_partial-coherent : (s : State) (cache objects : ℕ) → IsCoherent s → checked_of s cache ≡ None → IsSoundTable (table_with_setting s.table cache (CpuPartial objects))
    → IsCoherent (with_setting s cache (CpuPartial objects))
cpu_partial-coherent s cache objects coherent unchecked sound =
    set-coherent s cache (CpuPartial objects) coherent sound (λ own x is. absurd (nothing (sym unchecked ∙ is)))
  where
    nothing : {own : CheckedState} → ◌≡◌ {A = Option CheckedState} None (Some own) → ⊥
    nothing e = cc

-- ---- what a cache takes

-- one that isn't checked takes any number of objects
pub takes-objects : (s : State) (cache objects : ℕ) → IsCoherent s → checked_of s cache ≡ None → objects ≤ 4096 → IfSome (cache_of s cache) (λ live. Takes live.flags (CpuPartial objects))
takes-objects s cache objects coherent unchecked most =
    some_weaker (cache_of s cache) (λ live. is_checked live.flags ≡ is_some (checked_of s cache)) (λ live. Takes live.flags (CpuPartial objects))
    (λ live is. (most, λ checked. absurd (not-both (is_checked live.flags) checked (is ∙ ap is_some unchecked)))) (coherent.shaped.checked.all cache)
  where
    not-both : (b : Bool) → b ≡ true → b ≡ false → ⊥
    not-both b is isnt = cc

pub takes-slabs : (x : Option Cache) (slabs : ℕ) → slabs ≤ 4096 → IfSome x (λ live. Takes live.flags (MinPartial slabs))
takes-slabs None slabs most = tt
takes-slabs (Some live) slabs most = most

-- how many slabs the node list of a live cache keeps is in its layout
pub min_partial-is : (x : Option Cache) (layout : Layout) → IsSome x → IfSome x (λ live. layout ≡ live.layout) → layout.min_partial ≡ option_map_or (λ live. live.layout.min_partial) x 0
min_partial-is None layout some is = absurd (let never : ⊥ = cc in never)
min_partial-is (Some live) layout some is = ap (λ (l : Layout). l.min_partial) is

-- ---- the whole

tunes-cache : (s after : State) (cache : ℕ) (setting : Setting) → IsCoherent s → IsCoherent after → after.frames ≡ s.frames → after ≡ tuned s cache setting → LeavesSlabs s cache after → TunesCache s cache setting after
tunes-cache s after cache setting coherent coherent_after frames steps leaves =
    record { steps = steps; slabs = leaves; pages = frees-lost s after cache coherent coherent_after frames leaves }

-- `min_partial` is set
pub tunes-min_partial : (s after : State) (cache slabs : ℕ) → IsCoherent s → IsCoherent after → after ≡ with_setting s cache (MinPartial slabs) → TunesCache s cache (MinPartial slabs) after
tunes-min_partial s after cache slabs coherent coherent_after set =
    tunes-cache s after cache (MinPartial slabs) coherent coherent_after (ap (λ (t : State). t.frames) set) set (leaves-same s after cache (ap (λ (t : State). t.slabs) set))

-- the CPUs are flushed, and then the objects of their partial lists are set
pub tunes-unchecked : (s t after : State) (cache objects least : ℕ) → IsCoherent s → IsCoherent after → checked_of s cache ≡ None → least ≡ min_partial_of s cache
    → t ≡ flushed_below s least cache s.cpus → LeavesSlabs s cache t → KeepsChecked s t → after ≡ with_setting t cache (CpuPartial objects) → TunesCache s cache (CpuPartial objects) after
tunes-unchecked s t after cache objects least coherent coherent_after unchecked is flushed leaves rest set =
    tunes-cache s after cache (CpuPartial objects) coherent coherent_after (ap (λ (u : State). u.frames) set ∙ rest.held.frames)
    (rw unchecked (set ∙ ap (λ (u : State). with_setting u cache (CpuPartial objects)) (flushed ∙ ap (λ n. flushed_below s n cache s.cpus) is)))
    (leaves-both s t after cache leaves (leaves-same t after cache (ap (λ (u : State). u.slabs) set)))

-- a checked cache stays as it is
pub tunes-nothing : (s : State) (cache objects : ℕ) → IsCoherent s → IsSome (checked_of s cache) → TunesCache s cache (CpuPartial objects) s
tunes-nothing s cache objects coherent checked = tunes-cache s s cache (CpuPartial objects) coherent coherent refl (rw checked refl) (leaves-same s s cache refl)
