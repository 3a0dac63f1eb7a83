-- Which live cache a new one is merged with, after `slab_unmergeable` and `find_mergeable` of Linux
-- 6.1.
use Rattle.std.specs.Prelude.{◌≡◌, ℕ, ◌+◌, ◌-◌, ◌%◌, ◌<◌, ◌≤◌, max, false, List, ◌∷◌, ◌++◌, MatchOption, All}
use Rattle.slub_object_layout.specs.declared.layout.Spec.{Spec}
use Rattle.slub_object_layout.specs.Layout.{align_up, alignment_of, is_checked}
use Rattle.slub_cache_create.specs.declared.caches.Cache.{Cache}
use Rattle.slub_cache_create.specs.Table.{Table, cache_of}

-- the slot that a new cache asks for: its size, rounded up to words and then to its alignment
abbrev pub wanted_of : Spec → ℕ
wanted_of spec = align_up (align_up spec.size 8) (alignment_of spec)

-- objects of a new cache can lie in the slots of this live one, and waste less than a word (F is a
-- profile flag)
pub record Fits (live : Cache) (spec : Spec) : Type 0 where
  -- none of F, Z and P is set on either side
  pub unchecked : is_checked live.flags ≡ false
  pub new_unchecked : is_checked spec.flags ≡ false
  pub reclaim : live.flags.reclaim ≡ spec.flags.reclaim
  pub holds : wanted_of spec ≤ live.layout.size
  pub aligned : live.layout.size % alignment_of spec ≡ 0
  pub close : live.layout.size - wanted_of spec < 8

-- the cache of this number is live, and it fits
abbrev pub FitsAt : Table → Spec → ℕ → Type 0
FitsAt s spec cache = MatchOption (cache_of s cache) ⊥ (λ live. Fits live spec)

-- the oldest live cache that fits: the first by age, and none before it fits
pub record IsOldestFit (s : Table) (spec : Spec) (cache : ℕ) : Type 0 where
  pub older : List ℕ
  pub newer : List ℕ
  pub aged : s.ages ≡ older ++ cache ∷ newer
  pub fits : FitsAt s spec cache
  pub none_older : All (λ other. ¬ FitsAt s spec other) older

-- no live cache fits
abbrev pub NoneFits : Table → Spec → Type 0
NoneFits s spec = All (λ cache. ¬ FitsAt s spec cache) s.ages

-- a live cache that a new one was merged with: the greater sizes, and one more name
-- (`__kmem_cache_alias`)
abbrev pub merged_with : Spec → Cache → Cache
merged_with spec live = record live {
  layout = record live.layout {
    object_size = max live.layout.object_size spec.size;
    inuse = max live.layout.inuse (align_up spec.size 8);
  };
  names = live.names + 1;
}
