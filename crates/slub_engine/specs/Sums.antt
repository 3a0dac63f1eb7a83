-- The sums over the live caches.
use Rattle.std.specs.Prelude.{◌≡◌, ℕ, ◌≤◌, List}
use Rattle.slub_lists.specs.State.{State}
use Rattle.slub_slabinfo_text.specs.declared.counts.Counts.{Counts}
use Rattle.slub_slabinfo_text.specs.Lawful.{counted}
use Rattle.slub_engine.specs.declared.sums.CacheSums.{CacheSums}

-- the sums of the counts of these caches, as far as they are live
pub record AreSums (s : State) (caches : List ℕ) (sums : CacheSums) : Type 0 where
  pub live : sums.live ≡ counted (λ counts. counts.live) s caches
  pub free : sums.free ≡ counted (λ counts. counts.free) s caches
  pub aside : sums.aside ≡ counted (λ counts. counts.aside) s caches
  pub frozen : sums.frozen ≡ counted (λ counts. counts.frozen) s caches
  pub slabs : sums.slabs ≡ counted (λ counts. counts.num_slabs) s caches

-- none of the sums is above this number
pub record AreAtMost (most : ℕ) (sums : CacheSums) : Type 0 where
  pub live : sums.live ≤ most
  pub free : sums.free ≤ most
  pub aside : sums.aside ≤ most
  pub frozen : sums.frozen ≤ most
  pub slabs : sums.slabs ≤ most

-- none of the counts that are summed up is above this number
pub record IsAtMost (most : ℕ) (counts : Counts) : Type 0 where
  pub live : counts.live ≤ most
  pub free : counts.free ≤ most
  pub aside : counts.aside ≤ most
  pub frozen : counts.frozen ≤ most
  pub slabs : counts.num_slabs ≤ most
