-- What shrinking a cache leaves.
use Rattle.std.proofs.Common.{◌≡◌, ℕ, ◌<◌, length, refl, arith, Option, Some, None, IsSome, MatchOption}
use Rattle.slub_red_zone.specs.State.{CheckedState}
use Rattle.slub_cache_create.specs.declared.caches.Cache.{Cache}
use Rattle.slub_lists.specs.State.{State}
use Rattle.slub_lists.specs.Alloc.{cache_of, checked_of}
use Rattle.slub_lists.specs.Coherent.{IsCoherent}
use Rattle.slub_lists.specs.Shrink.{ShrinksByKind, ShrinksCache, ShrinksChecked, ShrinksUnchecked, flushed_below}
use Rattle.slub_law_replay.specs.Shrinking.{LeavesUsed, LeavesUsedListed, LeavesUsedSlabs}
use Rattle.slub_law_replay.proofs.AddsUp.{is_number}
use Rattle.slub_law_replay.proofs.Flushed.{flushed-nodes, flushed-once}
use Rattle.slub_law_replay.proofs.Swept.{sweep-leaves}
use Rattle.slub_law_replay.proofs.SweptChecked.{sweep-leaves-listed}

module _ (s after : State) (cache : ℕ) (coherent : IsCoherent s) (within : cache < 32) where
  by-unchecked : (min_partial : ℕ) → ShrinksUnchecked s min_partial cache after → LeavesUsed (flushed_below s min_partial cache s.cpus) cache after
  by-unchecked min_partial done =
      let t : State = flushed_below s min_partial cache s.cpus in
      let nodes = flushed-nodes s min_partial cache s.cpus in
      let slot : cache < length s.nodes = omega (arith, within, coherent.shaped.nodes) in
      sweep-leaves cache t after (omega (arith, slot, nodes)) (flushed-once s min_partial cache s.cpus slot coherent.listed.once) done

  by-kind : (live : Option Cache) (slabs : Option CheckedState) → checked_of s cache ≡ slabs
      → MatchOption live ⊥ (λ live. MatchOption slabs (ShrinksUnchecked s live.layout.min_partial cache after) (λ slabs. ShrinksChecked s cache slabs after))
      → MatchOption live ⊥ (λ live. MatchOption slabs (LeavesUsed (flushed_below s live.layout.min_partial cache s.cpus) cache after) (λ slabs. LeavesUsedListed slabs cache after))
  by-kind None slabs is done = done
  by-kind (Some live) None is done = by-unchecked live.layout.min_partial done
  by-kind (Some live) (Some slabs) is done = sweep-leaves-listed cache s after slabs coherent is done

  leaves-used : ShrinksByKind s cache after → LeavesUsedSlabs s cache after
  leaves-used done = by-kind (cache_of s cache) (checked_of s cache) refl done

-- what is shrunk is a live cache
is-live : (s : State) (cache : ℕ) (after : State) → ShrinksByKind s cache after → IsSome (cache_of s cache)
is-live s cache after done = by (cache_of s cache) done
  where
    by : (live : Option Cache) → MatchOption live ⊥ (λ live. MatchOption (checked_of s cache) (ShrinksUnchecked s live.layout.min_partial cache after) (λ slabs. ShrinksChecked s cache slabs after)) → IsSome live
    by None done = absurd done
    by (Some live) done = refl

pub shrinks-leaves : (s : State) (cache : ℕ) (after : State) → IsCoherent s → ShrinksCache s cache after → LeavesUsedSlabs s cache after
shrinks-leaves s cache after coherent done =
    leaves-used s after cache coherent (is_number s cache coherent.shaped (is-live s cache after done.steps)) done.steps
