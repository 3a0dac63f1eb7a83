-- Sums over caches, one more at a time.
use Rattle.std.proofs.Common.{◌≡◌, ℕ, ◌+◌, ◌^◌, ◌≤◌, Bool, true, false, cond, eqb, List, [], ◌∷◌, ◌++◌, take, get_or, reverse, refl, sym, ◌∙◌, ap, arith, Option, Some, None, IsSome, IfSome, is_some, slice_get}
use Rattle.std.specs.List.{filter_map}
use Rattle.std.proofs.lemmas.Bool.Decides.{nat_tests}
use Rattle.std.proofs.lemmas.List.{take_more}
use Rattle.std.proofs.lemmas.List.Elements.{filter_map-append}
use Rattle.std.proofs.lemmas.List.Sums.{get_or-le-sum_by, sum_by-append}
use Rattle.std.proofs.lemmas.Option.{get_or_from_slice_get, slice_get_within}
use Rattle.slub_cache_create.specs.declared.caches.Cache.{Cache}
use Rattle.slub_lists.specs.State.{State}
use Rattle.slub_lists.specs.Alloc.{cache_of}
use Rattle.slub_common.specs.Times.{times}
use Rattle.slub_lists.specs.Coherent.{IsCoherent}
use Rattle.slub_slabinfo_text.specs.declared.counts.Counts.{Counts}
use Rattle.slub_slabinfo_text.specs.declared.counts.InfoRow.{InfoRow}
use Rattle.slub_slabinfo_text.specs.Counts.{counts_of, row_of, row_with}
use Rattle.slub_slabinfo_text.specs.Lawful.{counted}
use Rattle.slub_slabinfo_text.proofs.Rows.{reversed_rows}
use Rattle.slub_engine.specs.declared.sums.CacheSums.{CacheSums}
use Rattle.slub_engine.specs.Sums.{AreSums, IsAtMost}
use Rattle.slub_engine.proofs.Few.{counts_few}

-- a cache of the ages is live
pub aged_live : (s : State) (at cache : ℕ) → IsCoherent s → slice_get s.table.ages at ≡ Some cache → IsSome (cache_of s cache)
aged_live s at cache coherent here =
    let within = slice_get_within s.table.ages at cache here in
    let mine : get_or s.table.ages at 0 ≡ cache = get_or_from_slice_get s.table.ages at cache 0 here in
    let counted = get_or-le-sum_by (λ y. cond (eqb y cache) 1 0) s.table.ages at 0 within in
    go (is_some (cache_of s cache)) refl counted mine
  where
    go : (b : Bool) → is_some (cache_of s cache) ≡ b → cond (eqb (get_or s.table.ages at 0) cache) 1 0 ≤ times cache s.table.ages → get_or s.table.ages at 0 ≡ cache → IsSome (cache_of s cache)
    go true is counted mine = is
    go false is counted mine =
        let none : times cache s.table.ages ≡ 0 = coherent.shaped.table.aged cache ∙ rw is refl in
        absurd (let never : ⊥ = grind (arith, nat_tests) in never)

-- one more cache
counted_more : (number : Counts → ℕ) (s : State) (at cache : ℕ) (counts : Counts) (found : Option Cache) → slice_get s.table.ages at ≡ Some cache → IsSome found → cache_of s cache ≡ found
    → IfSome found (λ live. counts ≡ counts_of s cache live.layout)
    → counted number s (take (at + 1) s.table.ages) ≡ counted number s (take at s.table.ages) + number counts
counted_more number s at cache counts None here some is of_it = absurd (let never : ⊥ = cc in never)
counted_more number s at cache counts (Some live) here some is of_it =
    let more : take (at + 1) s.table.ages ≡ take at s.table.ages ++ cache ∷ [] = take_more s.table.ages at 0 (slice_get_within s.table.ages at cache here) ∙ ap (λ (c : ℕ). take at s.table.ages ++ c ∷ []) (get_or_from_slice_get s.table.ages at cache 0 here) in
    let row : filter_map (row_of s) (cache ∷ []) ≡ row_with s cache live ∷ [] = rw is refl in
    let joined : filter_map (row_of s) (take (at + 1) s.table.ages) ≡ filter_map (row_of s) (take at s.table.ages) ++ row_with s cache live ∷ [] = rw more (filter_map-append (row_of s) (take at s.table.ages) (cache ∷ []) ∙ ap (λ rows. filter_map (row_of s) (take at s.table.ages) ++ rows) row) in
    rw (joined, of_it) (omega (arith, sum_by-append (λ (row : InfoRow). number row.counts) (filter_map (row_of s) (take at s.table.ages)) (row_with s cache live ∷ [])))

pub sums_more : (s : State) (at cache : ℕ) (counts : Counts) (sums after : CacheSums) → IsCoherent s → slice_get s.table.ages at ≡ Some cache
    → IfSome (cache_of s cache) (λ live. counts ≡ counts_of s cache live.layout)
    → AreSums s (take at s.table.ages) sums
    → after.live ≡ sums.live + counts.live → after.free ≡ sums.free + counts.free → after.aside ≡ sums.aside + counts.aside
    → after.frozen ≡ sums.frozen + counts.frozen → after.slabs ≡ sums.slabs + counts.num_slabs
    → AreSums s (take (at + 1) s.table.ages) after
sums_more s at cache counts sums after coherent here of_it so_far live free aside frozen slabs =
    let more = λ (number : Counts → ℕ). counted_more number s at cache counts (cache_of s cache) here (aged_live s at cache coherent here) refl of_it in
    record {
      live = omega (arith, live, so_far.live, more (λ counts. counts.live));
      free = omega (arith, free, so_far.free, more (λ counts. counts.free));
      aside = omega (arith, aside, so_far.aside, more (λ counts. counts.aside));
      frozen = omega (arith, frozen, so_far.frozen, more (λ counts. counts.frozen));
      slabs = omega (arith, slabs, so_far.slabs, more (λ counts. counts.num_slabs));
    }

pub read_few : (s : State) (cache : ℕ) (counts : Counts) (found : Option Cache) → IsCoherent s → IsSome found → IfSome found (λ live. counts ≡ counts_of s cache live.layout) → IsAtMost (2 ^ 32) counts
read_few s cache counts None coherent some of_it = absurd (let never : ⊥ = cc in never)
read_few s cache counts (Some live) coherent some of_it = rw of_it (counts_few s cache live.layout coherent)

-- the sums don't ask in which order the caches stand
pub sums_reversed : (s : State) (caches : List ℕ) (sums : CacheSums) → AreSums s caches sums → AreSums s (reverse caches) sums
sums_reversed s caches sums are = record {
  live = are.live ∙ sym (reversed_rows (λ counts. counts.live) s caches);
  free = are.free ∙ sym (reversed_rows (λ counts. counts.free) s caches);
  aside = are.aside ∙ sym (reversed_rows (λ counts. counts.aside) s caches);
  frozen = are.frozen ∙ sym (reversed_rows (λ counts. counts.frozen) s caches);
  slabs = are.slabs ∙ sym (reversed_rows (λ counts. counts.num_slabs) s caches);
}
