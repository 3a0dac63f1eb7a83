use Rattle.std.proofs.Common.{◌≡◌, ◌≤◌, ℕ, List, length, take, get_or, ◌∙◌, ap, subst, arith, Some, slice_get}
use Rattle.std.proofs.lemmas.List.{take_all}
use Rattle.std.proofs.lemmas.Option.{slice_get-get_or}
use Rattle.slub_cache_create.specs.Table.{Table}
use Rattle.slub_lists.specs.Alloc.{cache_of}
use Rattle.slub_engine.specs.Sums.{AreSums}
use Rattle.slub_engine.proofs.Few.{ages_few}
use Rattle.slub_engine.proofs.Counted.{aged_live, read_few, sums_more, sums_reversed}
use Rattle.slub_engine.proofs.sums.CacheSums.of.Goals as goal

pub cache_counts-requires-clause-live : goal.cache_counts-requires-clause-live
cache_counts-requires-clause-live c =
    let same : c.in_order-ages.result.now ≡ c.args.lists.now.table.ages = c.in_order-ages.ensures.value ∙ ap (λ (table : Table). table.ages) c.caches.ensures in
    let here = subst (λ (ages : List ℕ). slice_get ages c.loop-cache.cache-index ≡ Some (get_or c.in_order-ages.result.now c.loop-cache.cache-index 0)) same (slice_get-get_or c.in_order-ages.result.now c.loop-cache.cache-index 0 c.loop-cache-test.true) in
    aged_live c.args.lists.now c.loop-cache.cache-index _ c.requires here

pub add-requires-clause-room : goal.add-requires-clause-room
add-requires-clause-room c =
    let same : c.in_order-ages.result.now ≡ c.args.lists.now.table.ages = c.in_order-ages.ensures.value ∙ ap (λ (table : Table). table.ages) c.caches.ensures in
    let few = ages_few c.args.lists.now.table c.requires.shaped.table in
    let long = ap (λ (ages : List ℕ). length ages) same in
    let small = c.loop-cache.invariant.small in
    let within : c.loop-cache.cache-index ≤ 32 = omega (arith, few, long) in
    record {
      live = omega (arith, within, small.live);
      free = omega (arith, within, small.free);
      aside = omega (arith, within, small.aside);
      frozen = omega (arith, within, small.frozen);
      slabs = omega (arith, within, small.slabs);
    }

pub add-requires-clause-small : goal.add-requires-clause-small
add-requires-clause-small c =
    let same : c.in_order-ages.result.now ≡ c.args.lists.now.table.ages = c.in_order-ages.ensures.value ∙ ap (λ (table : Table). table.ages) c.caches.ensures in
    let cache = get_or c.in_order-ages.result.now c.loop-cache.cache-index 0 in
    let here = subst (λ (ages : List ℕ). slice_get ages c.loop-cache.cache-index ≡ Some cache) same (slice_get-get_or c.in_order-ages.result.now c.loop-cache.cache-index 0 c.loop-cache-test.true) in
    read_few c.args.lists.now cache c.cache_counts.result (cache_of c.args.lists.now cache) c.requires (aged_live c.args.lists.now c.loop-cache.cache-index cache c.requires here) c.cache_counts.ensures

pub loop-cache-preserved : goal.loop-cache-preserved
loop-cache-preserved c =
    let same : c.in_order-ages.result.now ≡ c.args.lists.now.table.ages = c.in_order-ages.ensures.value ∙ ap (λ (table : Table). table.ages) c.caches.ensures in
    let cache = get_or c.in_order-ages.result.now c.loop-cache.cache-index 0 in
    let here = subst (λ (ages : List ℕ). slice_get ages c.loop-cache.cache-index ≡ Some cache) same (slice_get-get_or c.in_order-ages.result.now c.loop-cache.cache-index 0 c.loop-cache-test.true) in
    let few = read_few c.args.lists.now cache c.cache_counts.result (cache_of c.args.lists.now cache) c.requires (aged_live c.args.lists.now c.loop-cache.cache-index cache c.requires here) c.cache_counts.ensures in
    let small = c.loop-cache.invariant.small in
    record {
      sums = sums_more c.args.lists.now c.loop-cache.cache-index cache c.cache_counts.result c.loop-cache.sums c.add.new.self c.requires here c.cache_counts.ensures c.loop-cache.invariant.sums
          c.add.ensures.live c.add.ensures.free c.add.ensures.aside c.add.ensures.frozen c.add.ensures.slabs;
      small = record {
        live = omega (arith, c.add.ensures.live, few.live, small.live);
        free = omega (arith, c.add.ensures.free, few.free, small.free);
        aside = omega (arith, c.add.ensures.aside, few.aside, small.aside);
        frozen = omega (arith, c.add.ensures.frozen, few.frozen, small.frozen);
        slabs = omega (arith, c.add.ensures.slabs, few.slabs, small.slabs);
      };
    }

pub returns : goal.returns
returns c =
    let same : c.in_order-ages.result.now ≡ c.args.lists.now.table.ages = c.in_order-ages.ensures.value ∙ ap (λ (table : Table). table.ages) c.caches.ensures in
    let long = ap (λ (ages : List ℕ). length ages) same in
    let all : take c.loop-cache.cache-index c.args.lists.now.table.ages ≡ c.args.lists.now.table.ages = take_all c.loop-cache.cache-index c.args.lists.now.table.ages (omega (arith, long)) in
    sums_reversed c.args.lists.now c.args.lists.now.table.ages c.loop-cache.sums (subst (λ (ages : List ℕ). AreSums c.args.lists.now ages c.loop-cache.sums) all c.loop-cache.invariant.sums)
