-- Each item that is neither a round nor a client's line leaves ids that fit.
use Rattle.std.proofs.Common.{◌≡◌, ◌≢◌, ℕ, Bool, cond, List, set, Option, Some, None, is_some, IsSome, MatchOption, Result, Ok, Err, refl, sym, ap, subst}
use Rattle.slub_common.specs.declared.no_such_cache.NoSuchCache.{NoSuchCache}
use Rattle.slub_common.proofs.Writes.{at_written}
use Rattle.slub_object_layout.specs.declared.layout.Setting.{Setting}
use Rattle.slub_object_layout.specs.declared.layout.Setting.TheVariants.{MinPartial, CpuPartial}
use Rattle.slub_object_layout.specs.declared.layout.Spec.{Spec}
use Rattle.slub_cache_create.specs.declared.caches.Cache.{Cache}
use Rattle.slub_cache_create.specs.declared.caches.Created.TheVariants as made
use Rattle.slub_cache_create.specs.Create.{with_alias, with_cache}
use Rattle.slub_cache_create.specs.Drop.{less_named, without_alias, without_cache}
use Rattle.slub_cache_create.specs.Merging.{merged_with}
use Rattle.slub_cache_create.specs.Table.{Table, number_of, cache_of as live_cache}
use Rattle.slub_cache_create.specs.Tune.{tuned as tuned_cache, with_setting as table_with_setting}
use Rattle.slub_red_zone.specs.State.{CheckedState}
use Rattle.slub_trace.specs.declared.create.Created.{Created}
use Rattle.slub_trace.specs.declared.create.Created.TheVariants.{New, Merged}
use Rattle.slub_trace.specs.declared.create.CreateRefusal.{CreateRefusal}
use Rattle.slub_trace.specs.declared.destroy.Destroyed.{Destroyed}
use Rattle.slub_trace.specs.declared.destroy.Destroyed.TheVariants.{NameDropped, Gone}
use Rattle.slub_trace.specs.declared.destroy.DestroyRefusal.{DestroyRefusal}
use Rattle.slub_trace.specs.declared.destroy.DestroyRefusal.TheVariants.{NoSuchCache as NotLive, Busy}
use Rattle.slub_trace.specs.declared.tune.TuneRefusal.{TuneRefusal}
use Rattle.slub_trace.specs.declared.tune.TuneRefusal.TheVariants as unset
use Rattle.slub_lists.specs.State.{State}
use Rattle.slub_lists.specs.Alloc.{cache_of, checked_of}
use Rattle.slub_lists.specs.Coherent.{IsCoherent}
use Rattle.slub_lists.specs.Create.{CreatesCache}
use Rattle.slub_lists.specs.Destroy.{Destroys, without}
use Rattle.slub_lists.specs.Shrink.{ShrinksCache, Shrinks, flushed_below, has_slab, min_partial_of}
use Rattle.slub_lists.specs.Tune.{Tunes, tuned, with_setting}
use Rattle.slub_trace.specs.declared.trace.Item.TheVariants as item
use Rattle.slub_trace.specs.declared.trace.Trace.{Trace}
use Rattle.slub_trace.specs.Sound.{IsSound}
use Rattle.slub_slabinfo_text.specs.declared.journal.Done.TheVariants as done
use Rattle.slub_slabinfo_text.specs.Lawful.{CreatesName, DoesPlain, name_at}
use Rattle.slub_open_close.specs.Ids.{AreIds}
use Rattle.slub_open_close.specs.Growth.{ids_after, with_detached, with_detached_of, with_first}
use Rattle.slub_open_close.specs.IdLaws.{ItemsKeepIds}
use Rattle.slub_open_close.proofs.Flushed.{Detaches, checked-detaches, flush-detaches, match-some, shrinks-detaches}
use Rattle.slub_open_close.proofs.Fitting.{ids-begun, ids-detached, ids-kept}
use Rattle.slub_open_close.proofs.Leaving.{Leaves, current_in, leaves-both, leaves-tabled, live-changed, live-without}

-- nothing changed
pub unchanged : (s after : State) (ids : List ℕ) → after ≡ s → AreIds s ids → AreIds after ids
unchanged s after ids is are = subst (λ (t : State). AreIds t ids) (sym is) are

-- another table, of no cache more
tabled : (s : State) (table now : Table) (after : State) → now ≡ table → after ≡ record s { table = now } → ((cache : ℕ) → IsSome (live_cache table cache) → IsSome (cache_of s cache)) → Leaves s after
tabled s table now after e is fewer =
    subst (Leaves s) (sym is) (leaves-tabled s now s.checked (λ cache some. fewer cache (subst (λ (t : Table). IsSome (live_cache t cache)) e some)))

-- ---- creating

module _ (s : State) (trace : Trace) (name : List ℕ) (spec : Spec) (after : State) (ids : List ℕ) where
  pub new-keeps : (cache : ℕ) → IsSound trace → s.cpus ≡ trace.cpus → IsCoherent s → AreIds s ids → CreatesCache s name spec (made.New cache) after → AreIds after (with_first trace.tid s.cpus cache ids)
  new-keeps cache sound cpus coherent are creates =
      match-some (live_cache creates.0 cache) _ (AreIds after (with_first trace.tid s.cpus cache ids)) creates.2
      (λ (live : Cache) is.
      ids-begun s cache after ids trace sound cpus coherent creates.1.1.within creates.1.1.unused
      (ap (λ (t : State). t.cpus) is)
      (λ place some. subst (λ (t : State). IsSome (current_in t place)) is some)
      (λ other ne some. others other ne (subst (λ (t : Table). IsSome (live_cache t other)) creates.1.4 (subst (λ (t : State). IsSome (cache_of t other)) is some)))
      are)
    where
      others : (other : ℕ) → other ≢ cache → IsSome (live_cache (with_cache s.table name spec creates.1.2 cache) other) → IsSome (cache_of s other)
      others other ne =
          at_written (λ (x : Option Cache). IsSome x → IsSome (cache_of s other)) s.table.caches cache other (Some (record { title = name; flags = spec.flags; layout = creates.1.2; names = 1 })) None
          (λ e some. absurd (ne e)) (λ some. some)

  pub merged-keeps : (cache : ℕ) → AreIds s ids → CreatesCache s name spec (made.Merged cache) after → AreIds after ids
  merged-keeps cache are creates =
      ids-kept s after ids (tabled s (with_alias s.table name spec cache) creates.0 after creates.1.1 creates.2 (live-changed s cache (merged_with spec))) are

creates-keep : (s : State) (trace : Trace) (place : ℕ) (spec : Spec) (answer : Result Created CreateRefusal) (after : State) (ids : List ℕ) → IsSound trace → s.cpus ≡ trace.cpus → IsCoherent s → AreIds s ids
    → CreatesName s (name_at trace place) spec answer after → AreIds after (ids_after trace s (item.Cache place spec) (done.Created answer) ids)
creates-keep s trace place spec (Ok (New cache)) after ids sound cpus coherent are does = new-keeps s trace (name_at trace place) spec after ids cache sound cpus coherent are does.2
creates-keep s trace place spec (Ok (Merged cache title)) after ids sound cpus coherent are does = merged-keeps s trace (name_at trace place) spec after ids cache are does.2
creates-keep s trace place spec (Err why) after ids sound cpus coherent are does = unchanged s after ids does.1 are

-- ---- the cache of a name is detached

detached-of : (found : Option ℕ) (s after : State) (ids : List ℕ) (P : ℕ → Type 0) → MatchOption found ⊥ P → ((cache : ℕ) → P cache → AreIds after (with_detached s cache ids)) → AreIds after (with_detached_of s found ids)
detached-of None s after ids P matches detached = absurd matches
detached-of (Some cache) s after ids P matches detached = detached cache matches

shrinks-keep : (s : State) (trace : Trace) (place : ℕ) (answer : Result Bool NoSuchCache) (after : State) (ids : List ℕ) → IsCoherent s → AreIds s ids
    → Shrinks s (name_at trace place) answer after → AreIds after (ids_after trace s (item.Shrink place) (done.Shrunk answer) ids)
shrinks-keep s trace place (Err none) after ids coherent are does = unchanged s after ids does.1 are
shrinks-keep s trace place (Ok remain) after ids coherent are does =
    detached-of (number_of s.table (name_at trace place)) s after ids (λ cache. ShrinksCache s cache after × (remain ≡ has_slab after cache)) does
    (λ cache shrinks. ids-detached s cache after ids coherent.shaped.cpus (shrinks-detaches s cache after coherent shrinks.0) are)

-- ---- destroying

module _ (s : State) (name : List ℕ) (after : State) (ids : List ℕ) (coherent : IsCoherent s) (are : AreIds s ids) where
  -- the last name of a cache
  gone-keeps : (cache : ℕ) (empty : State) → ShrinksCache s cache empty → after ≡ without empty name cache → AreIds after ids
  gone-keeps cache empty shrinks is =
      ids-kept s after ids
      (leaves-both s empty after (shrinks-detaches s cache empty coherent shrinks).leaves
      (subst (Leaves empty) (sym is) (leaves-tabled empty (without_cache empty.table name cache) (set empty.checked cache None) (live-without empty cache)))) are

  destroys-keep : (answer : Result Destroyed DestroyRefusal) → Destroys s name answer after → AreIds after ids
  destroys-keep (Err NotLive) does = unchanged s after ids does.1 are
  destroys-keep (Err (Busy objects)) does = match-some (number_of s.table name) _ (AreIds after ids) does (λ cache busy. unchanged s after ids busy.3 are)
  destroys-keep (Ok NameDropped) does =
      match-some (number_of s.table name) _ (AreIds after ids) does
      (λ cache drops. ids-kept s after ids (tabled s (without_alias s.table name cache) (without_alias s.table name cache) after refl drops.1 (live-changed s cache less_named)) are)
  destroys-keep (Ok Gone) does = match-some (number_of s.table name) _ (AreIds after ids) does (λ cache goes. gone-keeps cache goes.2 goes.3 goes.5)

-- ---- tuning

-- a cache that is set
set-leaves : (s : State) (cache : ℕ) (setting : Setting) → Leaves s (with_setting s cache setting)
set-leaves s cache setting = leaves-tabled s (table_with_setting s.table cache setting) s.checked (live-changed s cache (tuned_cache setting))

set-detaches : (s : State) (cache : ℕ) (mid : State) (setting : Setting) → Detaches s cache mid → Detaches s cache (with_setting mid cache setting)
set-detaches s cache mid setting detaches = record {
  leaves = leaves-both s mid (with_setting mid cache setting) detaches.leaves (set-leaves mid cache setting);
  none = λ cpu below some. detaches.none cpu below some;
}

tuned-detaches : (s : State) (cache objects : ℕ) → IsCoherent s → Detaches s cache (tuned s cache (CpuPartial objects))
tuned-detaches s cache objects coherent = by (checked_of s cache) refl
  where
    by : (x : Option CheckedState) → checked_of s cache ≡ x
        → Detaches s cache (cond (is_some x) s (with_setting (flushed_below s (min_partial_of s cache) cache s.cpus) cache (CpuPartial objects)))
    by None is = set-detaches s cache (flushed_below s (min_partial_of s cache) cache s.cpus) (CpuPartial objects) (flush-detaches s (min_partial_of s cache) cache)
    by (Some slabs) is = checked-detaches s cache slabs coherent is

tunes-keep : (s : State) (trace : Trace) (place : ℕ) (setting : Setting) (answer : Result (Unit {0}) TuneRefusal) (after : State) (ids : List ℕ) → IsCoherent s → AreIds s ids
    → Tunes s (name_at trace place) setting answer after → AreIds after (ids_after trace s (item.Tune place setting) (done.Tuned answer) ids)
tunes-keep s trace place (MinPartial slabs) (Err unset.NoSuchCache) after ids coherent are does = unchanged s after ids does.1 are
tunes-keep s trace place (MinPartial slabs) (Err unset.Checked) after ids coherent are does =
    match-some (number_of s.table (name_at trace place)) _ (AreIds after ids) does (λ cache refused. unchanged s after ids refused.1 are)
tunes-keep s trace place (MinPartial slabs) (Ok ok) after ids coherent are does =
    match-some (number_of s.table (name_at trace place)) _ (AreIds after ids) does
    (λ cache set. ids-kept s after ids (subst (Leaves s) (sym set.1.steps) (set-leaves s cache (MinPartial slabs))) are)
tunes-keep s trace place (CpuPartial objects) (Err unset.NoSuchCache) after ids coherent are does = unchanged s after ids does.1 are
tunes-keep s trace place (CpuPartial objects) (Err unset.Checked) after ids coherent are does =
    match-some (number_of s.table (name_at trace place)) _ (AreIds after ids) does (λ cache refused. unchanged s after ids refused.1 are)
tunes-keep s trace place (CpuPartial objects) (Ok ok) after ids coherent are does =
    detached-of (number_of s.table (name_at trace place)) s after ids _ does
    (λ cache set. ids-detached s cache after ids coherent.shaped.cpus (subst (Detaches s cache) (sym set.1.steps) (tuned-detaches s cache objects coherent)) are)

-- ---- any item

pub items-keep : ItemsKeepIds
unfolding DoesPlain
items-keep s trace (item.Cache place spec) (done.Created answer) after ids sound cpus coherent coherent_after are does = creates-keep s trace place spec answer after ids sound cpus coherent are does
items-keep s trace (item.Shrink place) (done.Shrunk answer) after ids sound cpus coherent coherent_after are does = shrinks-keep s trace place answer after ids coherent are does
items-keep s trace (item.Destroy place) (done.Destroyed answer) after ids sound cpus coherent coherent_after are does = destroys-keep s (name_at trace place) after ids coherent are answer does
items-keep s trace item.Slabinfo (done.Slabinfo rows) after ids sound cpus coherent coherent_after are does = unchanged s after ids does.1 are
items-keep s trace (item.Tune place setting) (done.Tuned answer) after ids sound cpus coherent coherent_after are does = tunes-keep s trace place setting answer after ids coherent are does
items-keep s trace _ _ after ids sound cpus coherent coherent_after are does = absurd does
