-- What each item that makes no round leaves as it was.
use Rattle.std.proofs.Common.{◌≡◌, ℕ, Bool, true, false, cond, fold, is_some, List, [], ◌∷◌, refl, ◌∙◌, ap, Result, Ok, Err}
use Rattle.std.specs.List.{range_with_len}
use Rattle.slub_object_layout.specs.declared.layout.Setting.{Setting}
use Rattle.slub_object_layout.specs.declared.layout.Setting.TheVariants.{MinPartial, CpuPartial}
use Rattle.slub_object_layout.specs.declared.layout.Spec.{Spec}
use Rattle.slub_common.specs.declared.no_such_cache.NoSuchCache.{NoSuchCache}
use Rattle.slub_cache_create.specs.declared.caches.Created.{Created as CreatedCache}
use Rattle.slub_cache_create.specs.declared.caches.Created.TheVariants as made
use Rattle.slub_cache_create.specs.Table.{Table, number_of, cache_of as live_cache}
use Rattle.slub_trace.specs.declared.create.Created.{Created}
use Rattle.slub_trace.specs.declared.create.Created.TheVariants.{New, Merged}
use Rattle.slub_trace.specs.declared.create.CreateRefusal.{CreateRefusal}
use Rattle.slub_trace.specs.declared.destroy.Destroyed.{Destroyed}
use Rattle.slub_trace.specs.declared.destroy.Destroyed.TheVariants.{NameDropped, Gone}
use Rattle.slub_trace.specs.declared.destroy.DestroyRefusal.{DestroyRefusal}
use Rattle.slub_trace.specs.declared.destroy.DestroyRefusal.TheVariants.{NoSuchCache as NotLive, Busy}
use Rattle.slub_trace.specs.declared.tune.TuneRefusal.{TuneRefusal}
use Rattle.slub_trace.specs.declared.tune.TuneRefusal.TheVariants as unset
use Rattle.slub_lists.specs.State.{State}
use Rattle.slub_lists.specs.Alloc.{checked_of}
use Rattle.slub_lists.specs.Create.{CreatesCache}
use Rattle.slub_lists.specs.Destroy.{Destroys, without}
use Rattle.slub_lists.specs.Shrink.{ShrinksCache, Shrinks, flushed, flushed_below, min_partial_of}
use Rattle.slub_lists.specs.Tune.{Tunes, tuned, with_setting}
use Rattle.slub_lists.proofs.Flushing.{rest-flushed}
use Rattle.slub_trace.specs.declared.trace.Trace.{Trace}
use Rattle.slub_slabinfo_text.specs.Lawful.{CreatesName}
use Rattle.slub_rounds.specs.Heap.{HeapState}
use Rattle.slub_rounds.specs.Kmalloc.{CreatesClasses}
use Rattle.slub_law_replay.proofs.Dry.{by_kind-dry, flushed_below-dry, match_some}

-- the board, what was freed, the CPUs, the trace's names and the counts of wanted frames are as before
pub record Rests (s after : State) : Type 0 where
  pub board : after.board ≡ s.board
  pub gone : after.gone ≡ s.gone
  pub cpus : after.cpus ≡ s.cpus
  pub names : after.table.kept ≡ s.table.kept
  pub dry : after.pool.dry ≡ s.pool.dry

-- something else was written
rests-is : (s mid after : State) → after ≡ mid → Rests s mid → Rests s after
rests-is s mid after is rests = record {
  board = ap (λ (t : State). t.board) is ∙ rests.board;
  gone = ap (λ (t : State). t.gone) is ∙ rests.gone;
  cpus = ap (λ (t : State). t.cpus) is ∙ rests.cpus;
  names = ap (λ (t : State). t.table.kept) is ∙ rests.names;
  dry = ap (λ (t : State). t.pool.dry) is ∙ rests.dry;
}

rests-both : (s mid after : State) → Rests s mid → Rests mid after → Rests s after
rests-both s mid after first second = record {
  board = second.board ∙ first.board;
  gone = second.gone ∙ first.gone;
  cpus = second.cpus ∙ first.cpus;
  names = second.names ∙ first.names;
  dry = second.dry ∙ first.dry;
}

pub rests-same : (s after : State) → after ≡ s → Rests s after
rests-same s after is = rests-is s s after is (record { board = refl; gone = refl; cpus = refl; names = refl; dry = refl })

-- ---- creating

created-rests : (s : State) (name : List ℕ) (spec : Spec) (created : CreatedCache) (after : State) → CreatesCache s name spec created after → Rests s after
created-rests s name spec (made.Merged cache) after creates =
    rests-is s _ after creates.2 (record { board = refl; gone = refl; cpus = refl; names = ap (λ (t : Table). t.kept) creates.1.1; dry = refl })
created-rests s name spec (made.New cache) after creates =
    match_some (live_cache creates.0 cache) _ (Rests s after) creates.2
    (λ live is. rests-is s _ after is (record { board = refl; gone = refl; cpus = refl; names = ap (λ (t : Table). t.kept) creates.1.4; dry = refl }))

pub creates-rest : (s : State) (name : List ℕ) (spec : Spec) (answer : Result Created CreateRefusal) (after : State) → CreatesName s name spec answer after → Rests s after
creates-rest s name spec (Ok (New cache)) after creates = created-rests s name spec (made.New cache) after creates.2
creates-rest s name spec (Ok (Merged cache title)) after creates = created-rests s name spec (made.Merged cache) after creates.2
creates-rest s name spec (Err why) after creates = rests-same s after creates.1

-- the caches of classes are created
pub classes-rest : (h : HeapState) (trace : Trace) (classes : List ℕ) (answers : List (Result Created CreateRefusal)) (after : HeapState) → CreatesClasses h trace classes answers after → Rests h.lists after.lists
classes-rest h trace [] [] after creates = rests-same h.lists after.lists (ap (λ (now : HeapState). now.lists) creates)
classes-rest h trace [] (answer ∷ answers) after creates = absurd creates
classes-rest h trace (class ∷ classes) [] after creates = absurd creates
classes-rest h trace (class ∷ classes) (answer ∷ answers) after creates =
    rests-both h.lists creates.0.lists after.lists (creates-rest h.lists _ _ answer creates.0.lists creates.1.creates) (classes-rest creates.0 trace classes answers after creates.2)

-- ---- shrinking and destroying

shrunk-rests : (s : State) (cache : ℕ) (after : State) → ShrinksCache s cache after → Rests s after
shrunk-rests s cache after shrinks = record {
  board = shrinks.held.board;
  gone = shrinks.held.gone;
  cpus = shrinks.held.cpus;
  names = ap (λ (t : Table). t.kept) shrinks.held.table;
  dry = by_kind-dry s cache after shrinks.steps;
}

pub shrinks-rest : (s : State) (name : List ℕ) (answer : Result Bool NoSuchCache) (after : State) → Shrinks s name answer after → Rests s after
shrinks-rest s name (Err none) after shrinks = rests-same s after shrinks.1
shrinks-rest s name (Ok remain) after shrinks =
    match_some (number_of s.table name) _ (Rests s after) shrinks (λ cache shrinks. shrunk-rests s cache after shrinks.0)

-- a cache without slabs is live no more
without-rests : (s empty : State) (name : List ℕ) (cache : ℕ) → Rests s empty → Rests s (without empty name cache)
without-rests s empty name cache rests = record { board = rests.board; gone = rests.gone; cpus = rests.cpus; names = rests.names; dry = rests.dry }

pub destroys-rest : (s : State) (name : List ℕ) (answer : Result Destroyed DestroyRefusal) (after : State) → Destroys s name answer after → Rests s after
destroys-rest s name (Err NotLive) after destroys = rests-same s after destroys.1
destroys-rest s name (Err (Busy objects)) after destroys = match_some (number_of s.table name) _ (Rests s after) destroys (λ cache busy. rests-same s after busy.3)
destroys-rest s name (Ok NameDropped) after destroys =
    match_some (number_of s.table name) _ (Rests s after) destroys (λ cache drops. rests-is s _ after drops.1 (record { board = refl; gone = refl; cpus = refl; names = refl; dry = refl }))
destroys-rest s name (Ok Gone) after destroys =
    match_some (number_of s.table name) _ (Rests s after) destroys (λ cache goes.
    rests-is s (without goes.2 name cache) after goes.5 (without-rests s goes.2 name cache (shrunk-rests s cache goes.2 goes.3)))

-- ---- tuning

-- CPUs are flushed
flushed-rests : (least cache : ℕ) (s : State) (cpus : List ℕ) → (let t : State = fold (flushed least cache) s cpus in t.pool.dry ≡ s.pool.dry) → Rests s (fold (flushed least cache) s cpus)
flushed-rests least cache s cpus dry = let keeps = held s cpus in record { board = keeps.0; gone = keeps.1; cpus = keeps.2; names = keeps.3; dry = dry }
  where
    held : (s : State) (cpus : List ℕ) → (let t : State = fold (flushed least cache) s cpus in (t.board ≡ s.board) × (t.gone ≡ s.gone) × (t.cpus ≡ s.cpus) × (t.table.kept ≡ s.table.kept))
    held s [] = (refl, refl, refl, refl)
    held s (cpu ∷ cpus) =
        let first = rest-flushed least cache s cpu in
        let rest = held (flushed least cache s cpu) cpus in
        (rest.0 ∙ first.held.board, rest.1 ∙ first.held.gone, rest.2 ∙ first.held.cpus, rest.3 ∙ ap (λ (t : Table). t.kept) first.held.table)

tuned-rests : (s : State) (cache : ℕ) (setting : Setting) → Rests s (tuned s cache setting)
tuned-rests s cache (MinPartial slabs) = record { board = refl; gone = refl; cpus = refl; names = refl; dry = refl }
tuned-rests s cache (CpuPartial objects) = by (is_some (checked_of s cache))
  where
    flat : Rests s (flushed_below s (min_partial_of s cache) cache s.cpus)
    flat = flushed-rests (min_partial_of s cache) cache s (range_with_len 0 s.cpus) (flushed_below-dry s (min_partial_of s cache) cache s.cpus)

    by : (b : Bool) → Rests s (cond b s (with_setting (flushed_below s (min_partial_of s cache) cache s.cpus) cache (CpuPartial objects)))
    by true = rests-same s s refl
    by false = record { board = flat.board; gone = flat.gone; cpus = flat.cpus; names = flat.names; dry = flat.dry }

pub tunes-rest : (s : State) (name : List ℕ) (setting : Setting) (answer : Result (Unit {0}) TuneRefusal) (after : State) → Tunes s name setting answer after → Rests s after
tunes-rest s name setting (Err unset.NoSuchCache) after tunes = rests-same s after tunes.1
tunes-rest s name setting (Err unset.Checked) after tunes = match_some (number_of s.table name) _ (Rests s after) tunes (λ cache refused. rests-same s after refused.1)
tunes-rest s name setting (Ok done) after tunes =
    match_some (number_of s.table name) _ (Rests s after) tunes (λ cache set. rests-is s (tuned s cache setting) after set.1.steps (tuned-rests s cache setting))
