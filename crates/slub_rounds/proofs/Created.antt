-- What a creation leaves of a heap.
use Rattle.std.proofs.Common.{◌≡◌, ℕ, List, length, sym, ◌∙◌, ap, subst, arith, Option, Some, None, Result, Ok, Err}
use Rattle.std.specs.Prelude.{IfSome, slice_index, slice_index_or}
use Rattle.std.specs.Option.{option_map}
use Rattle.slub_object_layout.specs.declared.layout.Spec.{Spec}
use Rattle.slub_cache_create.specs.declared.caches.Cache.{Cache}
use Rattle.slub_cache_create.specs.declared.caches.Created.{Created as CreatedCache}
use Rattle.slub_cache_create.specs.declared.caches.Created.TheVariants as made
use Rattle.slub_cache_create.specs.Table.{cache_of as live_cache}
use Rattle.slub_trace.specs.declared.create.Created.{Created}
use Rattle.slub_trace.specs.declared.create.Created.TheVariants.{New, Merged}
use Rattle.slub_trace.specs.declared.create.CreateRefusal.{CreateRefusal}
use Rattle.slub_lists.specs.declared.lists.Held.{Held}
use Rattle.slub_lists.specs.State.{State}
use Rattle.slub_lists.specs.Coherent.{IsCoherent, KeepsMachine}
use Rattle.slub_lists.specs.Create.{CreatesCache}
use Rattle.slub_trace.specs.declared.trace.Trace.{Trace}
use Rattle.slub_trace.specs.Sound.{IsSound}
use Rattle.slub_slabinfo_text.specs.Lawful.{CreatesName}
use Rattle.slub_open_close.specs.Ids.{AreIds}
use Rattle.slub_open_close.proofs.Flushed.{match-some}
use Rattle.slub_open_close.proofs.Items.{merged-keeps, new-keeps, unchanged}
use Rattle.slub_rounds.specs.Heap.{HeapState}
use Rattle.slub_rounds.specs.Asked.{AreGiven, StaysOpen}
use Rattle.slub_rounds.specs.Kmalloc.{CreatesFor, ids_made}

-- ---- the counts of wanted frames

created-dry : (s : State) (name : List ℕ) (spec : Spec) (created : CreatedCache) (after : State) → CreatesCache s name spec created after → after.pool.dry ≡ s.pool.dry
created-dry s name spec (made.Merged cache) after creates = ap (λ (t : State). t.pool.dry) creates.2
created-dry s name spec (made.New cache) after creates =
    match-some (live_cache creates.0 cache) _ (after.pool.dry ≡ s.pool.dry) creates.2 (λ (live : Cache) is. ap (λ (t : State). t.pool.dry) is)

creates-dry : (s : State) (name : List ℕ) (spec : Spec) (answer : Result Created CreateRefusal) (after : State) → CreatesName s name spec answer after → after.pool.dry ≡ s.pool.dry
creates-dry s name spec (Ok (New cache)) after creates = created-dry s name spec (made.New cache) after creates.2
creates-dry s name spec (Ok (Merged cache title)) after creates = created-dry s name spec (made.Merged cache) after creates.2
creates-dry s name spec (Err why) after creates = ap (λ (t : State). t.pool.dry) creates.1

-- ---- the ids

creates-ids : (s : State) (trace : Trace) (name : List ℕ) (spec : Spec) (answer : Result Created CreateRefusal) (after : State) (ids : List ℕ) → IsSound trace → s.cpus ≡ trace.cpus → IsCoherent s → AreIds s ids
    → CreatesName s name spec answer after → AreIds after (ids_made trace s answer ids)
creates-ids s trace name spec (Ok (New cache)) after ids sound cpus coherent are does = new-keeps s trace name spec after ids cache sound cpus coherent are does.2
creates-ids s trace name spec (Ok (Merged cache title)) after ids sound cpus coherent are does = merged-keeps s trace name spec after ids cache are does.2
creates-ids s trace name spec (Err why) after ids sound cpus coherent are does = unchanged s after ids does.1 are

made-ids : (s : State) (trace : Trace) (name : List ℕ) (spec : Spec) (answer : Result Created CreateRefusal) (after : State) (ids : Option (List ℕ)) → IsSound trace → s.cpus ≡ trace.cpus → IsCoherent s → IfSome ids (AreIds s)
    → CreatesName s name spec answer after → IfSome (option_map (ids_made trace s answer) ids) (AreIds after)
made-ids s trace name spec answer after None sound cpus coherent are does = tt
made-ids s trace name spec answer after (Some ids) sound cpus coherent are does = creates-ids s trace name spec answer after ids sound cpus coherent are does

made-given : (trace : Trace) (s : State) (answer : Result Created CreateRefusal) (ids : Option (List ℕ)) → AreGiven trace ids → AreGiven trace (option_map (ids_made trace s answer) ids)
made-given trace s answer None given = given
made-given trace s answer (Some ids) given = given

-- ---- the heap

module _ (h : HeapState) (trace : Trace) (name : List ℕ) (spec : Spec) (answer : Result Created CreateRefusal) (after : HeapState) (sound : IsSound trace) (creates : CreatesFor h trace name spec answer after) (kept : KeepsMachine h.lists after.lists)
    (board : after.lists.board ≡ h.lists.board) where
  pub create-stays : StaysOpen h trace 0 after
  create-stays = λ more was. record {
    sound = record {
      coherent = creates.coherent;
      ids = subst (λ (left : Option (List ℕ)). IfSome left (AreIds after.lists)) (sym creates.ids) (made-ids h.lists trace name spec answer after.lists h.ids sound was.cpus was.sound.coherent was.sound.ids creates.creates);
    };
    rest = record {
      laid_down = λ object. subst (λ (b : List (Option Held)). IfSome (slice_index_or b object None) (λ held. held.worker ≡ None)) (sym board) (was.rest.laid_down object);
      forgotten = λ object. subst (λ (b : List (Option Held)). slice_index_or b object None ≡ None) (sym kept.gone) (was.rest.forgotten object);
    };
    given = subst (AreGiven trace) (sym creates.ids) (made-given trace h.lists answer h.ids was.given);
    frames = kept.frames ∙ was.frames;
    cpus = kept.cpus ∙ was.cpus;
    objects = ap (λ (b : List (Option Held)). length b) board ∙ was.objects;
    numbers = was.numbers;
    names = kept.kept ∙ was.names;
    dry = λ order. (let room = was.dry order in let same = ap (λ (d : List ℕ). slice_index d order) (creates-dry h.lists name spec answer after.lists creates.creates) in omega (arith, room, same));
  }
