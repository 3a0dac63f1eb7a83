-- A machine along a journal: where it stands, with its frames and its transaction ids.
use Rattle.std.proofs.Common.{◌≡◌, ℕ, List, [], ◌∷◌, ◌++◌, take, get_or, flat_map, Option, Some, None, refl, sym, ◌∙◌, ap, subst, arith, fold, is_some, Bool, true, false, cond, Result, Ok, Err}
use Rattle.std.specs.List.{range_with_len}
use Rattle.std.specs.Option.{option_map}
use Rattle.std.proofs.lemmas.List.{length-append}
use Rattle.slub_common.specs.declared.no_such_cache.NoSuchCache.{NoSuchCache}
use Rattle.slub_common.proofs.Times.{times-append, times-contained}
use Rattle.slub_object_layout.specs.declared.layout.Setting.{Setting}
use Rattle.slub_object_layout.specs.declared.layout.Setting.TheVariants.{MinPartial, CpuPartial}
use Rattle.slub_object_layout.specs.declared.layout.Spec.{Spec}
use Rattle.slub_trace.specs.declared.create.Created.{Created}
use Rattle.slub_trace.specs.declared.create.Created.TheVariants.{New, Merged}
use Rattle.slub_trace.specs.declared.create.CreateRefusal.{CreateRefusal}
use Rattle.slub_trace.specs.declared.destroy.Destroyed.{Destroyed}
use Rattle.slub_trace.specs.declared.destroy.Destroyed.TheVariants.{NameDropped, Gone}
use Rattle.slub_trace.specs.declared.destroy.DestroyRefusal.{DestroyRefusal}
use Rattle.slub_trace.specs.declared.destroy.DestroyRefusal.TheVariants.{NoSuchCache as NotLive, Busy}
use Rattle.slub_trace.specs.declared.tune.TuneRefusal.{TuneRefusal}
use Rattle.slub_trace.specs.declared.tune.TuneRefusal.TheVariants as unset
use Rattle.slub_trace.specs.declared.trace.Client.{Client as Asked}
use Rattle.slub_trace.specs.declared.trace.Item.{Item}
use Rattle.slub_trace.specs.declared.trace.Item.TheVariants as item
use Rattle.slub_trace.specs.declared.trace.Trace.{Trace}
use Rattle.slub_trace.specs.Sound.{IsSound, IsSoundItem, asked_objects, objects_in}
use Rattle.slub_cache_create.specs.Table.{number_of, cache_of as live_cache}
use Rattle.slub_lists.specs.State.{State}
use Rattle.slub_lists.specs.Alloc.{checked_of}
use Rattle.slub_lists.specs.Coherent.{IsCoherent}
use Rattle.slub_lists.specs.Destroy.{Destroys}
use Rattle.slub_lists.specs.Shrink.{Shrinks, flushed, flushed_below, min_partial_of}
use Rattle.slub_lists.specs.Tune.{Tunes, tuned, with_setting}
use Rattle.slub_lists.proofs.Flushing.{rest-flushed}
use Rattle.slub_slabinfo_text.specs.declared.client.ClientDone.{ClientDone}
use Rattle.slub_slabinfo_text.specs.declared.client.ClientRound.{ClientRound}
use Rattle.slub_slabinfo_text.specs.declared.journal.Done.{Done}
use Rattle.slub_slabinfo_text.specs.declared.journal.Done.TheVariants as done
use Rattle.slub_slabinfo_text.specs.Lawful.{CreatesName, DoesPlain}
use Rattle.slub_open_close.specs.Ids.{AreIds}
use Rattle.slub_open_close.proofs.Items.{merged-keeps, new-keeps, unchanged}
use Rattle.slub_rounds.specs.Asked.{AreGiven, IsServable}
use Rattle.slub_rounds.specs.Heap.{HeapState}
use Rattle.slub_rounds.specs.Kmalloc.{CreatesClasses, ids_made}
use Rattle.slub_law_rounds.proofs.Steps.{match_some}
use Rattle.slub_law_replay.specs.declared.way.Way.{Way}
use Rattle.slub_law_replay.specs.declared.way.Way.TheVariants.{Serial}
use Rattle.slub_law_replay.specs.Runs.{AreIdsFor, Does, MachineState, heap_of, machine_of}
use Rattle.slub_law_replay.proofs.Fitting.{lawful-by}
use Rattle.slub_law_replay.proofs.IdsFit.{round-fit, text-fit}
use Rattle.slub_law_replay.proofs.Made.{ClientEffect, IsSoundLine, MakesRounds, client_effect, made_caches, made_rounds, objects_asked}
use Rattle.slub_law_replay.proofs.Numbers.{IsBrief}
use Rattle.slub_law_replay.proofs.Ready.{opened_machine_ready, stands-first}
use Rattle.slub_law_replay.proofs.Rests.{creates-rest}
use Rattle.slub_law_replay.proofs.Standing.{Stands, StandsBefore, is-round, line-sound, made-numbers, next-numbers, own-default, stands-may, stands-next, stands-round}
use Rattle.slub_items.proofs.Standing.{fit_beside, plain_stands, round_stands}

-- ---- the frames

creates-frames : (s : State) (name : List ℕ) (spec : Spec) (told : Result Created CreateRefusal) (after : State) → CreatesName s name spec told after → after.frames ≡ s.frames
creates-frames s name spec (Ok (New cache)) after creates =
    match_some (live_cache creates.2.0 cache) _ (after.frames ≡ s.frames) creates.2.2 (λ live is made. ap (λ (t : State). t.frames) made)
creates-frames s name spec (Ok (Merged cache title)) after creates = ap (λ (t : State). t.frames) creates.2.2
creates-frames s name spec (Err why) after creates = ap (λ (t : State). t.frames) creates.1

shrinks-frames : (s : State) (name : List ℕ) (told : Result Bool NoSuchCache) (after : State) → Shrinks s name told after → after.frames ≡ s.frames
shrinks-frames s name (Err none) after shrinks = ap (λ (t : State). t.frames) shrinks.1
shrinks-frames s name (Ok remain) after shrinks = match_some (number_of s.table name) _ (after.frames ≡ s.frames) shrinks (λ cache is shrinks. shrinks.0.held.frames)

destroys-frames : (s : State) (name : List ℕ) (told : Result Destroyed DestroyRefusal) (after : State) → Destroys s name told after → after.frames ≡ s.frames
destroys-frames s name (Err NotLive) after destroys = ap (λ (t : State). t.frames) destroys.1
destroys-frames s name (Err (Busy objects)) after destroys = match_some (number_of s.table name) _ (after.frames ≡ s.frames) destroys (λ cache is busy. ap (λ (t : State). t.frames) busy.3)
destroys-frames s name (Ok NameDropped) after destroys = match_some (number_of s.table name) _ (after.frames ≡ s.frames) destroys (λ cache is drops. ap (λ (t : State). t.frames) drops.1)
destroys-frames s name (Ok Gone) after destroys =
    match_some (number_of s.table name) _ (after.frames ≡ s.frames) destroys (λ cache is goes. ap (λ (t : State). t.frames) goes.5 ∙ goes.3.held.frames)

flushed-frames : (least cache : ℕ) (s : State) (cpus : List ℕ) → (let t : State = fold (flushed least cache) s cpus in t.frames ≡ s.frames)
flushed-frames least cache s [] = refl
flushed-frames least cache s (cpu ∷ cpus) = flushed-frames least cache (flushed least cache s cpu) cpus ∙ (rest-flushed least cache s cpu).held.frames

tuned-frames : (s : State) (cache : ℕ) (setting : Setting) → (let t : State = tuned s cache setting in t.frames ≡ s.frames)
tuned-frames s cache (MinPartial slabs) = refl
tuned-frames s cache (CpuPartial objects) = by (is_some (checked_of s cache))
  where
    by : (b : Bool) → (let t : State = cond b s (with_setting (flushed_below s (min_partial_of s cache) cache s.cpus) cache (CpuPartial objects)) in t.frames ≡ s.frames)
    by true = refl
    by false = flushed-frames (min_partial_of s cache) cache s (range_with_len 0 s.cpus)

tunes-frames : (s : State) (name : List ℕ) (setting : Setting) (told : Result (Unit {0}) TuneRefusal) (after : State) → Tunes s name setting told after → after.frames ≡ s.frames
tunes-frames s name setting (Err unset.NoSuchCache) after tunes = ap (λ (t : State). t.frames) tunes.1
tunes-frames s name setting (Err unset.Checked) after tunes = match_some (number_of s.table name) _ (after.frames ≡ s.frames) tunes (λ cache is refused. ap (λ (t : State). t.frames) refused.1)
tunes-frames s name setting (Ok done) after tunes =
    match_some (number_of s.table name) _ (after.frames ≡ s.frames) tunes (λ cache is set. ap (λ (t : State). t.frames) set.1.steps ∙ tuned-frames s cache setting)

-- an item that is neither a round nor a client's line
plain-frames : (s : State) (trace : Trace) (it : Item) (dn : Done) (after : State) → DoesPlain s trace it dn after → after.frames ≡ s.frames
unfolding DoesPlain
plain-frames s trace (item.Cache place spec) (done.Created told) after does = creates-frames s _ spec told after does
plain-frames s trace (item.Shrink place) (done.Shrunk told) after does = shrinks-frames s _ told after does
plain-frames s trace (item.Destroy place) (done.Destroyed told) after does = destroys-frames s _ told after does
plain-frames s trace item.Slabinfo (done.Slabinfo rows) after does = ap (λ (t : State). t.frames) does.1
plain-frames s trace (item.Tune place setting) (done.Tuned told) after does = tunes-frames s _ setting told after does
plain-frames s trace _ _ after does = absurd does

-- ---- a heap of the trace

-- its frames are the trace's, and its ids fit
pub record IsHeapOf (trace : Trace) (s : State) (tids : Option (List ℕ)) : Type 0 where
  pub frames : s.frames ≡ trace.frames
  pub ids : AreIdsFor trace s tids

-- rounds of a client's line
rounds-follow : (sound : Type 0) (h : HeapState) (trace : Trace) (rounds : List ClientRound) (coming : List ℕ) (after : HeapState) → sound → Stands h.lists trace (flat_map objects_asked rounds ++ coming) → MakesRounds trace sound h rounds after
    → IsHeapOf trace h.lists h.ids → IsHeapOf trace after.lists after.ids
rounds-follow sound h trace [] coming after whole stands same is = subst (λ (now : HeapState). IsHeapOf trace now.lists now.ids) (sym same) is
rounds-follow sound h trace (round ∷ rounds) coming after whole stands makes is =
    let mid = makes.0 in
    let now = next-numbers h.lists trace round rounds coming stands in
    let later = flat_map objects_asked rounds ++ coming in
    let asked = makes.1.asks whole in
    let law = is-round h trace round.asked later round.result mid now asked makes.1.does in
    let fit = text-fit h.lists h.ids trace round.asked round.result mid.lists mid.ids now.coherent now.rest (stands-may h.lists trace round.asked later now asked.sound asked.few) (fit_beside trace h.lists h.ids is.ids) makes.1.does in
    rounds-follow sound mid trace rounds coming after whole (stands-round h trace round.asked later round.result mid now asked makes.1.does) makes.2
    (record { frames = law.frames ∙ is.frames; ids = round_stands Serial 0 trace h.lists mid.lists h.ids mid.ids round.asked round.result is.ids makes.1.does fit })

-- caches of classes
creates-ids : (s : State) (trace : Trace) (name : List ℕ) (spec : Spec) (told : Result Created CreateRefusal) (after : State) (ids : List ℕ) → IsSound trace → s.cpus ≡ trace.cpus → IsCoherent s → AreIds s ids
    → CreatesName s name spec told after → AreIds after (ids_made trace s told ids)
creates-ids s trace name spec (Ok (New cache)) after ids sound cpus coherent are does = new-keeps s trace name spec after ids cache sound cpus coherent are does.2
creates-ids s trace name spec (Ok (Merged cache title)) after ids sound cpus coherent are does = merged-keeps s trace name spec after ids cache are does.2
creates-ids s trace name spec (Err why) after ids sound cpus coherent are does = unchanged s after ids does.1 are

made-ids : (s : State) (trace : Trace) (name : List ℕ) (spec : Spec) (told : Result Created CreateRefusal) (after : State) (ids left : Option (List ℕ)) → IsSound trace → s.cpus ≡ trace.cpus → IsCoherent s → AreIdsFor trace s ids
    → CreatesName s name spec told after → left ≡ option_map (ids_made trace s told) ids → AreIdsFor trace after left
made-ids s trace name spec told after None left sound cpus coherent are does is = subst (AreIdsFor trace after) (sym is) are
made-ids s trace name spec told after (Some ids) left sound cpus coherent are does is =
    subst (AreIdsFor trace after) (sym is) (are.0, creates-ids s trace name spec told after ids sound cpus coherent are.1 does)

classes-follow : (h : HeapState) (trace : Trace) (classes : List ℕ) (answers : List (Result Created CreateRefusal)) (after : HeapState) → IsSound trace → IsCoherent h.lists → h.lists.cpus ≡ trace.cpus → CreatesClasses h trace classes answers after
    → IsHeapOf trace h.lists h.ids → IsHeapOf trace after.lists after.ids
classes-follow h trace [] [] after sound coherent cpus same is = subst (λ (now : HeapState). IsHeapOf trace now.lists now.ids) (sym same) is
classes-follow h trace [] (told ∷ answers) after sound coherent cpus creates is = absurd creates
classes-follow h trace (class ∷ classes) [] after sound coherent cpus creates is = absurd creates
classes-follow h trace (class ∷ classes) (told ∷ answers) after sound coherent cpus creates is =
    let mid = creates.0 in
    let does = creates.1.creates in
    classes-follow mid trace classes answers after sound creates.1.coherent ((creates-rest h.lists _ _ told mid.lists does).cpus ∙ cpus) creates.2
    (record { frames = creates-frames h.lists _ _ told mid.lists does ∙ is.frames; ids = made-ids h.lists trace _ _ told mid.lists h.ids mid.ids sound cpus coherent is.ids does creates.1.ids })

client-follows : (sound : Type 0) (h : HeapState) (trace : Trace) (client : Asked) (outcome : ClientDone) (coming : List ℕ) (after : HeapState) → IsSound trace → sound → Stands h.lists trace (asked_objects client ++ coming)
    → ClientEffect trace sound h client outcome after → IsHeapOf trace h.lists h.ids → IsHeapOf trace after.lists after.ids
client-follows sound h trace client outcome coming after whole line stands (made_rounds made) is =
    rounds-follow sound h trace outcome.rounds coming after line (made-numbers h.lists trace outcome.rounds (asked_objects client) coming made.objects stands) made.runs is
client-follows sound h trace client outcome coming after whole line stands (made_caches answers none creates) is =
    classes-follow h trace (range_with_len 0 13) answers after whole stands.coherent stands.cpus creates is

-- ---- the machine

pub record Follows (m : MachineState) (trace : Trace) (coming : List ℕ) : Type 0 where
  pub stands : StandsBefore m trace coming
  pub heap : IsHeapOf trace m.lists m.ids

heap-next : (way : Way) (m : MachineState) (trace : Trace) (it : Item) (dn : Done) (coming : List ℕ) (after : MachineState) → IsSound trace → Follows m trace (objects_in it ++ coming) → IsSoundItem trace it → IsBrief it → IsCoherent after.lists
    → Does way m trace it dn after → IsHeapOf trace after.lists after.ids
unfolding Does
heap-next way m trace (item.Round round) (done.Round result) coming after sound follows here brief coherent does =
    let lists = follows.stands.lists in
    let may = stands-may m.lists trace round coming lists here brief in
    let fit = round-fit way m.rounds m.lists m.ids trace round result after.lists after.ids lists.coherent lists.rest may (fit_beside trace m.lists m.ids follows.heap.ids) does.0 in
    record {
      frames = (lawful-by way m.rounds m.lists m.ids trace round result after.lists after.ids lists.coherent lists.rest may does.0).frames ∙ follows.heap.frames;
      ids = round_stands way m.rounds trace m.lists after.lists m.ids after.ids round result follows.heap.ids does.0 fit;
    }
heap-next way m trace (item.Client client) (done.Client outcome) coming after sound follows here brief coherent does =
    client-follows (IsSoundLine trace m.reserves client) (heap_of m) trace client outcome coming (heap_of after) sound (line-sound m trace client (asked_objects client ++ coming) follows.stands here) follows.stands.lists
    (client_effect m trace client outcome after does.0) follows.heap
heap-next way m trace it dn coming after sound follows here brief coherent does = record {
  frames = plain-frames m.lists trace it dn after.lists does.0 ∙ follows.heap.frames;
  ids = plain_stands trace it dn m.lists after.lists m.ids after.ids sound follows.stands.lists.cpus follows.stands.lists.coherent coherent does.0 follows.heap.ids does.1;
}

pub follows-next : (way : Way) (m : MachineState) (trace : Trace) (it : Item) (dn : Done) (coming : List ℕ) (after : MachineState) → IsSound trace → Follows m trace (objects_in it ++ coming) → IsSoundItem trace it → IsBrief it → IsCoherent after.lists
    → Does way m trace it dn after → Follows after trace coming
follows-next way m trace it dn coming after sound follows here brief coherent does = record {
  stands = stands-next way m trace it dn coming after follows.stands here brief coherent does;
  heap = heap-next way m trace it dn coming after sound follows here brief coherent does;
}

pub follows-first : (trace : Trace) (n : ℕ) → IsSound trace → IsCoherent (machine_of trace).lists → Follows (machine_of trace) trace (flat_map objects_in (take n trace.items))
follows-first trace n sound coherent =
    let ready = opened_machine_ready trace sound coherent in
    record { stands = stands-first trace n sound coherent; heap = record { frames = ready.lists.frames; ids = ready.ids } }

-- ---- a client's line can be served

given-of : (trace : Trace) (s : State) (ids : Option (List ℕ)) → AreIdsFor trace s ids → AreGiven trace ids
given-of trace s None are = are
given-of trace s (Some ids) are = are.0

pub servable : (m : MachineState) (trace : Trace) (client : Asked) (coming : List ℕ) → IsSound trace → IsSoundItem trace (item.Client client) → Follows m trace (asked_objects client ++ coming) → IsServable (heap_of m) trace client
servable m trace client coming sound here follows =
    let numbers = asked_objects client in
    let lists = follows.stands.lists in
    record {
      heap = record {
        sound = record { coherent = lists.coherent; ids = fit_beside trace m.lists m.ids follows.heap.ids };
        rest = lists.rest;
        given = given-of trace m.lists m.ids follows.heap.ids;
        frames = follows.heap.frames;
        cpus = lists.cpus;
        objects = lists.objects;
        numbers = sound.objects;
        names = lists.names;
        dry = λ order. omega (arith, lists.dry order, length-append numbers coming);
      };
      whole = sound;
      sound = here;
      unheld = λ k d inside. lists.unheld (get_or numbers k d)
          (let there = times-contained (get_or numbers k d) numbers (k, inside, own-default numbers k d inside) in omega (arith, there, times-append (get_or numbers k d) numbers coming));
    }
