-- Each damage of a journal that is lawful by any way was poked.
use Rattle.std.proofs.Common.{◌≡◌, ◌≢◌, ℕ, zero, suc, Bool, true, false, cond, eqb, List, [], ◌∷◌, ◌++◌, append_assoc, flat_map, length, take, get_or, set, refl, sym, ◌∙◌, ap, subst, arith, All, Option, Some, None, MatchOption, Result, Ok, Err, inl, inr, ◌⊎◌, unwrap_or, fold, is_some, append-nil, get_or-set_other, get_or-set_same}
use Rattle.std.specs.List.{Contains, range_with_len}
use Rattle.std.specs.Prelude.{slice_get}
use Rattle.std.specs.Option.{option_map_or}
use Rattle.std.proofs.lemmas.Bool.{cases_eq}
use Rattle.std.proofs.lemmas.List.Elements.{All-head, All-tail}
use Rattle.std.proofs.lemmas.Option.{slice_get_past}
use Rattle.slub_common.proofs.Writes.{get_or-replicate_any, inside-of}
use Rattle.slub_object_layout.specs.Layout.{address_of, is_checked}
use Rattle.slub_object_layout.specs.declared.layout.Setting.{Setting}
use Rattle.slub_object_layout.specs.declared.layout.Setting.TheVariants.{MinPartial, CpuPartial}
use Rattle.slub_object_layout.specs.declared.layout.Spec.{Spec}
use Rattle.slub_trace.specs.declared.event.Round.{Round}
use Rattle.slub_common.specs.declared.no_such_cache.NoSuchCache.{NoSuchCache}
use Rattle.slub_cache_create.specs.declared.caches.Cache.{Cache}
use Rattle.slub_cache_create.specs.declared.caches.Created.{Created as CreatedCache}
use Rattle.slub_cache_create.specs.declared.caches.Created.TheVariants as made
use Rattle.slub_cache_create.specs.Table.{number_of, cache_of as live_cache}
use Rattle.slub_trace.specs.declared.create.Created.{Created}
use Rattle.slub_trace.specs.declared.create.Created.TheVariants.{New, Merged}
use Rattle.slub_trace.specs.declared.create.CreateRefusal.{CreateRefusal}
use Rattle.slub_node_partial.specs.Promotion.{IsPromoted}
use Rattle.slub_red_zone.specs.declared.slab.ObjectState.TheVariants.{Used}
use Rattle.slub_red_zone.specs.declared.zones.Part.{Part}
use Rattle.slub_red_zone.specs.State.{CheckedState, IsUsed, SlabState, no_slab, slab_of as checked_slab}
use Rattle.slub_red_zone.specs.Steps.{free_counts, no_slabs, opening as opening_slabs, without_slab as without_checked}
use Rattle.slub_lists.specs.declared.lists.Held.{Held}
use Rattle.slub_lists.specs.State.{State}
use Rattle.slub_lists.specs.Alloc.{cache_of, checked_of, node_of}
use Rattle.slub_lists.specs.Checked.{slot_of_held, with_checked}
use Rattle.slub_lists.specs.Coherent.{IsCoherent, held_under}
use Rattle.slub_lists.specs.Create.{CreatesCache}
use Rattle.slub_trace.specs.declared.destroy.Destroyed.{Destroyed}
use Rattle.slub_trace.specs.declared.destroy.Destroyed.TheVariants.{NameDropped, Gone}
use Rattle.slub_trace.specs.declared.destroy.DestroyRefusal.{DestroyRefusal}
use Rattle.slub_trace.specs.declared.destroy.DestroyRefusal.TheVariants.{NoSuchCache as NotLive, Busy}
use Rattle.slub_trace.specs.declared.tune.TuneRefusal.{TuneRefusal}
use Rattle.slub_trace.specs.declared.tune.TuneRefusal.TheVariants as unset
use Rattle.slub_lists.specs.Destroy.{Destroys}
use Rattle.slub_lists.specs.Free.{discarded, inuse_of, without_slab}
use Rattle.slub_lists.specs.Shrink.{Promotes, PromotesChecked, Shrinks, ShrinksByKind, all_free, flushed, flushed_below, min_partial_of, swept, swept_checked, swept_checked_slab, swept_slab}
use Rattle.slub_lists.specs.Tune.{Tunes, tuned, with_setting}
use Rattle.slub_lists.proofs.CheckedTaking.{held-used}
use Rattle.slub_lists.proofs.Kept.{consistent-of}
use Rattle.slub_lists.proofs.Flushing.{rest-flushed}
use Rattle.slub_trace.specs.declared.trace.Item.{Item}
use Rattle.slub_trace.specs.declared.trace.Item.TheVariants as item
use Rattle.slub_trace.specs.declared.trace.Trace.{Trace}
use Rattle.slub_trace.specs.declared.trace.Client.{Client as Asked}
use Rattle.slub_trace.specs.Sound.{IsSound, IsSoundItem, asked_objects, objects_in, objects_of}
use Rattle.slub_slabinfo_text.specs.declared.journal.Done.{Done}
use Rattle.slub_slabinfo_text.specs.declared.journal.Done.TheVariants as done
use Rattle.slub_slabinfo_text.specs.declared.journal.Journal.{Journal}
use Rattle.slub_slabinfo_text.specs.declared.client.ClientDone.{ClientDone}
use Rattle.slub_slabinfo_text.specs.declared.client.ClientRound.{ClientRound}
use Rattle.slub_slabinfo_text.specs.declared.journal.RoundResult.{RoundResult}
use Rattle.slub_slabinfo_text.specs.Lawful.{CreatesName, DoesPlain, opening_of}
use Rattle.slub_rounds.specs.Heap.{HeapState}
use Rattle.slub_rounds.specs.Kmalloc.{CreatesClasses}
use Rattle.slub_law_rounds.specs.Answered.{Answered}
use Rattle.slub_law_rounds.specs.Pokes.{WasGiven, WasPoked}
use Rattle.slub_law_rounds.proofs.Clean.{CleanSlab, parts_of}
use Rattle.slub_law_rounds.proofs.Cleaning.{Clean, by_place, gone-clean}
use Rattle.slub_law_rounds.proofs.Poked.{IsTold}
use Rattle.slub_law_rounds.proofs.Runs.{gone_under}
use Rattle.slub_law_rounds.proofs.Tale.{injected}
use Rattle.slub_law_replay.specs.Freed.{answered_by, rounds_among, rounds_of}
use Rattle.slub_law_replay.specs.Poked.{HasPokedDamages, RunsPoked}
use Rattle.slub_law_replay.specs.declared.way.Way.{Way}
use Rattle.slub_law_replay.specs.Ways.{DoesRoundBy}
use Rattle.slub_law_replay.specs.Runs.{Does, IsLawful, MachineState, RunsItems, heap_of, machine_of}
use Rattle.slub_law_replay.proofs.Dry.{match_some}
use Rattle.slub_law_replay.proofs.Made.{ClientEffect, IsSoundLine, MadeFor, MakesRounds, client_effect, made_caches, made_rounds, objects_asked}
use Rattle.slub_law_replay.proofs.Numbers.{IsBrief, front, items-brief}
use Rattle.slub_law_replay.proofs.Ready.{stands-first}
use Rattle.slub_law_replay.proofs.Rests.{Rests, creates-rest, destroys-rest, rests-same, shrinks-rest, tunes-rest}
use Rattle.slub_law_replay.proofs.Standing.{Stands, StandsBefore, line-sound, made-numbers, next-numbers, stands-may, stands-next, stands-round}
use Rattle.slub_law_replay.proofs.Moved.{rounds_done}
use Rattle.slub_law_replay.proofs.PokedRounds.{text-told, way-told}

module _ (told : List Answered) where
  -- ---- a machine with the same board, whose checked caches have fewer slabs

  -- each checked cache was there before with the same layout, and has the bytes that it had, or is another that has no bytes and no objects
  record Fewer (s after : State) : Type 0 where
    layouts : (cache : ℕ) (new : CheckedState) (held : Held) (object : ℕ) → held.cache ≡ cache → held_under after object ≡ Some held → checked_of after cache ≡ Some new → (old : CheckedState) × (checked_of s cache ≡ Some old) × (new.layout ≡ old.layout)
    clean : (cache : ℕ) (new : CheckedState) → checked_of after cache ≡ Some new → Clean (WasPoked told) new

  -- what is told stays so
  told-fewer : (s after : State) → Rests s after → ((object : ℕ) → gone_under s object ≡ None) → Fewer s after → IsTold told s → IsTold told after
  told-fewer s after rests unknown fewer is_told = record {
    known = λ object held slabs there now. known object held slabs there now;
    clean = fewer.clean;
  }
    where
      known : (object : ℕ) (held : Held) (slabs : CheckedState) → (held_under after object ≡ Some held) ⊎ (gone_under after object ≡ Some held) → checked_of after held.cache ≡ Some slabs → WasGiven told object (address_of held.frame held.index slabs.layout)
      known object held slabs (inr gone) now =
          absurd (let never : None ≡ Some held = sym (ap (λ (b : List (Option Held)). get_or b object None) rests.gone ∙ unknown object) ∙ gone in cc)
      known object held slabs (inl there) now =
          let was = fewer.layouts held.cache slabs held object refl there now in
          subst (λ l. WasGiven told object (address_of held.frame held.index l)) (sym was.2)
          (is_told.known object held was.0 (inl (sym (ap (λ (b : List (Option Held)). get_or b object None) rests.board) ∙ there)) was.1)

  -- the same checked caches
  fewer-same : (s after : State) → after.checked ≡ s.checked → IsTold told s → Fewer s after
  fewer-same s after same is_told = record {
    layouts = λ cache new held object mine there now. (new, sym (ap (λ (l : List (Option CheckedState)). get_or l cache None) same) ∙ now, refl);
    clean = λ cache new now. is_told.clean cache new (sym (ap (λ (l : List (Option CheckedState)). get_or l cache None) same) ∙ now);
  }

  -- ---- a new cache

  no-bytes : (frame : ℕ) → get_or no_slabs frame None ≡ None
  unfolding no_slabs
  no-bytes frame = get_or-replicate_any 4096 frame None

  opening-clean : (live : Cache) (cache : ℕ) → Clean (WasPoked told) (opening_slabs live.layout live.flags cache)
  opening-clean live cache frame =
      subst (λ x. CleanSlab (by_place (WasPoked told) live.layout frame) live.layout live.flags (unwrap_or x no_slab)) (sym (no-bytes frame))
      (λ j p part there has. absurd (nothing j part there))
    where
      nothing : (j : ℕ) (part : Part) → Contains (parts_of live.layout live.flags (slice_get no_slab.states j)) part → ⊥
      nothing j part there = let none = subst (λ x. Contains (parts_of live.layout live.flags x) part) (slice_get_past no_slab.states j (omega arith)) there in omega (arith, none.1)

  -- no object is of a cache that has no slab
  no-object-of : (after : State) (live : Cache) (cache object : ℕ) (held : Held) → IsCoherent after → held.cache ≡ cache → held_under after object ≡ Some held → checked_of after cache ≡ Some (opening_slabs live.layout live.flags cache) → ⊥
  no-object-of after live cache object held coherent mine there now =
      let slabs : CheckedState = opening_slabs live.layout live.flags cache in
      let used : IsUsed slabs (slot_of_held held) = held-used after object held slabs there (ap (checked_of after) mine ∙ now) (consistent-of after coherent) in
      let bare : checked_slab slabs held.frame ≡ no_slab = ap (λ x. unwrap_or x no_slab) (no-bytes held.frame) in
      let none : slice_get (checked_slab slabs held.frame).states held.index ≡ None = ap (λ (slab : SlabState). slice_get slab.states held.index) bare ∙ slice_get_past no_slab.states held.index (omega arith) in
      let never : None ≡ Some Used = sym none ∙ used in cc

  created-fewer : (s : State) (name : List ℕ) (spec : Spec) (created : CreatedCache) (after : State) → IsCoherent after → CreatesCache s name spec created after → IsTold told s → Fewer s after
  created-fewer s name spec (made.Merged cache) after coherent creates is_told = fewer-same s after (ap (λ (t : State). t.checked) creates.2) is_told
  created-fewer s name spec (made.New cache) after coherent creates is_told = match_some (live_cache creates.0 cache) _ (Fewer s after) creates.2 (λ live is. by live (is_checked live.flags) (ap (λ (t : State). t.checked) is))
    where
      by : (live : Cache) (b : Bool) → after.checked ≡ cond b (set s.checked cache (Some (opening_slabs live.layout live.flags cache))) s.checked → Fewer s after
      by live false is = fewer-same s after is is_told
      by live true is = record {
        layouts = λ other new held object mine there now. layouts other new held object mine there now (cases_eq other cache);
        clean = λ other new now. clean other new now (cases_eq other cache);
      }
        where
          elsewhere : (other : ℕ) → other ≢ cache → checked_of after other ≡ checked_of s other
          elsewhere other differ = ap (λ (l : List (Option CheckedState)). get_or l other None) is ∙ get_or-set_other s.checked cache other (Some (opening_slabs live.layout live.flags cache)) None differ

          -- what is written at a place is read there, if anything is
          set-some : (xs : List (Option CheckedState)) (i : ℕ) (x y : CheckedState) → get_or (set xs i (Some x)) i None ≡ Some y → y ≡ x
          set-some [] i x y e = absurd (cc)
          set-some (z ∷ xs) zero x y e = sym (injected e)
          set-some (z ∷ xs) (suc i) x y e = set-some xs i x y e

          mine-is : (other : ℕ) (new : CheckedState) → other ≡ cache → checked_of after other ≡ Some new → new ≡ opening_slabs live.layout live.flags cache
          mine-is other new mine now =
              set-some s.checked cache (opening_slabs live.layout live.flags cache) new
              (sym (ap (λ (l : List (Option CheckedState)). get_or l cache None) is) ∙ ap (checked_of after) (sym mine) ∙ now)

          layouts : (other : ℕ) (new : CheckedState) (held : Held) (object : ℕ) → held.cache ≡ other → held_under after object ≡ Some held → checked_of after other ≡ Some new → (other ≡ cache) ⊎ (other ≢ cache)
              → (old : CheckedState) × (checked_of s other ≡ Some old) × (new.layout ≡ old.layout)
          layouts other new held object mine there now (inl same) =
              absurd (no-object-of after live cache object held coherent (mine ∙ same) there (ap (checked_of after) (sym same) ∙ now ∙ ap Some (mine-is other new same now)))
          layouts other new held object mine there now (inr differ) = (new, sym (elsewhere other differ) ∙ now, refl)

          clean : (other : ℕ) (new : CheckedState) → checked_of after other ≡ Some new → (other ≡ cache) ⊎ (other ≢ cache) → Clean (WasPoked told) new
          clean other new now (inl same) = subst (Clean (WasPoked told)) (sym (mine-is other new same now)) (opening-clean live cache)
          clean other new now (inr differ) = is_told.clean other new (sym (elsewhere other differ) ∙ now)

  creates-fewer : (s : State) (name : List ℕ) (spec : Spec) (answer : Result Created CreateRefusal) (after : State) → IsCoherent after → CreatesName s name spec answer after → IsTold told s → Fewer s after
  creates-fewer s name spec (Ok (New cache)) after coherent creates is_told = created-fewer s name spec (made.New cache) after coherent creates.2 is_told
  creates-fewer s name spec (Ok (Merged cache title)) after coherent creates is_told = created-fewer s name spec (made.Merged cache) after coherent creates.2 is_told
  creates-fewer s name spec (Err why) after coherent creates is_told = fewer-same s after (ap (λ (t : State). t.checked) creates.1) is_told

  -- ---- shrinking

  -- the checked caches have the layouts that they had, and clean bytes
  record Shrunk (s after : State) : Type 0 where
    layouts : (cache : ℕ) (new : CheckedState) → checked_of after cache ≡ Some new → (old : CheckedState) × (checked_of s cache ≡ Some old) × (new.layout ≡ old.layout)
    clean : (cache : ℕ) (new : CheckedState) → checked_of after cache ≡ Some new → Clean (WasPoked told) new

  AreClean : State → Type 0
  AreClean s = (cache : ℕ) (slabs : CheckedState) → checked_of s cache ≡ Some slabs → Clean (WasPoked told) slabs

  shrunk-same : (s after : State) → after.checked ≡ s.checked → AreClean s → Shrunk s after
  unfolding AreClean
  shrunk-same s after same are = record {
    layouts = λ cache new now. (new, sym (ap (λ (l : List (Option CheckedState)). get_or l cache None) same) ∙ now, refl);
    clean = λ cache new now. are cache new (sym (ap (λ (l : List (Option CheckedState)). get_or l cache None) same) ∙ now);
  }

  shrunk-both : (s mid after : State) → Shrunk s mid → Shrunk mid after → Shrunk s after
  shrunk-both s mid after first second = record {
    layouts = λ cache new now.
        let one = second.layouts cache new now in
        let two = first.layouts cache one.0 one.1 in
        (two.0, two.1, one.2 ∙ two.2);
    clean = second.clean;
  }

  -- the slabs of one cache are others of its layout
  shrunk-one : (s : State) (cache : ℕ) (slabs rest : CheckedState) (after : State) → checked_of s cache ≡ Some slabs → after.checked ≡ set s.checked cache (Some rest) → rest.layout ≡ slabs.layout → Clean (WasPoked told) rest → AreClean s → Shrunk s after
  unfolding AreClean
  shrunk-one s cache slabs rest after was now_is layout clean are = record {
    layouts = λ other new now. elim (cases_eq other cache) [
      | inl mine ↦ (slabs, ap (checked_of s) mine ∙ was, ap (λ (c : CheckedState). c.layout) (injected (sym now ∙ ap (checked_of after) mine ∙ at)) ∙ layout)
      | inr differ ↦ (new, sym (elsewhere other differ) ∙ now, refl)
    ];
    clean = λ other new now. elim (cases_eq other cache) [
      | inl mine ↦ subst (Clean (WasPoked told)) (injected (sym at ∙ ap (checked_of after) (sym mine) ∙ now)) clean
      | inr differ ↦ are other new (sym (elsewhere other differ) ∙ now)
    ];
  }
    where
      at : checked_of after cache ≡ Some rest
      at = ap (λ (l : List (Option CheckedState)). get_or l cache None) now_is ∙ get_or-set_same s.checked cache (Some rest) None (inside-of s.checked cache slabs was)

      elsewhere : (other : ℕ) → other ≢ cache → checked_of after other ≡ checked_of s other
      elsewhere other differ = ap (λ (l : List (Option CheckedState)). get_or l other None) now_is ∙ get_or-set_other s.checked cache other (Some rest) None differ

  -- a cache that is not checked
  flush-checked : (min_partial cache : ℕ) (s : State) (cpus : List ℕ) → (fold (flushed min_partial cache) s cpus).checked ≡ s.checked
  flush-checked min_partial cache s [] = refl
  flush-checked min_partial cache s (cpu ∷ cpus) = flush-checked min_partial cache (flushed min_partial cache s cpu) cpus ∙ (rest-flushed min_partial cache s cpu).checked

  sweep-checked : (cache : ℕ) (s : State) (frames : List ℕ) → (fold (swept_slab cache) s frames).checked ≡ s.checked
  sweep-checked cache s [] = refl
  sweep-checked cache s (frame ∷ frames) = sweep-checked cache (swept_slab cache s frame) frames ∙ by (eqb (inuse_of s frame) 0)
    where
      by : (b : Bool) → (cond b (discarded (without_slab s cache frame) frame) s).checked ≡ s.checked
      by true = refl
      by false = refl

  -- a checked one
  sweep-one : (cache : ℕ) (s : State) (frame : ℕ) → AreClean s → Shrunk s (swept_checked_slab cache s frame)
  unfolding AreClean
  sweep-one cache s frame are = by (checked_of s cache) refl
    where
      go : (slabs : CheckedState) → checked_of s cache ≡ Some slabs → (b : Bool) → Shrunk s (cond b (discarded (with_checked s cache (without_checked slabs frame)) frame) s)
      go slabs e true = shrunk-one s cache slabs (without_checked slabs frame) _ e refl refl (gone-clean (WasPoked told) slabs frame (are cache slabs e)) are
      go slabs e false = shrunk-same s s refl are

      by : (x : Option CheckedState) → checked_of s cache ≡ x → Shrunk s (option_map_or (λ slabs. cond (all_free slabs frame) (discarded (with_checked s cache (without_checked slabs frame)) frame) s) x s)
      by None e = shrunk-same s s refl are
      by (Some slabs) e = go slabs e (all_free slabs frame)

  sweep-all : (cache : ℕ) (s : State) (frames : List ℕ) → AreClean s → Shrunk s (fold (swept_checked_slab cache) s frames)
  unfolding AreClean
  sweep-all cache s [] are = shrunk-same s s refl are
  sweep-all cache s (frame ∷ frames) are =
      let one = sweep-one cache s frame are in
      shrunk-both s (swept_checked_slab cache s frame) _ one (sweep-all cache (swept_checked_slab cache s frame) frames one.clean)

  kind-shrunk : (s : State) (cache : ℕ) (after : State) → ShrinksByKind s cache after → AreClean s → Shrunk s after
  unfolding AreClean
  kind-shrunk s cache after shrinks are =
      match_some (cache_of s cache) _ (Shrunk s after) shrinks (λ live shrinks. by live.layout.min_partial (checked_of s cache) shrinks)
    where
      by : (min_partial : ℕ) (x : Option CheckedState) → MatchOption x (Promotes (swept (flushed_below s min_partial cache s.cpus) cache) cache after) (λ slabs. PromotesChecked (swept_checked s cache slabs) cache after) → Shrunk s after
      by min_partial None promotes =
          let flat : State = flushed_below s min_partial cache s.cpus in
          shrunk-same s after (ap (λ (t : State). t.checked) promotes.2 ∙ sweep-checked cache flat (node_of flat cache) ∙ flush-checked min_partial cache s (range_with_len 0 s.cpus)) are
      by min_partial (Some slabs) promotes =
          let mid : State = swept_checked s cache slabs in
          let first = sweep-all cache s slabs.listed are in
          promoted mid first (checked_of mid cache) refl promotes
        where
          promoted : (mid : State) → Shrunk s mid → (x : Option CheckedState) → checked_of mid cache ≡ x
              → MatchOption x ⊥ (λ slabs. (frames : List ℕ) × IsPromoted slabs.listed (free_counts slabs) frames × (after ≡ with_checked mid cache (record slabs { listed = frames }))) → Shrunk s after
          promoted mid first None e promotes = absurd promotes
          promoted mid first (Some now) e promotes =
              shrunk-both s mid after first
              (shrunk-one mid cache now (record now { listed = promotes.0 }) after e (ap (λ (t : State). t.checked) promotes.2) refl (λ frame. first.clean cache now e frame) first.clean)

  fewer-of : (s after : State) → Shrunk s after → Fewer s after
  fewer-of s after shrunk = record {
    layouts = λ cache new held object mine there now. shrunk.layouts cache new now;
    clean = shrunk.clean;
  }

  are-clean : (s : State) → IsTold told s → AreClean s
  unfolding AreClean
  are-clean s is_told = is_told.clean

  shrinks-fewer : (s : State) (name : List ℕ) (answer : Result Bool NoSuchCache) (after : State) → Shrinks s name answer after → IsTold told s → Fewer s after
  shrinks-fewer s name (Err none) after shrinks is_told = fewer-same s after (ap (λ (t : State). t.checked) shrinks.1) is_told
  shrinks-fewer s name (Ok remain) after shrinks is_told =
      match_some (number_of s.table name) _ (Fewer s after) shrinks (λ cache shrinks. fewer-of s after (kind-shrunk s cache after shrinks.0.steps (are-clean s is_told)))

  -- ---- tuning

  tuned-checked : (s : State) (cache : ℕ) (setting : Setting) → (tuned s cache setting).checked ≡ s.checked
  tuned-checked s cache (MinPartial slabs) = refl
  tuned-checked s cache (CpuPartial objects) = by (is_some (checked_of s cache))
    where
      by : (b : Bool) → (cond b s (with_setting (flushed_below s (min_partial_of s cache) cache s.cpus) cache (CpuPartial objects))).checked ≡ s.checked
      by true = refl
      by false = flush-checked (min_partial_of s cache) cache s (range_with_len 0 s.cpus)

  tunes-fewer : (s : State) (name : List ℕ) (setting : Setting) (answer : Result (Unit {0}) TuneRefusal) (after : State) → Tunes s name setting answer after → IsTold told s → Fewer s after
  tunes-fewer s name setting (Err unset.NoSuchCache) after tunes is_told = fewer-same s after (ap (λ (t : State). t.checked) tunes.1) is_told
  tunes-fewer s name setting (Err unset.Checked) after tunes is_told =
      match_some (number_of s.table name) _ (Fewer s after) tunes (λ cache refused. fewer-same s after (ap (λ (t : State). t.checked) refused.1) is_told)
  tunes-fewer s name setting (Ok done) after tunes is_told =
      match_some (number_of s.table name) _ (Fewer s after) tunes (λ cache set. fewer-same s after (ap (λ (t : State). t.checked) set.1.steps ∙ tuned-checked s cache setting) is_told)

  -- ---- destroying

  destroys-fewer : (s : State) (name : List ℕ) (answer : Result Destroyed DestroyRefusal) (after : State) → Destroys s name answer after → IsTold told s → Fewer s after
  destroys-fewer s name (Err NotLive) after destroys is_told = fewer-same s after (ap (λ (t : State). t.checked) destroys.1) is_told
  destroys-fewer s name (Err (Busy objects)) after destroys is_told =
      match_some (number_of s.table name) _ (Fewer s after) destroys (λ cache busy. fewer-same s after (ap (λ (t : State). t.checked) busy.3) is_told)
  destroys-fewer s name (Ok NameDropped) after destroys is_told =
      match_some (number_of s.table name) _ (Fewer s after) destroys (λ cache drops. fewer-same s after (ap (λ (t : State). t.checked) drops.1) is_told)
  destroys-fewer s name (Ok Gone) after destroys is_told =
      match_some (number_of s.table name) _ (Fewer s after) destroys (λ cache goes. fewer-of s after (gone cache goes.2 (kind-shrunk s cache goes.2 goes.3.steps (are-clean s is_told)) (ap (λ (t : State). t.checked) goes.5)))
    where
      none-set : (xs : List (Option CheckedState)) (i : ℕ) (y : CheckedState) → get_or (set xs i None) i None ≡ Some y → ⊥
      none-set [] i y e = cc
      none-set (z ∷ xs) zero y e = cc
      none-set (z ∷ xs) (suc i) y e = none-set xs i y e

      gone : (cache : ℕ) (empty : State) → Shrunk s empty → after.checked ≡ set empty.checked cache None → Shrunk s after
      gone cache empty first is = record {
        layouts = λ other new now. first.layouts other new (back other new now);
        clean = λ other new now. first.clean other new (back other new now);
      }
        where
          back : (other : ℕ) (new : CheckedState) → checked_of after other ≡ Some new → checked_of empty other ≡ Some new
          back other new now = elim (cases_eq other cache) [
            | inl mine ↦ absurd (none-set empty.checked cache new (sym (ap (λ (l : List (Option CheckedState)). get_or l cache None) is) ∙ ap (checked_of after) (sym mine) ∙ now))
            | inr differ ↦ sym (ap (λ (l : List (Option CheckedState)). get_or l other None) is ∙ get_or-set_other empty.checked cache other None None differ) ∙ now
          ]

  -- ---- the caches of classes

  classes-told : (h : HeapState) (trace : Trace) (classes : List ℕ) (answers : List (Result Created CreateRefusal)) (after : HeapState) → ((object : ℕ) → gone_under h.lists object ≡ None) → CreatesClasses h trace classes answers after → IsTold told h.lists
      → IsTold told after.lists
  classes-told h trace [] [] after unknown creates is_told = subst (λ (now : HeapState). IsTold told now.lists) (sym creates) is_told
  classes-told h trace [] (answer ∷ answers) after unknown creates is_told = absurd creates
  classes-told h trace (class ∷ classes) [] after unknown creates is_told = absurd creates
  classes-told h trace (class ∷ classes) (answer ∷ answers) after unknown creates is_told =
      let mid = creates.0 in
      let made = creates.1 in
      let rests = creates-rest h.lists _ _ answer mid.lists made.creates in
      let first = told-fewer h.lists mid.lists rests unknown (creates-fewer h.lists _ _ answer mid.lists made.coherent made.creates is_told) is_told in
      classes-told mid trace classes answers after (λ object. ap (λ (b : List (Option Held)). get_or b object None) rests.gone ∙ unknown object) creates.2 first

-- ---- rounds

-- what rounds tell of is poked by what was told before, and by themselves
abbrev GoesOn : List Answered → List ClientRound → State → Type 0
GoesOn told rounds after = RunsPoked told rounds × IsTold (told ++ flat_map answered_by rounds) after

rounds-told : (told : List Answered) (sound : Type 0) (h : HeapState) (trace : Trace) (rounds : List ClientRound) (coming : List ℕ) (after : HeapState) → sound → Stands h.lists trace (flat_map objects_asked rounds ++ coming)
    → MakesRounds trace sound h rounds after → IsTold told h.lists → GoesOn told rounds after.lists
rounds-told told sound h trace [] coming after whole stands same is_told =
    (tt, subst (λ (l : List Answered). IsTold l after.lists) (sym (append-nil told)) (subst (λ (now : HeapState). IsTold told now.lists) (sym same) is_told))
rounds-told told sound h trace (round ∷ rounds) coming after whole stands makes is_told =
    let mid = makes.0 in
    let later = flat_map objects_asked rounds ++ coming in
    let now = next-numbers h.lists trace round rounds coming stands in
    let asked = makes.1.asks whole in
    let tells = text-told told h.lists trace round.asked round.result mid.lists now.coherent now.rest (stands-may h.lists trace round.asked later now asked.sound asked.few) is_told h.ids mid.ids makes.1.does in
    let next = stands-round h trace round.asked later round.result mid now asked makes.1.does in
    let rest = rounds-told (told ++ answered_by round) sound mid trace rounds coming after whole next makes.2 tells.then in
    ((record { reports = tells.damages; frees = tells.frees_told }, rest.0), subst (λ (l : List Answered). IsTold l after.lists) (append_assoc told (answered_by round) (flat_map answered_by rounds)) rest.1)

-- more rounds, after these
poked-more : (told : List Answered) (rounds others : List ClientRound) → RunsPoked told rounds → RunsPoked (told ++ flat_map answered_by rounds) others → RunsPoked told (rounds ++ others)
poked-more told [] others first second = subst (λ (l : List Answered). RunsPoked l others) (append-nil told) second
poked-more told (round ∷ rounds) others first second =
    (first.0, poked-more (told ++ answered_by round) rounds others first.1 (subst (λ (l : List Answered). RunsPoked l others) (sym (append_assoc told (answered_by round) (flat_map answered_by rounds))) second))

-- ---- items

-- an item that makes no round tells of nothing
quiet-told : (told : List Answered) (rounds : List ClientRound) (after : State) → rounds ≡ [] → IsTold told after → GoesOn told rounds after
quiet-told told rounds after none is_told = subst (λ (rounds : List ClientRound). GoesOn told rounds after) (sym none) (tt, subst (λ (l : List Answered). IsTold l after) (sym (append-nil told)) is_told)

quiet : (told : List Answered) (s : State) (trace : Trace) (coming : List ℕ) (after : State) → Stands s trace coming → Rests s after → Fewer told s after → IsTold told s → GoesOn told [] after
quiet told s trace coming after stands rests fewer is_told = quiet-told told [] after refl (told-fewer told s after rests stands.rest.forgotten fewer is_told)

made-told : (told : List Answered) (sound : Type 0) (h : HeapState) (trace : Trace) (rounds : List ClientRound) (numbers coming : List ℕ) (after : HeapState) → sound → Stands h.lists trace (numbers ++ coming)
    → MadeFor trace sound h rounds numbers after → IsTold told h.lists → GoesOn told rounds after.lists
made-told told sound h trace rounds numbers coming after whole stands made is_told =
    rounds-told told sound h trace rounds coming after whole (made-numbers h.lists trace rounds numbers coming made.objects stands) made.runs is_told

-- a round is done by the way
way-round : (told : List Answered) (way : Way) (m : MachineState) (trace : Trace) (round : Round) (result : RoundResult) (coming : List ℕ) (after : MachineState) → Stands m.lists trace (objects_of round.events ++ coming) → IsSoundItem trace (item.Round round)
    → IsBrief (item.Round round) → DoesRoundBy way m.rounds m.lists m.ids round result after.lists after.ids → IsTold told m.lists → GoesOn told (record { asked = round; result = result } ∷ []) after.lists
way-round told way m trace round result coming after stands sound brief does is_told =
    let tells = way-told told m.lists trace round result after.lists stands.coherent stands.rest (stands-may m.lists trace round coming stands sound brief) is_told way m.rounds m.ids after.ids does in
    let answers = answered_by (record { asked = round; result = result }) in
    ((record { reports = tells.damages; frees = tells.frees_told }, tt), subst (λ (l : List Answered). IsTold (told ++ l) after.lists) (sym (append-nil answers)) tells.then)

plain-told : (told : List Answered) (s : State) (trace : Trace) (it : Item) (dn : Done) (coming : List ℕ) (after : State) → Stands s trace (objects_in it ++ coming) → IsCoherent after → DoesPlain s trace it dn after → IsTold told s → GoesOn told (rounds_of it dn) after
unfolding DoesPlain
plain-told told s trace (item.Cache place spec) (done.Created answer) coming after stands coherent does is_told =
    quiet told s trace coming after stands (creates-rest s _ spec answer after does) (creates-fewer told s _ spec answer after coherent does is_told) is_told
plain-told told s trace (item.Shrink place) (done.Shrunk answer) coming after stands coherent does is_told =
    quiet told s trace coming after stands (shrinks-rest s _ answer after does) (shrinks-fewer told s _ answer after does is_told) is_told
plain-told told s trace (item.Destroy place) (done.Destroyed answer) coming after stands coherent does is_told =
    quiet told s trace coming after stands (destroys-rest s _ answer after does) (destroys-fewer told s _ answer after does is_told) is_told
plain-told told s trace item.Slabinfo (done.Slabinfo rows) coming after stands coherent does is_told =
    quiet told s trace coming after stands (rests-same s after does.1) (fewer-same told s after (ap (λ (t : State). t.checked) does.1) is_told) is_told
plain-told told s trace (item.Tune place setting) (done.Tuned answer) coming after stands coherent does is_told =
    quiet told s trace coming after stands (tunes-rest s _ setting answer after does) (tunes-fewer told s _ setting answer after does is_told) is_told
plain-told told s trace _ _ coming after stands coherent does is_told = absurd does

client-told : (told : List Answered) (sound : Type 0) (h : HeapState) (trace : Trace) (client : Asked) (outcome : ClientDone) (coming : List ℕ) (after : HeapState) → sound → Stands h.lists trace (asked_objects client ++ coming)
    → ClientEffect trace sound h client outcome after → IsTold told h.lists → GoesOn told outcome.rounds after.lists
client-told told sound h trace client outcome coming after whole stands (made_rounds rounds) is_told = made-told told sound h trace outcome.rounds (asked_objects client) coming after whole stands rounds is_told
client-told told sound h trace client outcome coming after whole stands (made_caches answers none creates) is_told =
    quiet-told told outcome.rounds after.lists none (classes-told told h trace (range_with_len 0 13) answers after stands.rest.forgotten creates is_told)

item-told : (told : List Answered) (way : Way) (m : MachineState) (trace : Trace) (it : Item) (dn : Done) (coming : List ℕ) (after : MachineState) → StandsBefore m trace (objects_in it ++ coming) → IsSoundItem trace it → IsBrief it → IsCoherent after.lists
    → Does way m trace it dn after → IsTold told m.lists → GoesOn told (rounds_of it dn) after.lists
unfolding Does
item-told told way m trace (item.Round round) (done.Round result) coming after stands sound brief coherent does is_told = way-round told way m trace round result coming after stands.lists sound brief does.0 is_told
item-told told way m trace (item.Client client) (done.Client outcome) coming after stands sound brief coherent does is_told =
    client-told told (IsSoundLine trace m.reserves client) (heap_of m) trace client outcome coming (heap_of after) (line-sound m trace client (asked_objects client ++ coming) stands sound) stands.lists
    (client_effect m trace client outcome after does.0) is_told
item-told told way m trace it dn coming after stands sound brief coherent does is_told = plain-told told m.lists trace it dn coming after.lists stands.lists coherent does.0 is_told

all-told : (told : List Answered) (way : Way) (m : MachineState) (trace : Trace) (items : List Item) (dones : List Done) (after : MachineState) → StandsBefore m trace (flat_map objects_in items) → All (IsSoundItem trace) items → All IsBrief items → RunsItems way m trace items dones after
    → IsTold told m.lists → RunsPoked told (rounds_among items dones)
all-told told way m trace [] [] after stands sound brief run is_told = tt
all-told told way m trace [] (dn ∷ dones) after stands sound brief run is_told = absurd run
all-told told way m trace (it ∷ items) [] after stands sound brief run is_told = absurd run
all-told told way m trace (it ∷ items) (dn ∷ dones) after stands sound brief run is_told =
    let here = All-head (IsSoundItem trace) it items sound in
    let goes = item-told told way m trace it dn (flat_map objects_in items) run.0 stands here (All-head IsBrief it items brief) run.2 run.1 is_told in
    let next = stands-next way m trace it dn (flat_map objects_in items) run.0 stands here (All-head IsBrief it items brief) run.2 run.1 in
    poked-more told (rounds_of it dn) (rounds_among items dones) goes.0 (all-told (told ++ flat_map answered_by (rounds_of it dn)) way run.0 trace items dones after next (All-tail (IsSoundItem trace) it items sound) (All-tail IsBrief it items brief) run.3 goes.1)

-- before the first item nothing is checked, and no number is known
opened-told : (trace : Trace) → IsTold [] (opening_of trace)
opened-told trace = record {
  known = λ object held slabs there now. absurd (let never : None ≡ Some slabs = sym (get_or-replicate_any 32 held.cache None) ∙ now in cc);
  clean = λ cache slabs now. absurd (let never : None ≡ Some slabs = sym (get_or-replicate_any 32 cache None) ∙ now in cc);
}

-- each damage was poked
pub poked-damages : (way : Way) (trace : Trace) (journal : Journal) → IsSound trace → IsLawful way trace journal → HasPokedDamages trace journal
poked-damages way trace journal sound lawful =
    let some = length journal.items in
    let told = all-told [] way (machine_of trace) trace (take some trace.items) journal.items lawful.machine (stands-first trace some sound lawful.coherent) (front (IsSoundItem trace) some trace.items sound.items) (front IsBrief some trace.items (items-brief trace sound)) lawful.run (opened-told trace) in
    subst (RunsPoked []) (rounds_done trace journal) told
