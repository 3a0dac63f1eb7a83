-- A new slab of a checked cache, which gives its first object.
use Rattle.std.proofs.Common.{◌≡◌, ◌≢◌, ℕ, ◌+◌, ◌-◌, ◌%◌, ◌^◌, ◌<◌, ◌≤◌, ◌||◌, ◌⊎◌, true, List, [], ◌∷◌, ◌++◌, length, get_or, get_or-set_same, set, filter, Option, Some, None, IsSome, IfSome, MatchOption, option_map, inl, inr, refl, ap, sym, ◌∙◌, subst, arith, length-set, nat_lt, nat_le, pow_pos}
use Rattle.std.specs.Prelude.{⊤}
use Rattle.std.specs.List.{range_with_len}
use Rattle.std.proofs.lemmas.Bool.{cases_lt}
use Rattle.std.proofs.lemmas.Bool.Decides.{nat_tests}
use Rattle.std.proofs.lemmas.List.Sums.{sum_by-set}
use Rattle.slub_common.proofs.Times.{times-append, times-cons, times-range, times-contained, times-filter_fail, times-filter_pass}
use Rattle.slub_page_pool.specs.Block.{CanPut, with_run}
use Rattle.slub_page_pool.specs.FreeFrames.{FreeFrames, IsPool}
use Rattle.slub_common.specs.Times.{times}
use Rattle.slub_object_layout.specs.declared.layout.Layout.{Layout}
use Rattle.slub_red_zone.specs.Objects.{AddsGivenSlab, here, idle, one_of, shape_at, shape_of}
use Rattle.slub_red_zone.specs.Sound.{IsSound}
use Rattle.slub_object_layout.specs.Layout.{IsSized}
use Rattle.slub_red_zone.specs.State.{CheckedState, Has}
use Rattle.slub_lists.specs.declared.lists.Slab.{Slab}
use Rattle.slub_lists.specs.declared.lists.Held.{Held}
use Rattle.slub_lists.specs.declared.lists.Run.{Run}
use Rattle.slub_lists.specs.State.{State}
use Rattle.slub_lists.specs.Alloc.{FindsRun, cache_of, checked_of, cpu_place, held_here, own_free, slab_of, with_held, HasLayout, IsLive}
use Rattle.slub_lists.specs.Checked.{first_slot, put_back}
use Rattle.slub_lists.specs.CheckedSteps.{run_of, slab_of_run}
use Rattle.slub_lists.specs.Coherent.{Agrees, AreChecked, IsCacheOf, IsCheckedOf, IsConsistent, IsFramed, IsListed, IsSlabOf, covers, has_object, idle_in, places, times_current, times_partial}
use Rattle.slub_common.proofs.Writes.{at_written, at_written_else}
use Rattle.slub_lists.proofs.Times.{current-same}
use Rattle.slub_common.proofs.Sums.{element-counted}
use Rattle.slub_lists.proofs.Framed.{covered-set, framed-most, framed-with_new_slab, run-inside, run-unused}
use Rattle.slub_lists.proofs.Listed.{IsFrozenBy, IsOf, current-counted-at, node-counted, partial-counted-at, unlisted-unused}
use Rattle.slub_lists.proofs.Runs.{IsRunFor, none-frames, none-free}
use Rattle.slub_lists.proofs.CheckedSlabs.{IsLiveOf, IsStanding, are-checked-same, are-checked-with, at_match, held-standing, idle-with, listed-same, match_weaker, of-same, shaped-with_slabs, some_weaker, was-checked, whole, with_slabs}
use Rattle.slub_lists.proofs.CheckedGiving.{live-of, the-value}

-- a list where no number stands is empty
nothing-stands : (xs : List ℕ) → ((f : ℕ) → times f xs ≡ 0) → xs ≡ []
nothing-stands [] none = refl
nothing-stands (x ∷ xs) none = absurd (omega (arith, none x, times-cons x x xs, current-same x x 1 refl))

-- ---- free frames

-- a run that comes back, none of which was free
pub times-with_run : (f : ℕ) (free : List ℕ) (frame order : ℕ) → ((g : ℕ) → frame ≤ g → g < frame + 2 ^ order → times g free ≡ 0)
    → (((frame ≤ f) × (f < frame + 2 ^ order)) → times f (with_run free frame order) ≡ 1) × (((f < frame) ⊎ (frame + 2 ^ order ≤ f)) → times f (with_run free frame order) ≡ times f free)
times-with_run f free frame order none =
    let first = times-append f (filter (λ g. nat_lt g frame) free) (range_with_len frame (2 ^ order)) in
    let all : times f (with_run free frame order) ≡ times f (filter (λ g. nat_lt g frame) free ++ range_with_len frame (2 ^ order)) + times f (filter (λ g. nat_le (frame + 2 ^ order) g) free) =
    times-append f (filter (λ g. nat_lt g frame) free ++ range_with_len frame (2 ^ order)) (filter (λ g. nat_le (frame + 2 ^ order) g) free) in
    let range = times-range f frame (2 ^ order) in (
      λ within.
          let gone = times-filter_fail f (λ g. nat_lt g frame) free (grind (arith, nat_tests, within.0)) in
          let out = times-filter_fail f (λ g. nat_le (frame + 2 ^ order) g) free (grind (arith, nat_tests, within.1)) in
          let one : times f (range_with_len frame (2 ^ order)) ≡ 1 = grind (arith, nat_tests, range, within.0, within.1) in
          omega (arith, all, first, gone, out, one),
      λ outside. elim outside [
        | inl before ↦
            let stays = times-filter_pass f (λ g. nat_lt g frame) free (grind (arith, nat_tests, before)) in
            let out = times-filter_fail f (λ g. nat_le (frame + 2 ^ order) g) free (grind (arith, nat_tests, before)) in
            let nothing : times f (range_with_len frame (2 ^ order)) ≡ 0 = grind (arith, nat_tests, range, before) in
            omega (arith, all, first, stays, out, nothing)
        | inr past ↦
            let gone = times-filter_fail f (λ g. nat_lt g frame) free (grind (arith, nat_tests, past)) in
            let stays = times-filter_pass f (λ g. nat_le (frame + 2 ^ order) g) free (grind (arith, nat_tests, past)) in
            let nothing : times f (range_with_len frame (2 ^ order)) ≡ 0 = grind (arith, nat_tests, range, past) in
            omega (arith, all, first, gone, stays, nothing)
      ],
    )

-- ---- a run that was found

module _ (s : State) (layout : Layout) (run : Run) (pool : FreeFrames) (consistent : IsConsistent s) (is_run : IsRunFor s.pool layout run pool) where
  pub run-slot : run.frame < length s.slabs
  run-slot = omega (arith, run-inside s 0 0 pool run is_run.all_free consistent.framed, consistent.shaped.slabs)

  pub run-none : slab_of s run.frame ≡ None
  run-none = run-unused s 0 0 pool run is_run.all_free consistent.framed run-slot

  -- its frames were free, and frame 0 isn't among them
  run-frames : (g : ℕ) → run.frame ≤ g → g < run.frame + 2 ^ run.order → (0 < g) × (g < s.frames) × (times g s.pool.free ≡ 1)
  run-frames g low high =
      let e = consistent.framed g in
      let some = times-contained g s.pool.free (is_run.all_free g low high) in
      let most = framed-most s g consistent.framed in
      (grind (arith, nat_tests, e, some), grind (arith, nat_tests, e, some), omega (arith, some, most))

  pub run-first : (1 ≤ run.frame) × (run.frame < 4096)
  run-first =
      let first = run-frames run.frame (omega arith) (omega (arith, pow_pos run.order)) in
      (omega (arith, first.0), omega (arith, first.1, consistent.shaped.frames.1))

  -- none of them is free any more
  run-taken : (g : ℕ) → run.frame ≤ g → g < run.frame + 2 ^ run.order → times g pool.free ≡ 0
  run-taken g low high =
      ap (times g) is_run.less ∙ times-filter_fail g (λ g. nat_lt g run.frame || nat_le (run.frame + 2 ^ run.order) g) s.pool.free (grind (arith, nat_tests, low, high))

  -- it can come back
  pub run-can-put : IsLive layout → CanPut pool run.frame run.order
  run-can-put live =
      let last = run-frames (run.frame + 2 ^ run.order - 1) (omega (arith, pow_pos run.order)) (omega (arith, pow_pos run.order)) in
      record {
        small = elim is_run.fits [
          | inl wide ↦ omega (arith, wide.0, live.1.made.order)
          | inr least ↦ omega (arith, least.0, live.1.made.min_order, live.1.made.order)
        ];
        aligned = is_run.aligned;
        positive = run-first.0;
        inside = omega (arith, last.1, pow_pos run.order, is_run.frames, consistent.shaped.pool_frames);
        none_free = λ g low high found. omega (arith, run-taken g low high, times-contained g pool.free found);
      }

  -- and then each frame is as it was
  pub put-back-consistent : IsPool (put_back pool run) → IsConsistent (record s { pool = put_back pool run })
  put-back-consistent good =
      let shaped = consistent.shaped in
      let same : (f : ℕ) → times f (with_run pool.free run.frame run.order) ≡ times f s.pool.free = λ f.
      let back = times-with_run f pool.free run.frame run.order run-taken in
      let less = ap (times f) is_run.less in
      elim (cases_lt f run.frame) [
        | inl before ↦ omega (arith, back.1 (inl before), less, times-filter_pass f (λ g. nat_lt g run.frame || nat_le (run.frame + 2 ^ run.order) g) s.pool.free (grind (arith, nat_tests, before)))
        | inr from ↦ elim (cases_lt f (run.frame + 2 ^ run.order)) [
          | inl within ↦ omega (arith, back.0 (from, within), (run-frames f from within).2)
          | inr past ↦ omega (arith, back.1 (inr past), less, times-filter_pass f (λ g. nat_lt g run.frame || nat_le (run.frame + 2 ^ run.order) g) s.pool.free (grind (arith, nat_tests, past)))
        ]
      ] in
      record {
        shaped = shaped-with_slabs s (put_back pool run) s.slabs s.frees s.checked s.memory s.board s.live good is_run.frames refl refl refl refl refl
            (are-checked-same s (put_back pool run) s.memory s.board s.live shaped.checked) shaped.slab shaped.aligned shaped.held shaped.no_zero shaped;
        placed = consistent.placed;
        framed = λ f. omega (arith, consistent.framed f, same f);
        listed = listed-same s (put_back pool run) s.checked s.memory s.board s.live consistent.listed;
        accounted = consistent.accounted;
      }

-- where none was found, only a count of the pool changes
pub counted-consistent : (s : State) (layout : Layout) (pool : FreeFrames) → IsPool pool → FindsRun s.pool layout None pool → IsConsistent s → IsConsistent (record s { pool = pool })
counted-consistent s layout pool good found consistent =
    let shaped = consistent.shaped in
    record {
      shaped = shaped-with_slabs s pool s.slabs s.frees s.checked s.memory s.board s.live good (none-frames s.pool layout pool found) refl refl refl refl refl
          (are-checked-same s pool s.memory s.board s.live shaped.checked) shaped.slab shaped.aligned shaped.held shaped.no_zero shaped;
      placed = consistent.placed;
      framed = λ f. omega (arith, consistent.framed f, ap (times f) (none-free s.pool layout pool found));
      listed = listed-same s pool s.checked s.memory s.board s.live consistent.listed;
      accounted = consistent.accounted;
    }

-- ---- the slab that is made of it

-- the machine with it, before its first object is given
abbrev pub coming : State → ℕ → FreeFrames → Run → CheckedState → State
coming s cache pool run new =
    with_slabs s pool (set s.slabs run.frame (Some (slab_of_run cache run))) s.frees (set s.checked cache (Some new)) s.memory s.board s.live

-- another cache has no slab there
comes : (other : ℕ) (slab : Slab) (shape : Option (ℕ × ℕ)) → other ≢ slab.cache → Agrees other None shape → Agrees other (Some slab) shape
comes other slab None ne h = λ e. ne (sym e)
comes other slab (Some shape) ne h = absurd h

-- no slab of the cache stands there either
lacks : (cache : ℕ) (x : Option Slab) (shape : Option (ℕ × ℕ)) → x ≡ None → Agrees cache x shape → shape ≡ None
lacks cache None None e h = refl
lacks cache None (Some shape) e h = absurd h
lacks cache (Some slab) shape e h = cc

module _ (s : State) (cache : ℕ) (layout : Layout) (old : CheckedState) (run : Run) (pool : FreeFrames) (was : checked_of s cache ≡ Some old) (has : HasLayout s cache layout) (consistent : IsConsistent s) (is_run : IsRunFor s.pool layout run pool) where
  slot : run.frame < length s.slabs
  slot = run-slot s layout run pool consistent is_run

  unused : slab_of s run.frame ≡ None
  unused = run-none s layout run pool consistent is_run

  of-cache : IsCheckedOf s cache old
  of-cache = was-checked s cache old old was consistent.shaped.checked

  pub new-lacks : ¬ Has old run.frame
  new-lacks there = impossible (get_or old.slabs run.frame None) (lacks cache (slab_of s run.frame) (shape_at old run.frame) unused (of-cache.agrees run.frame)) there
    where
      impossible : (x : Option _) → option_map shape_of x ≡ None → IsSome x → ⊥
      impossible None e some = cc
      impossible (Some slab) e some = cc

  pub new-sized : IsSized old.layout run.order run.objects
  new-sized =
      let live = the-value (cache_of s cache) (λ live. live.layout ≡ layout) has in
      let same = at_match (cache_of s cache) live.0 (λ c. IsCacheOf old c.layout c.flags) live.1 of-cache.live in
      subst (λ (l : Layout). IsSized l run.order run.objects) (sym live.2 ∙ same.0) is_run.fits

  -- nothing stands on a freelist of it
  own-empty : own_free s run.frame ≡ []
  own-empty = nothing-stands (own_free s run.frame) (λ i. omega (arith, consistent.placed run.frame i, ap (has_object i) unused))

  module _ (new : CheckedState) (good : IsPool pool) (sound : IsSound new) (adds : AddsGivenSlab old (run_of run) run.objects (first_slot run) new) where
    coming-checked : AreChecked (coming s cache pool run new)
    coming-checked =
        are-checked-with s cache old new was pool (set s.slabs run.frame (Some (slab_of_run cache run))) s.frees s.memory s.board s.live
        (record {
          sound = sound;
          number = adds.others.cache ∙ of-cache.number;
          live = match_weaker (cache_of s cache) (λ c. IsCacheOf old c.layout c.flags) (λ c. IsCacheOf new c.layout c.flags) (λ c h. of-same old new c.layout c.flags adds.others.layout adds.others.flags h) of-cache.live;
          agrees = λ frame. at_written_else (λ x. Agrees cache x (shape_at new frame)) s.slabs run.frame frame (Some (slab_of_run cache run)) None slot
              (λ e. subst (Agrees cache (Some (slab_of_run cache run))) (sym (ap (shape_at new) e ∙ adds.shape)) (refl, refl, refl))
              (λ ne. subst (Agrees cache (slab_of s frame)) (sym (adds.others.shape frame ne)) (of-cache.agrees frame));
          unlisted = of-cache.unlisted;
          off_node = of-cache.off_node;
          unfree = λ frame. at_written (λ x. MatchOption x ⊤ (λ slab. slab.cache ≡ cache → own_free s frame ≡ [])) s.slabs run.frame frame (Some (slab_of_run cache run)) None
              (λ e. λ own. ap (own_free s) e ∙ own-empty) (of-cache.unfree frame);
        })
        (λ other its ne is. record {
          sound = is.sound;
          number = is.number;
          live = is.live;
          agrees = λ frame. at_written (λ x. Agrees other x (shape_at its frame)) s.slabs run.frame frame (Some (slab_of_run cache run)) None
              (λ e. comes other (slab_of_run cache run) (shape_at its frame) ne (subst (λ x. Agrees other x (shape_at its frame)) (ap (slab_of s) e ∙ unused) (is.agrees frame))) (is.agrees frame);
          unlisted = is.unlisted;
          off_node = is.off_node;
          unfree = λ frame. at_written (λ x. MatchOption x ⊤ (λ slab. slab.cache ≡ other → own_free s frame ≡ [])) s.slabs run.frame frame (Some (slab_of_run cache run)) None
              (λ e. λ own. absurd (ne (sym own))) (is.unfree frame);
        }) consistent.shaped.checked

    fits : MatchOption (cache_of s cache) ⊥ (λ live. IsSlabOf live.layout (slab_of_run cache run))
    fits = match_weaker (cache_of s cache) (λ live. live.layout ≡ layout) (λ live. IsSlabOf live.layout (slab_of_run cache run)) (λ live e. subst (λ l. IsSlabOf l (slab_of_run cache run)) (sym e) is_run.fits) has

    -- whether it is frozen says nothing of its frames
    coming-framed : IsFramed (coming s cache pool run new)
    coming-framed f =
        let frozen : Slab = record { cache = cache; order = run.order; objects = run.objects; frozen = true } in
        let whole_frame = framed-with_new_slab s cache 0 pool run is_run.all_free slot is_run.less consistent.framed f in
        let one = covered-set f 0 s.slabs run.frame (Some frozen) slot in
        let other = covered-set f 0 s.slabs run.frame (Some (slab_of_run cache run)) slot in
        let same : covers f (0 + run.frame) (Some frozen) ≡ covers f (0 + run.frame) (Some (slab_of_run cache run)) = refl in
        omega (arith, whole_frame, one, other, same)

    coming-listed : IsListed (coming s cache pool run new)
    coming-listed =
        let listed = consistent.listed in
        let nowhere = unlisted-unused s run.frame unused listed in
        record {
          once = listed.once;
          live = λ f some. at_written IsSome s.slabs run.frame f (Some (slab_of_run cache run)) None (λ e. refl) (listed.live f some);
          stocked = listed.stocked;
          of_current = λ c cpu f within current. at_written (IsOf c) s.slabs run.frame f (Some (slab_of_run cache run)) None
              (λ e. absurd (omega (arith, nowhere, current-counted-at s f (cpu_place s c cpu) current, ap (times_current s) e))) (listed.of_current c cpu f within current);
          of_partial = λ c cpu f within some. at_written (IsOf c) s.slabs run.frame f (Some (slab_of_run cache run)) None
              (λ e. absurd (omega (arith, nowhere, some, partial-counted-at s f (cpu_place s c cpu), ap (times_partial s) e))) (listed.of_partial c cpu f within some);
          of_node = λ c f some. at_written (IsOf c) s.slabs run.frame f (Some (slab_of_run cache run)) None
              (λ e. absurd (omega (arith, nowhere, some, node-counted s f c, ap (times_partial s) e))) (listed.of_node c f some);
          frozen = λ f. at_written (IsFrozenBy (times_current s f)) s.slabs run.frame f (Some (slab_of_run cache run)) None
              (λ e. (λ h. cc, λ h. absurd (omega (arith, nowhere, h, ap (times_current s) e)))) (listed.frozen f);
        }

    coming-standing : IsStanding (coming s cache pool run new)
    coming-standing =
        let shaped = consistent.shaped in
        record {
          shaped = shaped-with_slabs s pool (set s.slabs run.frame (Some (slab_of_run cache run))) s.frees (set s.checked cache (Some new)) s.memory s.board s.live good is_run.frames (length-set s.slabs run.frame (Some (slab_of_run cache run))) refl refl refl refl
              coming-checked
              (λ f. at_written (λ x. IfSome x (λ slab. MatchOption (cache_of s slab.cache) ⊥ (λ live. IsSlabOf live.layout slab))) s.slabs run.frame f (Some (slab_of_run cache run)) None (λ e. fits) (shaped.slab f))
              (λ f. at_written (λ x. IfSome x (λ slab. f % 2 ^ slab.order ≡ 0)) s.slabs run.frame f (Some (slab_of_run cache run)) None (λ e. ap (λ n. n % 2 ^ run.order) e ∙ is_run.aligned) (shaped.aligned f))
              (λ object. some_weaker (get_or s.board object None) (IsLiveOf s) (λ held. MatchOption (get_or (set s.slabs run.frame (Some (slab_of_run cache run))) held.frame None) ⊥ (λ slab. slab.cache ≡ held.cache))
              (λ held live. at_written (λ x. MatchOption x ⊥ (λ slab. slab.cache ≡ held.cache)) s.slabs run.frame held.frame (Some (slab_of_run cache run)) None
              (λ e. absurd (subst (λ x. MatchOption x ⊥ (λ slab. slab.cache ≡ held.cache)) (ap (slab_of s) e ∙ unused) live)) live) (shaped.held object)) shaped.no_zero shaped;
          framed = coming-framed;
          listed = coming-listed;
          accounted = consistent.accounted;
        }

    -- its first object is the worker's, and the others are idle
    pub coming-consistent : (object worker : ℕ) → (1 ≤ object) × (object < length s.board) → get_or s.board object None ≡ None → cache < length s.live
        → IsConsistent (with_held (coming s cache pool run new) object (record { frame = run.frame; index = 0; cache = cache; worker = Some worker }))
    coming-consistent object worker inside free within =
        let held : Held = record { frame = run.frame; index = 0; cache = cache; worker = Some worker } in
        let t : State = coming s cache pool run new in
        let at : slab_of t run.frame ≡ Some (slab_of_run cache run) = get_or-set_same s.slabs run.frame (Some (slab_of_run cache run)) None slot in
        whole (with_held t object held)
        (held-standing t object held inside free within (live-of (slab_of t run.frame) (slab_of_run cache run) cache at refl) coming-standing)
        (λ f i.
        let board = sum_by-set (held_here f i) s.board object (Some held) None inside.1 in
        let nobody = ap (held_here f i) free in
        let sums = idle-with s cache old new was f i in
        let same : held_here f i (Some held) ≡ here (first_slot run) f i = refl in
        at_written_else (λ x. places (with_held t object held) f i ≡ has_object i x) s.slabs run.frame f (Some (slab_of_run cache run)) None slot
        (λ e.
        let was_none : has_object i (slab_of s f) ≡ 0 = ap (has_object i) (ap (slab_of s) e ∙ unused) in
        let all : idle new f i + here (first_slot run) f i ≡ has_object i (Some (slab_of_run cache run)) = subst (λ n. idle new n i + here (first_slot run) n i ≡ one_of run.objects i) (sym e) (adds.objects i) in
        let before = element-counted (idle_in f i) s.checked cache None refl in
        omega (arith, consistent.placed f i, was_none, all, board, nobody, sums, same, before, ap (idle_in f i) was))
        (λ ne.
        let none : here (first_slot run) f i ≡ 0 = grind (arith, nat_tests, ne) in
        omega (arith, consistent.placed f i, board, nobody, sums, same, none, adds.others.objects f i ne)))
