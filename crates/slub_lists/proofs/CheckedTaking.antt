-- An object that a checked cache takes back, and a slab of it that goes.
use Rattle.std.proofs.Common.{◌≡◌, ◌≢◌, ℕ, ◌+◌, ◌-◌, ◌/◌, ◌%◌, ◌^◌, ◌<◌, ◌≤◌, ◌⊎◌, suc, if◌then◌else◌, List, [], ◌∷◌, length, get_or, get_or-set_other, get_or-set_same, set, sum_by, Option, Some, None, IsSome, IfSome, MatchOption, Ok, option_map, inl, inr, refl, ap, sym, ◌∙◌, subst, arith, length-set, pow_pos, zero-add}
use Rattle.std.specs.Prelude.{⊤, unwrap_or}
use Rattle.std.specs.Option.{option_map_or}
use Rattle.std.proofs.lemmas.Bool.{cases_eq, cases_lt}
use Rattle.std.proofs.lemmas.Bool.Decides.{nat_tests}
use Rattle.std.proofs.Math.Nat.{mod-lt}
use Rattle.std.proofs.lemmas.List.{set-get_or}
use Rattle.std.proofs.lemmas.Option.{slice_get-get_or}
use Rattle.std.proofs.lemmas.List.Sums.{sum_by-cons, sum_by-set}
use Rattle.slub_page_pool.specs.Block.{CanPut, with_run}
use Rattle.slub_page_pool.specs.FreeFrames.{IsPool}
use Rattle.slub_common.specs.Times.{times}
use Rattle.slub_object_layout.specs.declared.layout.Layout.{Layout}
use Rattle.slub_cache_create.specs.declared.caches.Cache.{Cache}
use Rattle.slub_red_zone.specs.declared.slab.ObjectState.{ObjectState}
use Rattle.slub_red_zone.specs.declared.slab.ObjectState.TheVariants.{Free, Used, Aside}
use Rattle.slub_red_zone.specs.Objects.{TakesObject, TakesSlab, here, idle, is_idle, one_of, shape_at, shape_of}
use Rattle.slub_red_zone.specs.Sound.{IsSound}
use Rattle.slub_red_zone.specs.State.{CheckedState, Has, IsUsed, SlabState, no_slab, objects_in, state_of, slab_of as checked_slab}
use Rattle.slub_lists.specs.declared.lists.Slab.{Slab}
use Rattle.slub_lists.specs.declared.lists.CpuLists.{CpuLists}
use Rattle.slub_lists.specs.declared.lists.Held.{Held}
use Rattle.slub_lists.specs.State.{State}
use Rattle.slub_lists.specs.Alloc.{cache_of, checked_of, cpu_place, held_here, lists_of, no_lists, node_of, own_free, slab_of, HasLayout}
use Rattle.slub_lists.specs.Checked.{slot_of_held, with_checked}
use Rattle.slub_lists.specs.Coherent.{Agrees, AreChecked, IsCacheOf, IsCheckedOf, IsConsistent, IsFramed, IsListed, IsPlaced, IsSetFrom, IsSlabOf, covered_from, covers, has_object, held_under, idle_in, if_current, on_cpu, places, times_current, times_partial}
use Rattle.slub_lists.specs.Free.{discarded, order_of, with_taken}
use Rattle.slub_common.proofs.Writes.{at_written, at_written_else, inside-of}
use Rattle.slub_lists.proofs.Times.{current-other}
use Rattle.slub_common.proofs.Sums.{element-counted}
use Rattle.slub_lists.proofs.Framed.{covered-set, framed-most}
use Rattle.slub_common.proofs.Times.{times-contained}
use Rattle.slub_lists.proofs.Listed.{IsFrozenBy, IsOf}
use Rattle.slub_lists.proofs.CheckedSlabs.{IsLiveOf, are-checked-with, at_some, held-live, held-once, idle-with, keeps-standing, match_weaker, of-same, on-board, shaped-with_slabs, standing, taken-standing, was-checked, whole}
use Rattle.slub_lists.proofs.CheckedGiving.{layout-live, one-object, slab-objects, slab-sized, the-value}
use Rattle.slub_lists.proofs.CheckedComing.{times-with_run}

-- no term of a sum is more than nothing
sum_by-none : {X : Type 0} (g : X → ℕ) (xs : List X) (d : X) → ((i : ℕ) → i < length xs → g (get_or xs i d) ≡ 0) → sum_by g xs ≡ 0
sum_by-none g [] d none = refl
sum_by-none g (x ∷ xs) d none = omega (arith, sum_by-cons g x xs, none 0 (omega arith), sum_by-none g xs d (λ i inside. none (suc i) (omega arith)))

-- ---- the slab of a checked cache at a frame

agreed-here : (cache : ℕ) (slab : Slab) (x : Option SlabState) → slab.cache ≡ cache → Agrees cache (Some slab) (option_map shape_of x) → IsSome x × (slab.order ≡ (unwrap_or x no_slab).order) × (slab.objects ≡ objects_in (unwrap_or x no_slab))
agreed-here cache slab None own h = absurd (h own)
agreed-here cache slab (Some y) own h = (refl, h.1, h.2)

agreed-there : (cache : ℕ) (x : Option Slab) (y : Option SlabState) → IsSome y → Agrees cache x (option_map shape_of y) → MatchOption x ⊥ (λ slab. (slab.cache ≡ cache) × (slab.order ≡ (unwrap_or y no_slab).order) × (slab.objects ≡ objects_in (unwrap_or y no_slab)))
agreed-there cache x None there h = cc
agreed-there cache None (Some y) there h = h
agreed-there cache (Some slab) (Some y) there h = h

not-idle : (x : Option ObjectState) (y : ObjectState) → x ≡ Some y → ◌≡◌ {A = ℕ} (if is_idle x then 1 else 0) 0 → x ≡ Some Used
not-idle None y e none = cc
not-idle (Some Free) y e none = absurd (omega arith)
not-idle (Some Used) y e none = refl
not-idle (Some Aside) y e none = absurd (omega arith)

some-object : (i : ℕ) (x : Option Slab) → 0 < has_object i x → MatchOption x ⊥ (λ slab. i < slab.objects)
some-object i None some = absurd (omega arith)
some-object i (Some slab) some = grind (arith, nat_tests, some)

both : {X : Type 0} (x : Option X) (P Q : X → Type 0) → MatchOption x ⊥ P → MatchOption x ⊥ Q → MatchOption x ⊥ (λ y. P y × Q y)
both None P Q p q = p
both (Some y) P Q p q = (p, q)

-- the layout of its cache is its own, but for what was set since
pub checked-layout : (s : State) (cache : ℕ) (slabs : CheckedState) → IsCheckedOf s cache slabs → (layout : Layout) × HasLayout s cache layout × IsSetFrom slabs.layout layout
checked-layout s cache slabs is =
    let live = the-value (cache_of s cache) (λ c. IsCacheOf slabs c.layout c.flags) is.live in
    (live.0.layout, subst (λ (x : Option Cache). MatchOption x ⊥ (λ c. c.layout ≡ live.0.layout)) (sym live.1) refl, live.2.0)

pub same-layout : (s : State) (cache : ℕ) (one other : Layout) → HasLayout s cache one → HasLayout s cache other → one ≡ other
same-layout s cache one other has also =
    let live = the-value (cache_of s cache) (λ c. (c.layout ≡ one) × (c.layout ≡ other)) (both (cache_of s cache) (λ c. c.layout ≡ one) (λ c. c.layout ≡ other) has also) in
    sym live.2.0 ∙ live.2.1

pub checked-set : (s : State) (cache : ℕ) (layout : Layout) (slabs : CheckedState) → HasLayout s cache layout → IsCheckedOf s cache slabs → IsSetFrom slabs.layout layout
checked-set s cache layout slabs has is =
    let own = checked-layout s cache slabs is in
    subst (IsSetFrom slabs.layout) (same-layout s cache own.0 layout own.1 has) own.2

-- other slabs that are the same
pub with-checked-same : (s : State) (cache : ℕ) (slabs : CheckedState) → checked_of s cache ≡ Some slabs → with_checked s cache slabs ≡ s
with-checked-same s cache slabs was =
    ap (λ (l : List (Option CheckedState)). record s { checked = l }) (ap (set s.checked cache) (sym was) ∙ set-get_or s.checked cache None)

-- ---- an object that a worker holds

module _ (s : State) (object : ℕ) (held : Held) (here_held : held_under s object ≡ Some held) (consistent : IsConsistent s) where
  -- it is one of a live slab of its cache
  pub held-slab : (slab : Slab) × (slab_of s held.frame ≡ Some slab) × (slab.cache ≡ held.cache) × (held.index < slab.objects)
  held-slab =
      let some : 0 < has_object held.index (slab_of s held.frame) = omega (arith, consistent.placed held.frame held.index, held-once s object held here_held) in
      let slab = the-value (slab_of s held.frame) (λ slab. (slab.cache ≡ held.cache) × (held.index < slab.objects)) (both (slab_of s held.frame) (λ slab. slab.cache ≡ held.cache) (λ slab. held.index < slab.objects) (held-live s object held here_held consistent.shaped) (some-object held.index (slab_of s held.frame) some)) in
      (slab.0, slab.1, slab.2.0, slab.2.1)

  pub held-frame : held.frame < 4096
  held-frame = omega (arith, inside-of s.slabs held.frame held-slab.0 held-slab.1, consistent.shaped.slabs, consistent.shaped.frames.1)

  pub held-objects : (layout : Layout) → HasLayout s held.cache layout → held.index < layout.objects
  held-objects layout has =
      let slab = held-slab in
      omega (arith, slab.3, slab-objects layout slab.0 (layout-live s held.cache layout has consistent.shaped) (slab-sized s held.cache held.frame layout slab.0 has slab.1 slab.2 consistent.shaped))

-- and of a checked cache

module _ (s : State) (object : ℕ) (held : Held) (slabs : CheckedState) (here_held : held_under s object ≡ Some held) (was : checked_of s held.cache ≡ Some slabs) (consistent : IsConsistent s) where
  of-held : IsCheckedOf s held.cache slabs
  of-held = was-checked s held.cache slabs slabs was consistent.shaped.checked

  its-slab : (slab : Slab) × (slab_of s held.frame ≡ Some slab) × (slab.cache ≡ held.cache) × (held.index < slab.objects)
  its-slab = held-slab s object held here_held consistent

  held-there : IsSome (get_or slabs.slabs held.frame None) × (its-slab.0.order ≡ (checked_slab slabs held.frame).order) × (its-slab.0.objects ≡ objects_in (checked_slab slabs held.frame))
  held-there = agreed-here held.cache its-slab.0 (get_or slabs.slabs held.frame None) its-slab.2 (subst (λ x. Agrees held.cache x (shape_at slabs held.frame)) its-slab.1 (of-held.agrees held.frame))

  pub held-has : Has slabs held.frame
  held-has = held-there.0

  pub held-index : held.index < objects_in (checked_slab slabs held.frame)
  held-index = omega (arith, its-slab.3, held-there.2)

  -- it is used there, since it is nowhere else
  pub held-used : IsUsed slabs (slot_of_held held)
  held-used =
      let none : idle slabs held.frame held.index ≡ 0 =
      omega (arith, consistent.placed held.frame held.index, held-once s object held here_held, one-object held.index (slab_of s held.frame), element-counted (idle_in held.frame held.index) s.checked held.cache None refl, ap (idle_in held.frame held.index) was) in
      not-idle (state_of slabs (slot_of_held held)) (get_or (checked_slab slabs held.frame).states held.index Free) (slice_get-get_or (checked_slab slabs held.frame).states held.index Free held-index) none

  -- it goes back to its slab
  pub back-consistent : (new : CheckedState) → TakesObject slabs (slot_of_held held) (Ok tt) new → IsSound new → IsConsistent (with_taken (with_checked s held.cache new) object held.cache)
  back-consistent new takes sound =
      let t : State = with_checked s held.cache new in
      whole (with_taken t object held.cache)
      (taken-standing t object held here_held (keeps-standing s held.cache slabs new was takes.slabs sound (standing s consistent)))
      (λ f i.
      let nothing : held_here f i None ≡ 0 = refl in
      let same : held_here f i (Some held) ≡ here (slot_of_held held) f i = refl in
      omega (arith, consistent.placed f i, idle-with s held.cache slabs new was f i, takes.objects f i, sum_by-set (held_here f i) s.board object None None (on-board s object held here_held), ap (held_here f i) here_held, nothing, same))

-- ---- a slab that goes

module _ (s : State) (cache frame : ℕ) (old : CheckedState) (was : checked_of s cache ≡ Some old) (there : Has old frame) (consistent : IsConsistent s) where
  of-cache : IsCheckedOf s cache old
  of-cache = was-checked s cache old old was consistent.shaped.checked

  pub going-slab : (slab : Slab) × (slab_of s frame ≡ Some slab) × ((slab.cache ≡ cache) × (slab.order ≡ (checked_slab old frame).order) × (slab.objects ≡ objects_in (checked_slab old frame)))
  going-slab = the-value (slab_of s frame) (λ slab. (slab.cache ≡ cache) × (slab.order ≡ (checked_slab old frame).order) × (slab.objects ≡ objects_in (checked_slab old frame))) (agreed-there cache (slab_of s frame) (get_or old.slabs frame None) there (of-cache.agrees frame))

  pub going-slot : frame < length s.slabs
  going-slot = inside-of s.slabs frame going-slab.0 going-slab.1

  own-slot : frame < length s.frees
  own-slot = omega (arith, going-slot, consistent.shaped.slabs, consistent.shaped.frees)

  -- it stands on no list
  other-current : (c cpu : ℕ) → cpu < s.cpus → if_current frame 1 (lists_of s c cpu).current ≡ 0
  other-current c cpu within = by-current (lists_of s c cpu).current refl
    where
      by-current : (x : Option ℕ) → (lists_of s c cpu).current ≡ x → if_current frame 1 x ≡ 0
      by-current None e = refl
      by-current (Some current) e =
          elim (cases_eq frame current) [
            | inl same ↦
                let here_current = consistent.listed.of_current c cpu frame within (e ∙ ap Some (sym same)) in
                let its = at_some (slab_of s frame) going-slab.0 (λ slab. slab.cache ≡ c) going-slab.1 here_current in
                let none = of-cache.unlisted cpu within in
                let bare = ap (λ (l : CpuLists). l.current) none in
                let at = ap (λ n. (lists_of s n cpu).current) (sym its ∙ going-slab.2.0) in
                absurd (impossible (sym e ∙ at ∙ bare))
            | inr other ↦ current-other frame current 1 other
          ]
        where
          impossible : {current : ℕ} → Some current ≡ None → ⊥
          impossible e = cc

  other-partial : (c cpu : ℕ) → cpu < s.cpus → times frame (lists_of s c cpu).partial ≡ 0
  other-partial c cpu within =
      elim (cases_eq (times frame (lists_of s c cpu).partial) 0) [
        | inl none ↦ none
        | inr some ↦
            let its = at_some (slab_of s frame) going-slab.0 (λ slab. slab.cache ≡ c) going-slab.1 (consistent.listed.of_partial c cpu frame within (omega arith)) in
            ap (λ n. times frame (lists_of s n cpu).partial) (sym its ∙ going-slab.2.0) ∙ ap (λ (l : CpuLists). times frame l.partial) (of-cache.unlisted cpu within)
      ]

  other-node : (c : ℕ) → times frame (node_of s c) ≡ 0
  other-node c =
      elim (cases_eq (times frame (node_of s c)) 0) [
        | inl none ↦ none
        | inr some ↦
            let its = at_some (slab_of s frame) going-slab.0 (λ slab. slab.cache ≡ c) going-slab.1 (consistent.listed.of_node c frame (omega arith)) in
            ap (λ n. times frame (node_of s n)) (sym its ∙ going-slab.2.0) ∙ ap (times frame) of-cache.off_node
      ]

  -- each place of the CPUs' lists is of one cache and CPU
  at-place : (place : ℕ) → cpu_place s (place / s.cpus) (place % s.cpus) ≡ place
  at-place place = let some : 0 < s.cpus = omega (arith, consistent.shaped.cpus.0) in omega arith

  within-cpus : (place : ℕ) → place % s.cpus < s.cpus
  within-cpus place = mod-lt place (omega (arith, consistent.shaped.cpus.0))

  pub going-unlisted : times_current s frame + times_partial s frame ≡ 0
  going-unlisted =
      let current : times_current s frame ≡ 0 = sum_by-none (λ lists. if_current frame 1 lists.current) s.cpu_lists no_lists
      (λ place inside. subst (λ n. if_current frame 1 (get_or s.cpu_lists n no_lists).current ≡ 0) (at-place place) (other-current (place / s.cpus) (place % s.cpus) (within-cpus place))) in
      let partial : sum_by (λ lists. times frame lists.partial) s.cpu_lists ≡ 0 = sum_by-none (λ lists. times frame lists.partial) s.cpu_lists no_lists
      (λ place inside. subst (λ n. times frame (get_or s.cpu_lists n no_lists).partial ≡ 0) (at-place place) (other-partial (place / s.cpus) (place % s.cpus) (within-cpus place))) in
      let node : sum_by (times frame) s.nodes ≡ 0 = sum_by-none (times frame) s.nodes [] (λ c inside. other-node c) in
      omega (arith, current, partial, node)

  -- its run's frames are covered, and no frame before or after them
  covers-run : (g order : ℕ) → (slab : Slab) → slab.order ≡ order → frame ≤ g → g < frame + 2 ^ order → covers g (0 + frame) (Some slab) ≡ 1
  covers-run g order slab same low high = grind (arith, nat_tests, low, high, zero-add frame, same)

  covers-outside : (g order : ℕ) → (slab : Slab) → slab.order ≡ order → (g < frame) ⊎ (frame + 2 ^ order ≤ g) → covers g (0 + frame) (Some slab) ≡ 0
  covers-outside g order slab same outside =
      elim outside [
        | inl before ↦ grind (arith, nat_tests, before, zero-add frame)
        | inr after ↦ grind (arith, nat_tests, after, zero-add frame, same)
      ]

  -- they lie in the machine, behind frame 0, and none is free
  run-frames : (g : ℕ) → frame ≤ g → g < frame + 2 ^ (going-slab.0.order) → (0 < g) × (g < s.frames) × (times g s.pool.free ≡ 0)
  run-frames g low high =
      let nothing : covers g (0 + frame) None ≡ 0 = refl in
      let some : 0 < covered_from g 0 s.slabs = omega (arith, covered-set g 0 s.slabs frame None going-slot, nothing, ap (covers g (0 + frame)) going-slab.1, covers-run g going-slab.0.order going-slab.0 refl low high) in
      let e = consistent.framed g in
      (grind (arith, nat_tests, e, some), grind (arith, nat_tests, e, some), omega (arith, framed-most s g consistent.framed, some))

  -- the run can come back to the pool
  pub going-can-put : CanPut s.pool frame (checked_slab old frame).order
  going-can-put =
      let order = going-slab.2.1 in
      let layout = checked-layout s cache old of-cache in
      let live = layout-live s cache layout.0 layout.1 consistent.shaped in
      let sized = slab-sized s cache frame layout.0 going-slab.0 layout.1 going-slab.1 going-slab.2.0 consistent.shaped in
      let last = run-frames (frame + 2 ^ (going-slab.0.order) - 1) (omega (arith, pow_pos going-slab.0.order)) (omega (arith, pow_pos going-slab.0.order)) in
      let first = run-frames frame (omega arith) (omega (arith, pow_pos going-slab.0.order)) in
      let put : CanPut s.pool frame going-slab.0.order = record {
        small = elim sized [
          | inl wide ↦ omega (arith, wide.0, live.1.made.order)
          | inr least ↦ omega (arith, least.0, live.1.made.min_order, live.1.made.order)
        ];
        aligned = at_some (slab_of s frame) going-slab.0 (λ slab. frame % 2 ^ slab.order ≡ 0) going-slab.1 (consistent.shaped.aligned frame);
        positive = omega (arith, first.0);
        inside = omega (arith, last.1, pow_pos going-slab.0.order, consistent.shaped.pool_frames);
        none_free = λ g low high found. omega (arith, (run-frames g low high).2, times-contained g s.pool.free found);
      } in
      subst (CanPut s.pool frame) order put

  -- the order of the run that is put back is the slab's
  pub going-order : order_of s frame ≡ (checked_slab old frame).order
  going-order = ap (λ (x : Option Slab). option_map_or (λ (slab : Slab). slab.order) x 0) going-slab.1 ∙ going-slab.2.1

  -- nothing stands on its own freelist
  pub going-own : own_free s frame ≡ []
  going-own = subst (λ x. MatchOption x ⊤ (λ slab. slab.cache ≡ cache → own_free s frame ≡ [])) going-slab.1 (of-cache.unfree frame) going-slab.2.0

  module _ (new : CheckedState) (sound : IsSound new) (takes : TakesSlab old frame new) (good : IsPool (record s.pool { free = with_run s.pool.free frame (order_of s frame) })) where
    -- the machine without it
    abbrev gone : State
    gone = discarded (with_checked s cache new) frame

    gone-checked : AreChecked gone
    gone-checked =
        are-checked-with s cache old new was gone.pool (set s.slabs frame None) (set s.frees frame []) s.memory s.board s.live
        (record {
          sound = sound;
          number = takes.others.cache ∙ of-cache.number;
          live = match_weaker (cache_of s cache) (λ c. IsCacheOf old c.layout c.flags) (λ c. IsCacheOf new c.layout c.flags) (λ c h. of-same old new c.layout c.flags takes.others.layout takes.others.flags h) of-cache.live;
          agrees = λ f. at_written_else (λ x. Agrees cache x (shape_at new f)) s.slabs frame f None None going-slot
              (λ e. subst (Agrees cache None) (sym (ap (shape_at new) e ∙ takes.shape)) tt)
              (λ ne. subst (Agrees cache (slab_of s f)) (sym (takes.others.shape f ne)) (of-cache.agrees f));
          unlisted = of-cache.unlisted;
          off_node = of-cache.off_node;
          unfree = λ f. still-unfree cache f (of-cache.unfree f);
        })
        (λ other its ne is. record {
          sound = is.sound;
          number = is.number;
          live = is.live;
          agrees = λ f. at_written (λ x. Agrees other x (shape_at its f)) s.slabs frame f None None
              (λ e. goes other (shape_at its f) ne (subst (λ n. Agrees other (slab_of s n) (shape_at its f)) e (is.agrees f))) (is.agrees f);
          unlisted = is.unlisted;
          off_node = is.off_node;
          unfree = λ f. still-unfree other f (is.unfree f);
        }) consistent.shaped.checked
      where
        still-unfree : (c f : ℕ) → MatchOption (slab_of s f) ⊤ (λ slab. slab.cache ≡ c → own_free s f ≡ []) → MatchOption (get_or (set s.slabs frame None) f None) ⊤ (λ slab. slab.cache ≡ c → get_or (set s.frees frame []) f [] ≡ [])
        still-unfree c f was_unfree =
            at_written (λ x. MatchOption x ⊤ (λ slab. slab.cache ≡ c → get_or (set s.frees frame []) f [] ≡ [])) s.slabs frame f None None (λ e. tt)
            (at_written (λ (l : List ℕ). MatchOption (slab_of s f) ⊤ (λ slab. slab.cache ≡ c → l ≡ [])) s.frees frame f [] [] (λ e. emptied (slab_of s f)) was_unfree)
          where
            emptied : (x : Option Slab) → MatchOption x ⊤ (λ slab. slab.cache ≡ c → ◌≡◌ {A = List ℕ} [] [])
            emptied None = tt
            emptied (Some slab) = λ own. refl

        goes : (other : ℕ) (shape : Option (ℕ × ℕ)) → other ≢ cache → Agrees other (slab_of s frame) shape → Agrees other None shape
        goes other None ne h = tt
        goes other (Some shape) ne h =
            let at : Agrees other (Some going-slab.0) (Some shape) = subst (λ x. Agrees other x (Some shape)) going-slab.1 h in
            absurd (ne (sym at.0 ∙ going-slab.2.0))

    -- its frames are free
    gone-framed : IsFramed gone
    gone-framed f =
        let order : order_of s frame ≡ going-slab.0.order = ap (λ (x : Option Slab). option_map_or (λ (slab : Slab). slab.order) x 0) going-slab.1 in
        let back = times-with_run f s.pool.free frame going-slab.0.order (λ g low high. (run-frames g low high).2) in
        let free = ap (λ n. times f (with_run s.pool.free frame n)) order in
        let nothing : covers f (0 + frame) None ≡ 0 = refl in
        let without = covered-set f 0 s.slabs frame None going-slot in
        let it = ap (covers f (0 + frame)) going-slab.1 in
        elim (cases_lt f frame) [
          | inl before ↦ omega (arith, consistent.framed f, free, back.1 (inl before), nothing, without, it, covers-outside f going-slab.0.order going-slab.0 refl (inl before))
          | inr from ↦ elim (cases_lt f (frame + 2 ^ (going-slab.0.order))) [
            | inl within ↦ omega (arith, consistent.framed f, free, back.0 (from, within), (run-frames f from within).2, nothing, without, it, covers-run f going-slab.0.order going-slab.0 refl from within)
            | inr past ↦ omega (arith, consistent.framed f, free, back.1 (inr past), nothing, without, it, covers-outside f going-slab.0.order going-slab.0 refl (inr past))
          ]
        ]

    gone-listed : IsListed gone
    gone-listed =
        let listed = consistent.listed in
        let nowhere = going-unlisted in
        record {
          once = listed.once;
          live = λ f some. at_written_else IsSome s.slabs frame f None None going-slot (λ e. absurd (omega (arith, some, ap (λ n. times_current s n + times_partial s n) e, nowhere))) (λ ne. listed.live f some);
          stocked = λ f some. at_written_else (λ (xs : List ℕ). 0 < length xs) s.frees frame f [] [] own-slot (λ e. absurd (omega (arith, some, ap (times_partial s) e, nowhere))) (λ ne. listed.stocked f some);
          of_current = λ c cpu f within e. at_written (IsOf c) s.slabs frame f None None (λ e. tt) (listed.of_current c cpu f within e);
          of_partial = λ c cpu f within some. at_written (IsOf c) s.slabs frame f None None (λ e. tt) (listed.of_partial c cpu f within some);
          of_node = λ c f some. at_written (IsOf c) s.slabs frame f None None (λ e. tt) (listed.of_node c f some);
          frozen = λ f. at_written (IsFrozenBy (times_current s f)) s.slabs frame f None None (λ e. tt) (listed.frozen f);
        }

    -- all of its objects were idle, so nobody has one
    elsewhere : (i : ℕ) → sum_by (held_here frame i) s.board + sum_by (on_cpu frame i) s.cpu_lists + times i (own_free s frame) + sum_by (idle_in frame i) (set s.checked cache (Some new)) ≡ 0
    elsewhere i =
        let objects : has_object i (slab_of s frame) ≡ has_object i (Some going-slab.0) = ap (has_object i) going-slab.1 in
        let all : has_object i (Some going-slab.0) ≡ one_of (objects_in (checked_slab old frame)) i = ap (λ n. one_of n i) going-slab.2.2 in
        omega (arith, consistent.placed frame i, objects, all, takes.before i, takes.objects i, idle-with s cache old new was frame i)

    gone-placed : IsPlaced gone
    gone-placed f i =
        elim (cases_eq f frame) [
          | inl e ↦
              let own : ◌≡◌ {A = ℕ} (times i (own_free gone frame)) 0 = at_written (λ (l : List ℕ). times i l ≡ 0) s.frees frame frame [] [] (λ e. refl) (ap (times i) going-own) in
              let none : ◌≡◌ {A = ℕ} (has_object i (slab_of gone frame)) 0 = ap (has_object i) (get_or-set_same s.slabs frame None None going-slot) in
              let at : places gone frame i ≡ has_object i (slab_of gone frame) = omega (arith, own, none, elsewhere i) in
              subst (λ n. places gone n i ≡ has_object i (slab_of gone n)) (sym e) at
          | inr ne ↦
              let own : ◌≡◌ {A = ℕ} (times i (get_or (set s.frees frame []) f [])) (times i (own_free s f)) = ap (times i) (get_or-set_other s.frees frame f [] [] ne) in
              let same : ◌≡◌ {A = ℕ} (has_object i (get_or (set s.slabs frame None) f None)) (has_object i (slab_of s f)) = ap (has_object i) (get_or-set_other s.slabs frame f None None ne) in
              omega (arith, own, same, consistent.placed f i, idle-with s cache old new was f i, takes.others.objects f i ne)
        ]

    -- an object that is held is one of another slab
    held-elsewhere : (object : ℕ) (x : Option Held) → held_under s object ≡ x → IfSome x (IsLiveOf s) → IfSome x (λ held. MatchOption (get_or (set s.slabs frame None) held.frame None) ⊥ (λ slab. slab.cache ≡ held.cache))
    held-elsewhere object None is live = tt
    held-elsewhere object (Some held) is live =
        at_written_else (λ x. MatchOption x ⊥ (λ slab. slab.cache ≡ held.cache)) s.slabs frame held.frame None None going-slot
        (λ e. absurd (omega (arith, elsewhere held.index, held-once s object held is, ap (λ n. sum_by (held_here n held.index) s.board) e)))
        (λ ne. live)

    pub going-consistent : IsConsistent gone
    going-consistent =
        let shaped = consistent.shaped in
        record {
          shaped = shaped-with_slabs s gone.pool (set s.slabs frame None) (set s.frees frame []) (set s.checked cache (Some new)) s.memory s.board s.live good refl (length-set s.slabs frame None) (length-set s.frees frame []) refl refl refl
              gone-checked
              (λ f. at_written (λ x. IfSome x (λ slab. MatchOption (cache_of s slab.cache) ⊥ (λ live. IsSlabOf live.layout slab))) s.slabs frame f None None (λ e. tt) (shaped.slab f))
              (λ f. at_written (λ x. IfSome x (λ slab. f % 2 ^ slab.order ≡ 0)) s.slabs frame f None None (λ e. tt) (shaped.aligned f))
              (λ object. held-elsewhere object (held_under s object) refl (shaped.held object)) shaped.no_zero shaped;
          placed = gone-placed;
          framed = gone-framed;
          listed = gone-listed;
          accounted = consistent.accounted;
        }
