-- A slab that goes.
use Rattle.std.proofs.Common.{◌≡◌, ℕ, ◌+◌, ◌-◌, ◌^◌, ◌<◌, ◌≤◌, ◌++◌, List, [], length, get_or, set, sum_by, filter, Option, Some, None, is_some, IsSome, IfSome, MatchOption, inl, inr, refl, ap, sym, ◌∙◌, subst, arith, length-set, get_or-set_same, get_or-set_other, nat_lt, nat_le, pow_pos, zero-add}
use Rattle.std.specs.List.{range_with_len}
use Rattle.std.specs.Option.{option_map_or}
use Rattle.std.proofs.lemmas.Bool.{cases_eq, cases_lt}
use Rattle.std.proofs.lemmas.Bool.Decides.{nat_tests}
use Rattle.slub_page_pool.specs.FreeFrames.{IsPool}
use Rattle.slub_page_pool.specs.Block.{CanPut, with_run}
use Rattle.slub_common.specs.Times.{times}
use Rattle.slub_common.proofs.Times.{times-append, times-range, times-contained, times-filter_pass, times-filter_fail}
use Rattle.slub_lists.specs.declared.lists.Slab.{Slab}
use Rattle.slub_cache_create.specs.declared.caches.Cache.{Cache}
use Rattle.slub_lists.specs.declared.lists.Held.{Held}
use Rattle.slub_lists.specs.State.{State}
use Rattle.slub_lists.specs.Alloc.{cache_of, held_here, own_free, slab_of, IsLive}
use Rattle.slub_lists.specs.Coherent.{IsConsistent, IsFramed, IsListed, IsPlaced, IsShaped, IsSlabOf, covers, covered_from, has_object, held_under, idle_in, on_cpu, places, times_current, times_partial}
use Rattle.slub_lists.specs.Free.{discarded, inuse_of, order_of}
use Rattle.slub_common.proofs.Writes.{at_written, at_written_else}
use Rattle.slub_common.proofs.Sums.{element-counted}
use Rattle.slub_lists.proofs.Counting.{IsOnce, once-all}
use Rattle.slub_lists.proofs.Framed.{covered-set, framed-most}
use Rattle.slub_lists.proofs.Listed.{IsOf, IsFrozenBy}
use Rattle.slub_lists.proofs.Shaped.{IsAligned, IsLiveOf, IsOfItsCache, layouts-live}
use Rattle.slub_lists.proofs.Unchecked.{IsApart, IsUnfree, checked-discarded}
use Rattle.slub_lists.proofs.Coherence.{live-inside}
use Rattle.slub_lists.proofs.Kept.{emptied}

-- the slab that is there
pub the-slab : (x : Option Slab) → IsSome x → (slab : Slab) × (x ≡ Some slab)
the-slab None some = cc
the-slab (Some slab) some = (slab, refl)

-- a slab's order and number of objects are bounded by its cache's layout
by-layout : (x : Option Cache) (slab : Slab) → MatchOption x ⊥ (λ live. IsSlabOf live.layout slab) → IfSome x (λ live. IsLive live.layout) → (slab.order ≤ 3) × (slab.objects ≤ 512) × (1 ≤ slab.objects)
by-layout None slab fits tuned = absurd fits
by-layout (Some live) slab fits tuned =
    elim fits [
      | inl wide ↦ (omega (arith, wide.0, tuned.1.made.order), omega (arith, wide.1, tuned.1.made.objects.1), omega (arith, wide.1, tuned.1.made.objects.0))
      | inr least ↦ (omega (arith, least.0, tuned.1.made.min_order, tuned.1.made.order), omega (arith, least.1, tuned.1.made.min_objects_slab.1, tuned.1.made.objects.1), omega (arith, least.1, tuned.1.made.min_objects_slab.0))
    ]

-- and so by the bounds of every layout
pub slab-bounds : (s : State) (frame : ℕ) (slab : Slab) → IsShaped s → slab_of s frame ≡ Some slab → (slab.order ≤ 3) × (slab.objects ≤ 512) × (1 ≤ slab.objects)
slab-bounds s frame slab shaped is =
    by-layout (cache_of s slab.cache) slab (subst (λ (x : Option Slab). IfSome x (λ slab. MatchOption (cache_of s slab.cache) ⊥ (λ live. IsSlabOf live.layout slab))) is (shaped.slab frame)) (layouts-live s slab.cache shaped)

-- each object of a slab is on its own freelist once at most
pub own-once : (s : State) (frame : ℕ) (slab : Slab) → IsPlaced s → slab_of s frame ≡ Some slab → IsOnce slab.objects (own_free s frame)
own-once s frame slab placed is i =
    let object : has_object i (slab_of s frame) ≡ has_object i (Some slab) = ap (has_object i) is in
    omega (arith, placed frame i, object)

module _ (s : State) (frame : ℕ) (slab : Slab) (consistent : IsConsistent s) (is : slab_of s frame ≡ Some slab) where
  slot : frame < length s.slabs
  slot = live-inside s.slabs frame (ap is_some is)

  own-slot : frame < length s.frees
  own-slot = omega (arith, slot, consistent.shaped.slabs, consistent.shaped.frees)

  -- the run's frames are covered
  covers-run : (g : ℕ) → frame ≤ g → g < frame + 2 ^ slab.order → covers g (0 + frame) (Some slab) ≡ 1
  covers-run g low high = grind (arith, nat_tests, low, high, zero-add frame)

  -- a frame before the run isn't, nor is one after it
  covers-before : (g : ℕ) → g < frame → covers g (0 + frame) (Some slab) ≡ 0
  covers-before g before = grind (arith, nat_tests, before, zero-add frame)

  covers-after : (g : ℕ) → frame + 2 ^ slab.order ≤ g → covers g (0 + frame) (Some slab) ≡ 0
  covers-after g after = grind (arith, nat_tests, after, zero-add frame)

  -- the run is among what the live slabs cover
  run-covered : (g : ℕ) → frame ≤ g → g < frame + 2 ^ slab.order → 0 < covered_from g 0 s.slabs
  run-covered g low high =
      let nothing : covers g (0 + frame) None ≡ 0 = refl in
      omega (arith, covered-set g 0 s.slabs frame None slot, nothing, ap (covers g (0 + frame)) is, covers-run g low high)

  -- so they lie in the machine, behind frame 0, and none is free
  run-frames : (g : ℕ) → frame ≤ g → g < frame + 2 ^ slab.order → (0 < g) × (g < s.frames) × (times g s.pool.free ≡ 0)
  run-frames g low high =
      let e = consistent.framed g in
      let some = run-covered g low high in (
        grind (arith, nat_tests, e, some),
        grind (arith, nat_tests, e, some),
        omega (arith, framed-most s g consistent.framed, some),
      )

  -- the slab's number is that of such a frame
  pub first-frame : (0 < frame) × (frame < s.frames)
  first-frame =
      let first = run-frames frame (omega arith) (omega (arith, pow_pos slab.order)) in
      (first.0, first.1)

  -- the run can come back to the pool
  pub can-put : CanPut s.pool frame slab.order
  can-put =
      let last = run-frames (frame + 2 ^ slab.order - 1) (omega (arith, pow_pos slab.order)) (omega (arith, pow_pos slab.order)) in
      record {
        small = omega (arith, (slab-bounds s frame slab consistent.shaped is).0);
        aligned = subst (λ (x : Option Slab). IsAligned frame x) is (consistent.shaped.aligned frame);
        positive = omega (arith, first-frame.0);
        inside = omega (arith, last.1, pow_pos slab.order, consistent.shaped.pool_frames);
        none_free = λ g low high found. omega (arith, (run-frames g low high).2, times-contained g s.pool.free found);
      }

  module _ (unlisted : times_current s frame + times_partial s frame ≡ 0) (unused : inuse_of s frame ≡ 0) where
    -- all of its objects are on its own freelist
    all-own : (i : ℕ) → times i (own_free s frame) ≡ has_object i (Some slab)
    all-own i =
        let objects : inuse_of s frame ≡ slab.objects - length (own_free s frame) = ap (λ (x : Option Slab). option_map_or (λ (slab : Slab). slab.objects) x 0 - length (own_free s frame)) is in
        once-all slab.objects (own_free s frame) (own-once s frame slab consistent.placed is) (omega (arith, objects, unused)) i

    -- so nobody has one
    elsewhere : (i : ℕ) → sum_by (held_here frame i) s.board + sum_by (on_cpu frame i) s.cpu_lists + sum_by (idle_in frame i) s.checked ≡ 0
    elsewhere i =
        let object : has_object i (slab_of s frame) ≡ has_object i (Some slab) = ap (has_object i) is in
        omega (arith, consistent.placed frame i, object, all-own i)

    -- no object of the slab has a place any more, and all others keep theirs
    pub discarded-placed : IsPlaced (discarded s frame)
    discarded-placed f i =
        elim (cases_eq f frame) [
          | inl e ↦
              let after : State = discarded s frame in
              let own : ◌≡◌ {A = ℕ} (times i (own_free after frame)) 0 = ap (times i) (emptied s.frees frame) in
              let gone : ◌≡◌ {A = ℕ} (has_object i (slab_of after frame)) 0 = ap (has_object i) (get_or-set_same s.slabs frame None None slot) in
              let here : places after frame i ≡ has_object i (slab_of after frame) = omega (arith, own, gone, elsewhere i) in
              subst (λ n. places after n i ≡ has_object i (slab_of after n)) (sym e) here
          | inr ne ↦
              let own : ◌≡◌ {A = ℕ} (times i (get_or (set s.frees frame []) f [])) (times i (own_free s f)) = ap (times i) (get_or-set_other s.frees frame f [] [] ne) in
              let same : ◌≡◌ {A = ℕ} (has_object i (get_or (set s.slabs frame None) f None)) (has_object i (slab_of s f)) = ap (has_object i) (get_or-set_other s.slabs frame f None None ne) in
              omega (arith, own, same, consistent.placed f i)
        ]

    -- its frames are free
    back : (f : ℕ) → times f (with_run s.pool.free frame slab.order) ≡ times f s.pool.free + covers f (0 + frame) (Some slab)
    back f =
        let first = times-append f (filter (λ g. nat_lt g frame) s.pool.free) (range_with_len frame (2 ^ slab.order)) in
        let whole : times f (with_run s.pool.free frame slab.order) ≡ times f (filter (λ g. nat_lt g frame) s.pool.free ++ range_with_len frame (2 ^ slab.order)) + times f (filter (λ g. nat_le (frame + 2 ^ slab.order) g) s.pool.free) =
        times-append f (filter (λ g. nat_lt g frame) s.pool.free ++ range_with_len frame (2 ^ slab.order)) (filter (λ g. nat_le (frame + 2 ^ slab.order) g) s.pool.free) in
        let range = times-range f frame (2 ^ slab.order) in
        elim (cases_lt f frame) [
          | inl before ↦
              let stays = times-filter_pass f (λ g. nat_lt g frame) s.pool.free (grind (arith, nat_tests, before)) in
              let out = times-filter_fail f (λ g. nat_le (frame + 2 ^ slab.order) g) s.pool.free (grind (arith, nat_tests, before)) in
              let none : times f (range_with_len frame (2 ^ slab.order)) ≡ 0 = grind (arith, nat_tests, range, before) in
              omega (arith, whole, first, stays, out, none, covers-before f before)
          | inr from ↦
              let gone = times-filter_fail f (λ g. nat_lt g frame) s.pool.free (grind (arith, nat_tests, from)) in
              elim (cases_lt f (frame + 2 ^ slab.order)) [
                | inl within ↦
                    let out = times-filter_fail f (λ g. nat_le (frame + 2 ^ slab.order) g) s.pool.free (grind (arith, nat_tests, within)) in
                    let one : times f (range_with_len frame (2 ^ slab.order)) ≡ 1 = grind (arith, nat_tests, range, from, within) in
                    omega (arith, whole, first, gone, out, one, covers-run f from within, (run-frames f from within).2)
                | inr past ↦
                    let stays = times-filter_pass f (λ g. nat_le (frame + 2 ^ slab.order) g) s.pool.free (grind (arith, nat_tests, past)) in
                    let none : times f (range_with_len frame (2 ^ slab.order)) ≡ 0 = grind (arith, nat_tests, range, past) in
                    omega (arith, whole, first, gone, stays, none, covers-after f past)
              ]
        ]

    -- the order of the run that is put back is the slab's
    same-order : with_run s.pool.free frame (order_of s frame) ≡ with_run s.pool.free frame slab.order
    same-order = ap (λ (x : Option Slab). with_run s.pool.free frame (option_map_or (λ (slab : Slab). slab.order) x 0)) is

    -- the run's frames were the slab's, and are free now
    pub discarded-framed : IsFramed (discarded s frame)
    discarded-framed f =
        let nothing : covers f (0 + frame) None ≡ 0 = refl in
        let free : times f (with_run s.pool.free frame (order_of s frame)) ≡ times f (with_run s.pool.free frame slab.order) = ap (times f) same-order in
        omega (arith, consistent.framed f, free, back f, covered-set f 0 s.slabs frame None slot, nothing, ap (covers f (0 + frame)) is)

    -- it was on no list, so no list loses a slab
    pub discarded-listed : IsListed (discarded s frame)
    discarded-listed = record {
      once = consistent.listed.once;
      live = λ f some. at_written_else IsSome s.slabs frame f None None slot (λ e. absurd (omega (arith, some, ap (λ n. times_current s n + times_partial s n) e, unlisted))) (λ ne. consistent.listed.live f some);
      stocked = λ f some. at_written_else (λ (xs : List ℕ). 0 < length xs) s.frees frame f [] [] own-slot (λ e. absurd (omega (arith, some, ap (times_partial s) e, unlisted))) (λ ne. consistent.listed.stocked f some);
      of_current = λ cache cpu f within e. at_written (IsOf cache) s.slabs frame f None None (λ e. tt) (consistent.listed.of_current cache cpu f within e);
      of_partial = λ cache cpu f within some. at_written (IsOf cache) s.slabs frame f None None (λ e. tt) (consistent.listed.of_partial cache cpu f within some);
      of_node = λ cache f some. at_written (IsOf cache) s.slabs frame f None None (λ e. tt) (consistent.listed.of_node cache f some);
      frozen = λ f. at_written (IsFrozenBy (times_current s f)) s.slabs frame f None None (λ e. tt) (consistent.listed.frozen f);
    }

    -- an object that was given is one of another slab
    held-elsewhere : (object : ℕ) (x : Option Held) → held_under s object ≡ x → IfSome x (λ held. IsLiveOf held.cache (slab_of s held.frame)) → IfSome x (λ held. IsLiveOf held.cache (get_or (set s.slabs frame None) held.frame None))
    held-elsewhere object None here old = tt
    held-elsewhere object (Some held) here old =
        at_written_else (IsLiveOf held.cache) s.slabs frame held.frame None None slot
        (λ e.
        let one : held_here frame held.index (Some held) ≡ 1 = grind (arith, nat_tests, e) in
        absurd (omega (arith, elsewhere held.index, element-counted (held_here frame held.index) s.board object None refl, ap (held_here frame held.index) here, one)))
        (λ ne. old)

    -- a slab of a checked cache has no freelist here, but this one has its objects there
    own-live : MatchOption (slab_of s frame) ⊥ (λ other. other.cache ≡ slab.cache)
    own-live = subst (λ (x : Option Slab). MatchOption x ⊥ (λ other. other.cache ≡ slab.cache)) (sym is) refl

    own-apart : IsApart s slab.cache
    own-apart other slabs checked of e =
        let objects : inuse_of s frame ≡ slab.objects - length (own_free s frame) = ap (λ (x : Option Slab). option_map_or (λ (slab : Slab). slab.objects) x 0 - length (own_free s frame)) is in
        let unfree : slab.cache ≡ other → own_free s frame ≡ [] = subst (λ (x : Option Slab). IsUnfree other x (own_free s frame)) is (of.unfree frame) in
        omega (arith, objects, unused, ap length (unfree (sym e)), (slab-bounds s frame slab consistent.shaped is).2)

    -- the numbers of things stay
    pub discarded-shaped : IsPool (record s.pool { free = with_run s.pool.free frame (order_of s frame) }) → IsShaped (discarded s frame)
    discarded-shaped good =
        let shaped = consistent.shaped in
        record {
          frames = shaped.frames;
          cpus = shaped.cpus;
          pool = good;
          pool_frames = shaped.pool_frames;
          slabs = length-set s.slabs frame None ∙ shaped.slabs;
          frees = length-set s.frees frame [] ∙ shaped.frees;
          table = shaped.table;
          checked = checked-discarded s (record s.pool { free = with_run s.pool.free frame (order_of s frame) }) slab.cache frame own-live own-apart shaped.checked;
          cpu_lists = shaped.cpu_lists;
          nodes = shaped.nodes;
          memory = shaped.memory;
          live = shaped.live;
          board = shaped.board;
          gone = shaped.gone;
          slab = λ f. at_written (IsOfItsCache s) s.slabs frame f None None (λ e. tt) (shaped.slab f);
          aligned = λ f. at_written (IsAligned f) s.slabs frame f None None (λ e. tt) (shaped.aligned f);
          held = λ object. held-elsewhere object (held_under s object) refl (shaped.held object);
          no_zero = shaped.no_zero;
          bare = shaped.bare;
        }

    -- the whole
    pub discarded-consistent : IsPool (record s.pool { free = with_run s.pool.free frame (order_of s frame) }) → IsConsistent (discarded s frame)
    discarded-consistent good = record {
      shaped = discarded-shaped good;
      placed = discarded-placed;
      framed = discarded-framed;
      listed = discarded-listed;
      accounted = consistent.accounted;
    }
