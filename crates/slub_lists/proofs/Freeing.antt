-- An object goes from the board to a freelist.
use Rattle.std.proofs.Common.{◌≡◌, ◌≢◌, ℕ, ◌+◌, ◌<◌, ◌≤◌, List, [], ◌∷◌, length, get_or, set, sum_by, Option, Some, None, is_some, IsSome, IfSome, MatchOption, inl, inr, refl, ap, sym, ◌∙◌, subst, arith, length-set, nat_lt, if◌then◌else◌}
use Rattle.std.proofs.lemmas.Bool.Decides.{nat_tests}
use Rattle.slub_common.specs.Times.{times}
use Rattle.slub_lists.specs.declared.lists.Slab.{Slab}
use Rattle.slub_object_layout.specs.declared.layout.Layout.{Layout}
use Rattle.slub_cache_create.specs.declared.caches.Cache.{Cache}
use Rattle.slub_lists.specs.declared.lists.CpuLists.{CpuLists}
use Rattle.slub_lists.specs.declared.lists.Held.{Held}
use Rattle.slub_lists.specs.State.{State}
use Rattle.slub_lists.specs.Alloc.{cache_of, checked_of, cpu_place, held_here, lists_of, no_lists, own_free, slab_of, with_lists, HasLayout, IsLive}
use Rattle.slub_lists.specs.Coherent.{IsConsistent, IsListed, IsPlaced, IsShaped, IsSlabOf, has_object, held_under, if_current, on_cpu, times_current, times_partial}
use Rattle.slub_lists.specs.Free.{freed_here, with_freed, with_taken}
use Rattle.slub_common.proofs.Writes.{at_written, at_written_else}
use Rattle.slub_lists.proofs.Times.{current-same}
use Rattle.slub_common.proofs.Times.{times-cons}
use Rattle.slub_common.proofs.Sums.{element-counted}
use Rattle.slub_lists.proofs.Counting.{IsOnce, once-room}
use Rattle.slub_lists.proofs.Placed.{on_cpu-written}
use Rattle.slub_lists.proofs.Listed.{IsOf, IsFrozenBy-same, current-written, partial-written, of-written}
use Rattle.slub_lists.proofs.Shaped.{IsLiveOf, bare-written, layouts-live, shaped-relisted}
use Rattle.slub_lists.proofs.Unchecked.{apart-current, apart-unchecked, checked-lists, checked-with_own}
use Rattle.slub_lists.proofs.Coherence.{live-inside, place-inside}
use Rattle.slub_lists.proofs.Discarding.{the-slab, slab-bounds}
use Rattle.slub_lists.proofs.Taking.{slab-live, cache-within, held-once, board-taken, taken-shaped, taken-listed, taken-accounted}

-- one object more before a freelist
before-free : (f i : ℕ) (held : Held) (rest : List ℕ) → if_current f (times i (held.index ∷ rest)) (Some held.frame) ≡ if_current f (times i rest) (Some held.frame) + held_here f i (Some held)
before-free f i held rest = grind (arith, nat_tests, times-cons i held.index rest)

-- the same before a slab's own freelist
before-own : (i : ℕ) (held : Held) (rest : List ℕ) → times i (held.index ∷ rest) ≡ times i rest + held_here held.frame i (Some held)
before-own i held rest = grind (arith, nat_tests, times-cons i held.index rest)

-- an object is on no other slab
not-here : (f i : ℕ) (held : Held) → f ≢ held.frame → held_here f i (Some held) ≡ 0
not-here f i held ne = grind (arith, nat_tests, ne)

-- what a CPU has of a cache is written, but for its slabs
listed-same : (s : State) (cache cpu : ℕ) (within : cpu < s.cpus) (inside : cpu_place s cache cpu < length s.cpu_lists) (v : CpuLists)
    → v.current ≡ (lists_of s cache cpu).current → v.partial ≡ (lists_of s cache cpu).partial → IsListed s → IsListed (with_lists s cache cpu v)
listed-same s cache cpu within inside v current partial listed =
    let after : State = with_lists s cache cpu v in
    let same : (f : ℕ) → times_current after f ≡ times_current s f = λ f. omega (arith, current-written s cache cpu within inside f v, ap (if_current f 1) current) in
    let same_partial : (f : ℕ) → times_partial after f ≡ times_partial s f = λ f. omega (arith, partial-written s cache cpu within inside f v, ap (times f) partial) in
    record {
      once = λ f. omega (arith, listed.once f, same f, same_partial f);
      live = λ f some. listed.live f (omega (arith, some, same f, same_partial f));
      stocked = λ f some. listed.stocked f (omega (arith, some, same_partial f));
      of_current = λ other other_cpu f other_within.
          of-written s cache cpu within inside (λ c lists. lists.current ≡ Some f → IsOf c (slab_of s f)) v (λ e. listed.of_current cache cpu f within (sym current ∙ e)) other other_cpu other_within (listed.of_current other other_cpu f other_within);
      of_partial = λ other other_cpu f other_within.
          of-written s cache cpu within inside (λ c lists. 0 < times f lists.partial → IsOf c (slab_of s f)) v (λ some. listed.of_partial cache cpu f within (omega (arith, some, ap (times f) partial))) other other_cpu other_within (listed.of_partial other other_cpu f other_within);
      of_node = listed.of_node;
      frozen = λ f. IsFrozenBy-same (times_current s f) (times_current after f) (slab_of s f) (sym (same f)) (listed.frozen f);
    }

-- a slab's own freelist has one object more
listed-with_freed : (s : State) (frame index : ℕ) → IsListed s → IsListed (with_freed s frame index)
listed-with_freed s frame index listed = record {
  once = listed.once;
  live = listed.live;
  stocked = λ f some. at_written (λ (xs : List ℕ). 0 < length xs) s.frees frame f (index ∷ own_free s frame) [] (λ e. omega arith) (listed.stocked f some);
  of_current = listed.of_current;
  of_partial = listed.of_partial;
  of_node = listed.of_node;
  frozen = listed.frozen;
}

-- a slab of a cache has as many objects as the layout at most
objects-of : (x : Option Cache) (layout : Layout) (slab : Slab) → MatchOption x ⊥ (λ live. live.layout ≡ layout) → MatchOption x ⊥ (λ live. IsSlabOf live.layout slab) → IfSome x (λ live. IsLive live.layout) → slab.objects ≤ layout.objects
objects-of None layout slab has fits tuned = absurd has
objects-of (Some live) layout slab has fits tuned =
    let same = ap (λ (l : Layout). l.objects) has in
    elim fits [
      | inl wide ↦ omega (arith, wide.1, same)
      | inr least ↦ omega (arith, least.1, tuned.1.made.min_objects_slab.1, same)
    ]

module _ (s : State) (object : ℕ) (held : Held) (consistent : IsConsistent s) (here : held_under s object ≡ Some held) where
  -- the slab of the object
  slab-here : (slab : Slab) × (slab_of s held.frame ≡ Some slab)
  slab-here = the-slab (slab_of s held.frame) (is-live (slab_of s held.frame) (slab-live s object held consistent here))
    where
      is-live : (x : Option Slab) → IsLiveOf held.cache x → IsSome x
      is-live None h = absurd h
      is-live (Some slab) h = refl

  -- which begins at a frame of the machine
  pub frame-within : held.frame < s.frames
  frame-within = omega (arith, live-inside s.slabs held.frame (ap is_some slab-here.1), consistent.shaped.slabs)

  -- it is one of the slab's objects, as many as the layout has at most
  objects : (i : ℕ) → has_object i (slab_of s held.frame) ≡ (if nat_lt i slab-here.0.objects then 1 else 0)
  objects i = ap (has_object i) slab-here.1

  index-below : held.index < slab-here.0.objects
  index-below =
      let some = held-once s object held consistent here in
      let placed = consistent.placed held.frame held.index in
      let one : 0 < has_object held.index (slab_of s held.frame) = omega (arith, some, placed) in
      let most = objects held.index in
      grind (arith, nat_tests, one, most)

  pub index-most : (layout : Layout) → HasLayout s held.cache layout → held.index < layout.objects
  index-most layout has =
      let slab = slab-here.0 in
      let own : slab.cache ≡ held.cache = subst (λ (x : Option Slab). IsLiveOf held.cache x) slab-here.1 (slab-live s object held consistent here) in
      let fits = subst (λ (x : Option Slab). IfSome x (λ slab. MatchOption (cache_of s slab.cache) ⊥ (λ live. IsSlabOf live.layout slab))) slab-here.1 (consistent.shaped.slab held.frame) in
      omega (arith, index-below, objects-of (cache_of s held.cache) layout slab has (subst (λ n. MatchOption (cache_of s n) ⊥ (λ live. IsSlabOf live.layout slab)) own fits) (layouts-live s held.cache consistent.shaped))

  -- a freelist of its slab that lacks it has room
  pub freelist-room : (free : List ℕ) → ((i : ℕ) → times i free + sum_by (held_here held.frame i) s.board ≤ has_object i (slab_of s held.frame)) → length free < 512
  freelist-room free placed =
      let slab = slab-here.0 in
      let once : IsOnce slab.objects free = λ i. omega (arith, placed i, objects i) in
      let below = index-below in
      let one : ◌≡◌ {A = ℕ} (if nat_lt held.index slab.objects then 1 else 0) 1 = grind (arith, nat_tests, below) in
      omega (arith, once-room slab.objects held.index free below (omega (arith, placed held.index, objects held.index, one, held-once s object held consistent here)) once, (slab-bounds s held.frame slab consistent.shaped slab-here.1).1)

  -- the slab's own freelist lacks it
  pub own-room : length (own_free s held.frame) < 512
  own-room = freelist-room (own_free s held.frame) (λ i. omega (arith, consistent.placed held.frame i))

  -- it comes to its slab's own freelist
  own-placed : IsPlaced (with_freed (with_taken s object held.cache) held.frame held.index)
  own-placed f i =
      let own : held.frame < length s.frees = omega (arith, frame-within, consistent.shaped.frees) in
      let board = board-taken s object held consistent here f i in
      let free : times i (get_or (set s.frees held.frame (held.index ∷ own_free s held.frame)) f []) ≡ times i (own_free s f) + held_here f i (Some held) =
      at_written_else (λ xs. times i xs ≡ times i (own_free s f) + held_here f i (Some held)) s.frees held.frame f (held.index ∷ own_free s held.frame) [] own
      (λ e. omega (arith, before-own i held (own_free s held.frame), ap (λ n. times i (own_free s n)) e, ap (λ n. held_here n i (Some held)) e))
      (λ ne. omega (arith, not-here f i held ne)) in
      omega (arith, consistent.placed f i, board, free)

  -- the whole, where the object has come to its slab's own freelist
  pub own-consistent : checked_of s held.cache ≡ None → IsConsistent (with_freed (with_taken s object held.cache) held.frame held.index)
  own-consistent unchecked =
      let t : State = with_taken s object held.cache in
      record {
        shaped = shaped-relisted t t.slabs (set s.frees held.frame (held.index ∷ own_free s held.frame)) t.cpu_lists t.nodes refl (length-set s.frees held.frame (held.index ∷ own_free s held.frame)) refl refl
            (λ P f closed h. h) consistent.shaped.bare
            (checked-with_own t held.cache held.frame (held.index ∷ own_free s held.frame) (slab-live s object held consistent here) (apart-unchecked t held.cache unchecked) (taken-shaped s object held consistent here).checked)
            (taken-shaped s object held consistent here);
        placed = own-placed;
        framed = consistent.framed;
        listed = listed-with_freed t held.frame held.index (taken-listed s object held consistent here);
        accounted = taken-accounted s object held consistent here;
      }

  -- it comes to the CPU freelist of its slab
  module _ (cpu : ℕ) (within : cpu < s.cpus) (current : (lists_of s held.cache cpu).current ≡ Some held.frame) where
    inside : cpu_place s held.cache cpu < length s.cpu_lists
    inside = place-inside s held.cache cpu consistent.shaped (cache-within s object held consistent here) within

    -- what stands on the CPU freelist is counted
    on-cpu : (i : ℕ) → times i (lists_of s held.cache cpu).free ≤ sum_by (on_cpu held.frame i) s.cpu_lists
    on-cpu i =
        let lists : CpuLists = lists_of s held.cache cpu in
        let all : on_cpu held.frame i lists ≡ times i lists.free = ap (if_current held.frame (times i lists.free)) current ∙ current-same held.frame held.frame (times i lists.free) refl in
        omega (arith, all, element-counted (on_cpu held.frame i) s.cpu_lists (cpu_place s held.cache cpu) no_lists refl)

    -- the CPU freelist lacks it
    pub cpu-room : length (lists_of s held.cache cpu).free < 512
    cpu-room = freelist-room (lists_of s held.cache cpu).free (λ i. omega (arith, consistent.placed held.frame i, on-cpu i))

    -- its one place is the CPU freelist now
    here-placed : IsPlaced (freed_here (with_taken s object held.cache) held.cache cpu held.index)
    here-placed f i =
        let lists : CpuLists = lists_of s held.cache cpu in
        let v : CpuLists = record lists { free = held.index ∷ lists.free } in
        let board = board-taken s object held consistent here f i in
        let cpus = on_cpu-written s held.cache cpu inside f i v in
        let before : on_cpu f i lists ≡ if_current f (times i lists.free) (Some held.frame) = ap (if_current f (times i lists.free)) current in
        let after : on_cpu f i v ≡ if_current f (times i (held.index ∷ lists.free)) (Some held.frame) = ap (if_current f (times i (held.index ∷ lists.free))) current in
        omega (arith, consistent.placed f i, board, cpus, before, after, before-free f i held lists.free)

    -- the whole, where the object has come to the CPU freelist
    pub here-consistent : IsConsistent (freed_here (with_taken s object held.cache) held.cache cpu held.index)
    here-consistent =
        let t : State = with_taken s object held.cache in
        let lists : CpuLists = lists_of s held.cache cpu in
        let v : CpuLists = record lists { free = held.index ∷ lists.free } in
        let shaped : IsShaped t = taken-shaped s object held consistent here in
        record {
          shaped = shaped-relisted t t.slabs t.frees (set s.cpu_lists (cpu_place s held.cache cpu) v) t.nodes refl refl (length-set s.cpu_lists (cpu_place s held.cache cpu) v) refl
              (λ P f closed h. h) (bare-written t held.cache cpu v (λ none. let e = sym current ∙ none in cc) shaped)
              (checked-lists t held.cache cpu within (apart-current t held.cache cpu held.frame within current) v t.board t.live shaped.checked) shaped;
          placed = here-placed;
          framed = consistent.framed;
          listed = listed-same t held.cache cpu within inside v refl refl (taken-listed s object held consistent here);
          accounted = taken-accounted s object held consistent here;
        }
