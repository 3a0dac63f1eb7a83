-- No slab that has an object on its own freelist is lost by an allocation.
use Rattle.std.proofs.Common.{◌≡◌, ◌≢◌, ℕ, zero, suc, ◌+◌, ◌<◌, ◌≤◌, List, [], ◌∷◌, length, get_or, set, take, drop, reverse, Option, Some, None, Result, Ok, Err, MatchOption, MatchResult, inl, inr, refl, ap, sym, ◌∙◌, subst, arith, length-set, get_or-set_same, get_or-set_other}
use Rattle.std.specs.List.{range_with_len}
use Rattle.std.proofs.lemmas.List.Sums.{sum_by-set}
use Rattle.std.proofs.lemmas.Bool.{cases_eq}
use Rattle.slub_page_pool.specs.FreeFrames.{FreeFrames}
use Rattle.slub_common.specs.Times.{times}
use Rattle.slub_object_layout.specs.declared.layout.Layout.{Layout}
use Rattle.slub_lists.specs.declared.lists.CpuLists.{CpuLists}
use Rattle.slub_cache_create.specs.declared.caches.Cache.{Cache}
use Rattle.slub_lists.specs.declared.lists.Held.{Held}
use Rattle.slub_lists.specs.declared.lists.Run.{Run}
use Rattle.slub_trace.specs.declared.reply.Reply.{Reply}
use Rattle.slub_trace.specs.declared.reply.Reply.TheVariants.{NoSuchCache}
use Rattle.slub_lists.specs.State.{State}
use Rattle.slub_lists.specs.Alloc.{Allocates, AllocatesNew, Gives, batch_of, cache_of, checked_of, cpu_place, from_current, from_free, from_node, from_partial, from_slabs, lists_of, named, no_lists, node_of, own_free, retired, stocked, taken_up, with_given, with_new_slab, with_node}
use Rattle.slub_lists.specs.Checked.{AllocatesChecked, AllocatesNewChecked, GivesOrMakes, with_checked}
use Rattle.slub_lists.specs.Named.{AllocatesFrom, AllocatesNamed}
use Rattle.slub_red_zone.specs.State.{CheckedState}
use Rattle.slub_red_zone.specs.declared.checked.CheckedGive.{CheckedGive}
use Rattle.slub_red_zone.specs.declared.checked.CheckedGive.TheVariants as give
use Rattle.slub_lists.specs.Coherent.{IsCoherent, IsConsistent, IsKept, IsShaped, if_current, opening, times_current, times_partial}
use Rattle.slub_lists.proofs.Times.{current-other}
use Rattle.slub_common.proofs.Times.{times-cons, times-take-drop, times-reverse}
use Rattle.slub_common.proofs.Writes.{get_or-replicate_any}
use Rattle.slub_lists.proofs.Listed.{current-written, partial-written}
use Rattle.slub_lists.proofs.Coherence.{live-inside, place-inside, IsSome-live}

-- between two operations the machine is consistent, and no slab is lost
pub consistent-of : (s : State) → IsCoherent s → IsConsistent s
consistent-of s coherent = record {
  shaped = coherent.shaped;
  placed = coherent.placed;
  framed = coherent.framed;
  listed = coherent.listed;
  accounted = coherent.accounted;
}

pub coherent-of : (s : State) → IsConsistent s → IsKept s → IsCoherent s
coherent-of s consistent kept = record {
  shaped = consistent.shaped;
  placed = consistent.placed;
  framed = consistent.framed;
  listed = consistent.listed;
  accounted = consistent.accounted;
  kept = kept;
}

-- before the first item no slab is there
pub kept-opening : (frames cpus objects : ℕ) (names : List (List ℕ)) → IsKept (opening frames cpus objects names)
kept-opening frames cpus objects names f some =
    let none : ◌≡◌ {A = ℕ} (length (own_free (opening frames cpus objects names) f)) 0 = ap length (get_or-replicate_any frames f []) in
    absurd (omega (arith, some, none))

-- a slab that has an object on its own freelist is current, on a list, or one of those in hand
abbrev pub IsKeptBut : List ℕ → State → Type 0
IsKeptBut hand s = (frame : ℕ) → 0 < length (own_free s frame) → 0 < times frame hand + times_current s frame + times_partial s frame

-- nothing is in hand before, and nothing after
pub kept-in-hand : (s : State) → IsKept s → IsKeptBut [] s
kept-in-hand s kept f some = let none : times f [] ≡ 0 = refl in omega (arith, kept f some, none)

pub kept-no-hand : (s : State) → IsKeptBut [] s → IsKept s
kept-no-hand s kept f some = let none : times f [] ≡ 0 = refl in omega (arith, kept f some, none)

-- a freelist that is emptied is empty
pub emptied : (xs : List (List ℕ)) (i : ℕ) → get_or (set xs i []) i [] ≡ []
emptied [] i = refl
emptied (x ∷ xs) zero = refl
emptied (x ∷ xs) (suc i) = emptied xs i

-- a slab whose freelist is emptied needs no place
pub at_emptied : (frees : List (List ℕ)) (frame f n : ℕ) → (f ≢ frame → 0 < length (get_or frees f []) → 0 < n) → 0 < length (get_or (set frees frame []) f []) → 0 < n
at_emptied frees frame f n others some =
    elim (cases_eq f frame) [
      | inl e ↦ absurd (let none : ◌≡◌ {A = ℕ} (length (get_or (set frees frame []) f [])) 0 = ap (λ m. length (get_or (set frees frame []) m [])) e ∙ ap length (emptied frees frame) in omega (arith, some, none))
      | inr ne ↦ others ne (let same = ap length (get_or-set_other frees frame f [] [] ne) in omega (arith, some, same))
    ]

module _ (s : State) (cache cpu : ℕ) (within : cpu < s.cpus) (inside : cpu_place s cache cpu < length s.cpu_lists) where
  -- a slab is taken up, whose freelist is then the CPU's; those in hand come to the CPU's partial list
  pub kept-taken_up : (hand : List ℕ) (frame : ℕ) (partial : List ℕ)
      → ((f : ℕ) → f ≢ frame → if_current f 1 (lists_of s cache cpu).current ≡ 0)
      → ((f : ℕ) → f ≢ frame → times f hand + times f (lists_of s cache cpu).partial ≤ times f partial)
      → IsKeptBut hand s → IsKept (taken_up s cache cpu frame partial)
  kept-taken_up hand frame partial bare more kept f =
      let v : CpuLists = record { current = Some frame; free = own_free s frame; partial = partial } in
      at_emptied s.frees frame f (times_current (taken_up s cache cpu frame partial) f + times_partial (taken_up s cache cpu frame partial) f)
      (λ ne some. omega (arith, kept f some, current-written s cache cpu within inside f v, partial-written s cache cpu within inside f v, bare f ne, more f ne))

  -- a slab with nothing on its own freelist is current no more
  pub kept-retired : (frame : ℕ) → (lists_of s cache cpu).current ≡ Some frame → own_free s frame ≡ [] → IsKept s → IsKept (retired s cache cpu frame)
  kept-retired frame current none kept f some =
      let v : CpuLists = record { current = None; free = []; partial = (lists_of s cache cpu).partial } in
      elim (cases_eq f frame) [
        | inl e ↦ absurd (let nothing : ◌≡◌ {A = ℕ} (length (own_free s f)) 0 = ap (λ m. length (own_free s m)) e ∙ ap length none in omega (arith, some, nothing))
        | inr ne ↦ omega (arith, kept f some, current-written s cache cpu within inside f v, partial-written s cache cpu within inside f v, ap (if_current f 1) current ∙ current-other f frame 1 ne)
      ]

  -- a new slab is current where none was
  pub kept-with_new_slab : (pool : FreeFrames) (run : Run) → (lists_of s cache cpu).current ≡ None → IsKept s → IsKept (with_new_slab s cache cpu pool run)
  kept-with_new_slab pool run bare kept f some =
      let v : CpuLists = record { current = Some run.frame; free = range_with_len 0 run.objects; partial = (lists_of s cache cpu).partial } in
      omega (arith, kept f some, current-written s cache cpu within inside f v, partial-written s cache cpu within inside f v, ap (if_current f 1) bare)

  -- only a CPU freelist changes
  pub kept-with_given : (object frame : ℕ) (rest : List ℕ) (held : Held) → (lists_of s cache cpu).current ≡ Some frame → IsKept s
      → IsKept (with_given s cache cpu (record { current = Some frame; free = rest; partial = (lists_of s cache cpu).partial }) object held)
  kept-with_given object frame rest held current kept f some =
      let v : CpuLists = record { current = Some frame; free = rest; partial = (lists_of s cache cpu).partial } in
      omega (arith, kept f some, current-written s cache cpu within inside f v, partial-written s cache cpu within inside f v, ap (if_current f 1) current)

-- no slab is lost, and what the CPU has of the cache stands inside
record IsReady (cache cpu : ℕ) (s : State) : Type 0 where
  kept : IsKept s
  within : cpu < s.cpus
  inside : cpu_place s cache cpu < length s.cpu_lists
  slot : cache < length s.nodes

-- the same, and the CPU has no slab
abbrev IsBareOf : ℕ → ℕ → State → Type 0
IsBareOf cache cpu s = IsReady cache cpu s × ((lists_of s cache cpu).current ≡ None)

-- a slab of the node list is taken up, and those after it come to the CPU's partial list
kept_node : (s : State) (cache cpu batch : ℕ) (frames : List ℕ) → node_of s cache ≡ frames → (lists_of s cache cpu).partial ≡ [] → IsBareOf cache cpu s
    → MatchResult (from_node s cache cpu batch frames) (IsReady cache cpu) (IsBareOf cache cpu)
kept_node s cache cpu batch [] first none ready = ready
kept_node s cache cpu batch (frame ∷ frames) first none ready =
    let t : State = with_node s cache (drop batch frames) in
    let up : State = taken_up t cache cpu frame (reverse (take batch frames)) in
    let v : CpuLists = record { current = Some frame; free = own_free t frame; partial = reverse (take batch frames) } in
    let no_partial : (f : ℕ) → times f (lists_of s cache cpu).partial ≡ 0 = λ f. ap (times f) none in
    let in_hand : IsKeptBut (frame ∷ take batch frames) t = λ f some.
    let written = sum_by-set (times f) s.nodes cache (drop batch frames) [] ready.0.slot in
    omega (arith, ready.0.kept f some, written, ap (times f) first, times-cons f frame frames, times-cons f frame (take batch frames), times-take-drop f batch frames) in
    record {
      kept = kept-taken_up t cache cpu ready.0.within ready.0.inside (frame ∷ take batch frames) frame (reverse (take batch frames))
          (λ f ne. ap (if_current f 1) ready.1)
          (λ f ne. omega (arith, times-cons f frame (take batch frames), current-other f frame 1 ne, no_partial f, times-reverse f (take batch frames))) in_hand;
      within = ready.0.within;
      inside = omega (arith, ready.0.inside, length-set s.cpu_lists (cpu_place s cache cpu) v);
      slot = omega (arith, ready.0.slot, length-set s.nodes cache (drop batch frames));
    }

-- the front of the CPU's partial list is taken up, or else one of the node list
kept_partial : (s : State) (cache cpu batch : ℕ) (frames : List ℕ) → (lists_of s cache cpu).partial ≡ frames → IsBareOf cache cpu s
    → MatchResult (from_partial s cache cpu batch frames) (IsReady cache cpu) (IsBareOf cache cpu)
kept_partial s cache cpu batch [] first ready = kept_node s cache cpu batch (node_of s cache) refl first ready
kept_partial s cache cpu batch (frame ∷ frames) first ready =
    let v : CpuLists = record { current = Some frame; free = own_free s frame; partial = frames } in
    record {
      kept = kept-taken_up s cache cpu ready.0.within ready.0.inside [] frame frames
          (λ f ne. ap (if_current f 1) ready.1)
          (λ f ne. let none : times f [] ≡ 0 = refl in omega (arith, none, ap (times f) first, times-cons f frame frames, current-other f frame 1 ne)) (kept-in-hand s ready.0.kept);
      within = ready.0.within;
      inside = omega (arith, ready.0.inside, length-set s.cpu_lists (cpu_place s cache cpu) v);
      slot = ready.0.slot;
    }

-- the current slab is taken up again, or else one of a list
kept_current : (s : State) (cache cpu batch frame : ℕ) (free : List ℕ) → own_free s frame ≡ free → (lists_of s cache cpu).current ≡ Some frame → IsReady cache cpu s
    → MatchResult (from_current s cache cpu batch frame free) (IsReady cache cpu) (IsBareOf cache cpu)
kept_current s cache cpu batch frame [] first current ready =
    let rest : State = retired s cache cpu frame in
    let v : CpuLists = record { current = None; free = []; partial = (lists_of s cache cpu).partial } in
    let bare : IsReady cache cpu rest = record {
      kept = kept-retired s cache cpu ready.within ready.inside frame current first ready.kept;
      within = ready.within;
      inside = omega (arith, ready.inside, length-set s.cpu_lists (cpu_place s cache cpu) v);
      slot = ready.slot;
    } in
    kept_partial rest cache cpu batch (lists_of rest cache cpu).partial refl
    (bare, ap (λ (l : CpuLists). l.current) (get_or-set_same s.cpu_lists (cpu_place s cache cpu) v no_lists ready.inside))
kept_current s cache cpu batch frame (index ∷ free) first current ready =
    let lists : CpuLists = lists_of s cache cpu in
    let v : CpuLists = record { current = Some frame; free = own_free s frame; partial = lists.partial } in
    record {
      kept = kept-taken_up s cache cpu ready.within ready.inside [] frame lists.partial
          (λ f ne. ap (if_current f 1) current ∙ current-other f frame 1 ne)
          (λ f ne. let none : times f [] ≡ 0 = refl in omega (arith, none)) (kept-in-hand s ready.kept);
      within = ready.within;
      inside = omega (arith, ready.inside, length-set s.cpu_lists (cpu_place s cache cpu) v);
      slot = ready.slot;
    }

-- with a current slab or none
kept_slabs : (s : State) (cache cpu batch : ℕ) (current : Option ℕ) → (lists_of s cache cpu).current ≡ current → IsReady cache cpu s
    → MatchResult (from_slabs s cache cpu batch current) (IsReady cache cpu) (IsBareOf cache cpu)
kept_slabs s cache cpu batch None is ready = kept_partial s cache cpu batch (lists_of s cache cpu).partial refl (ready, is)
kept_slabs s cache cpu batch (Some frame) is ready = kept_current s cache cpu batch frame (own_free s frame) refl is ready

-- with objects on the CPU freelist or none
kept_free : (s : State) (cache cpu batch : ℕ) (free : List ℕ) → IsReady cache cpu s → MatchResult (from_free s cache cpu batch free) (IsReady cache cpu) (IsBareOf cache cpu)
kept_free s cache cpu batch [] ready = kept_slabs s cache cpu batch (lists_of s cache cpu).current refl ready
kept_free s cache cpu batch (index ∷ free) ready = ready

-- a giving
kept_gives : (t : State) (layout : Layout) (cache cpu worker object : ℕ) (reply : Reply) (after : State) → IsReady cache cpu t → Gives t layout cache cpu worker object reply after → IsKept after
kept_gives t layout cache cpu worker object reply after ready gives =
    subst IsKept (sym gives.given) (kept-with_given t cache cpu ready.within ready.inside object gives.frame gives.rest (record { frame = gives.frame; index = gives.index; cache = cache; worker = Some worker }) gives.current ready.kept)

-- a giving from a new slab, or none
kept_new : (t : State) (layout : Layout) (cache cpu worker object : ℕ) (reply : Reply) (after : State) → IsBareOf cache cpu t → AllocatesNew t layout cache cpu worker object reply after → IsKept after
kept_new t layout cache cpu worker object reply after ready (None, free, found, none) = subst IsKept (sym none.1) ready.0.kept
kept_new t layout cache cpu worker object reply after ready (Some run, free, found, gives) =
    let v : CpuLists = record { current = Some run.frame; free = range_with_len 0 run.objects; partial = (lists_of t cache cpu).partial } in
    let made : IsReady cache cpu (with_new_slab t cache cpu free run) = record {
      kept = kept-with_new_slab t cache cpu ready.0.within ready.0.inside free run ready.1 ready.0.kept;
      within = ready.0.within;
      inside = omega (arith, ready.0.inside, length-set t.cpu_lists (cpu_place t cache cpu) v);
      slot = ready.0.slot;
    } in
    kept_gives (with_new_slab t cache cpu free run) layout cache cpu worker object reply after made gives

-- the cases of an allocation, from the innermost on
kept_result : (r : Result State State) (layout : Layout) (cache cpu worker object : ℕ) (reply : Reply) (after : State) → MatchResult r (IsReady cache cpu) (IsBareOf cache cpu)
    → MatchResult r (λ t. Gives t layout cache cpu worker object reply after) (λ t. AllocatesNew t layout cache cpu worker object reply after) → IsKept after
kept_result (Ok t) layout cache cpu worker object reply after ready gives = kept_gives t layout cache cpu worker object reply after ready gives
kept_result (Err t) layout cache cpu worker object reply after ready new = kept_new t layout cache cpu worker object reply after ready new

-- a checked cache has nothing to do with it
kept_made : (t : State) (layout : Layout) (cache : ℕ) (slabs : CheckedState) (worker object : ℕ) (reply : Reply) (after : State) → IsKept t → AllocatesNewChecked t layout cache slabs worker object reply after → IsKept after
kept_made t layout cache slabs worker object reply after kept (None, free, found, none) = subst IsKept (sym none.1) kept
kept_made t layout cache slabs worker object reply after kept (Some run, free, found, inl none) = subst IsKept (sym none.1) kept
kept_made t layout cache slabs worker object reply after kept (Some run, free, found, inr gives) = subst IsKept (sym gives.given) kept

kept_answer : (t : State) (layout : Layout) (cache : ℕ) (slabs : CheckedState) (worker object : ℕ) (answer : CheckedGive) (reply : Reply) (after : State) → IsKept t
    → GivesOrMakes t layout cache slabs worker object answer reply after → IsKept after
kept_answer t layout cache slabs worker object (give.Given slot) reply after kept gives = subst IsKept (sym gives.given) kept
kept_answer t layout cache slabs worker object give.Empty reply after kept made = kept_made t layout cache slabs worker object reply after kept made

-- with one or with none
kept_from : (s : State) (x : Option CheckedState) (layout : Layout) (cache cpu worker object : ℕ) (reply : Reply) (after : State) → IsReady cache cpu s
    → MatchOption x (Allocates s layout cache cpu worker object reply after) (λ slabs. AllocatesChecked s layout cache slabs worker object reply after) → IsKept after
kept_from s None layout cache cpu worker object reply after ready done =
    kept_result (stocked s layout cache cpu) layout cache cpu worker object reply after (kept_free s cache cpu (batch_of layout) (lists_of s cache cpu).free ready) done
kept_from s (Some slabs) layout cache cpu worker object reply after ready done =
    kept_answer (with_checked s cache done.1) layout cache done.1 worker object done.0 reply after ready.kept done.3

kept_cache : (s : State) (live : Option Cache) (cache cpu worker object : ℕ) (reply : Reply) (after : State) → (MatchOption live ⊥ (λ c. AllocatesFrom s c.layout cache cpu worker object reply after) → IsReady cache cpu s)
    → MatchOption live ⊥ (λ c. AllocatesFrom s c.layout cache cpu worker object reply after) → IsKept after
kept_cache s None cache cpu worker object reply after ready none = absurd none
kept_cache s (Some live) cache cpu worker object reply after ready done = kept_from s (checked_of s cache) live.layout cache cpu worker object reply after (ready done) done

kept_name : (s : State) (name : Option ℕ) (cpu worker object : ℕ) (reply : Reply) (after : State) → IsShaped s → cpu < s.cpus → IsKept s
    → MatchOption name ((reply ≡ NoSuchCache) × (after ≡ s)) (λ cache. MatchOption (cache_of s cache) ⊥ (λ c. AllocatesFrom s c.layout cache cpu worker object reply after)) → IsKept after
kept_name s None cpu worker object reply after shaped within kept none = subst IsKept (sym none.1) kept
kept_name s (Some cache) cpu worker object reply after shaped within kept done =
    kept_cache s (cache_of s cache) cache cpu worker object reply after
    (λ live.
    let slot : cache < 32 = omega (arith, live-inside s.table.caches cache (IsSome-live (cache_of s cache) (λ (c : Cache). AllocatesFrom s c.layout cache cpu worker object reply after) live), shaped.table.numbers) in
    record {
      kept = kept;
      within = within;
      inside = place-inside s cache cpu shaped slot within;
      slot = omega (arith, slot, shaped.nodes);
    }) done

-- an allocation of the cache of a name loses no slab
pub kept-allocated : (s : State) (place cpu worker object : ℕ) (reply : Reply) (after : State) → IsShaped s → cpu < s.cpus → IsKept s → AllocatesNamed s place cpu worker object reply after → IsKept after
kept-allocated s place cpu worker object reply after shaped within kept done = kept_name s (named s place) cpu worker object reply after shaped within kept done
