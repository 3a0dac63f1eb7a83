-- What the places of a cache's objects add up to: over the frames of its slabs, and the indexes below a bound.
use Rattle.std.proofs.Common.{length, get_or, true, false, ◌≡◌, ℕ, zero, suc, ◌+◌, ◌*◌, ◌<◌, ◌≤◌, List, [], ◌∷◌, refl, sym, ap, ◌∙◌, inl, inr, subst, arith}
use Rattle.std.specs.Prelude.{Option, Some, None, MatchOption, IfSome, sum_by, count_by, ◌==◌, slice_get, slice_range, unwrap_or, if◌then◌else◌}
use Rattle.std.specs.Option.{option_map}
use Rattle.std.specs.List.{zip}
use Rattle.std.proofs.Math.ListN.{get_or-eq_default}
use Rattle.std.proofs.Math.Nat.{mul-le-mul_left}
use Rattle.std.proofs.lemmas.Bool.{cases_lt, eqb-true, eq-eqb, ne_eqb}
use Rattle.std.proofs.lemmas.Option.{slice_get-get_or, slice_get_past}
use Rattle.std.proofs.lemmas.Slice.Zip.{length-zip, get_or-zip}
use Rattle.std.proofs.lemmas.List.Sums.{sum_by-cons}
use Rattle.slub_common.specs.Times.{times}
use Rattle.slub_red_zone.specs.declared.slab.ObjectState.{ObjectState}
use Rattle.slub_red_zone.specs.declared.slab.ObjectState.TheVariants.{Free, Used, Aside}
use Rattle.slub_red_zone.specs.State.{SlabState, CheckedState, no_slab, free_in as checked_free, aside_in, free_count, aside_count, is_free, is_aside}
use Rattle.slub_red_zone.specs.Objects.{idle, is_idle, shape_at, shape_of}
use Rattle.slub_lists.specs.declared.lists.Slab.{Slab}
use Rattle.slub_lists.specs.declared.lists.CpuLists.{CpuLists}
use Rattle.slub_lists.specs.declared.lists.Held.{Held}
use Rattle.slub_lists.specs.State.{State}
use Rattle.slub_lists.specs.Alloc.{checked_of, held_here, lists_of, no_lists, own_free, slab_of}
use Rattle.slub_lists.specs.Coherent.{Agrees, IsCheckedOf, has_object, held_of, idle_in, if_current, on_cpu}
use Rattle.slub_lists.specs.Shrink.{is_slab_of}
use Rattle.slub_slabinfo_text.specs.Counts.{free_in, num_objs_of, objects_in}
use Rattle.slub_law_replay.proofs.Adding.{get_or-le, over, over_none, over_one, over_sum_by, past_none, share_here, share_none, share_same, share_test, share_there, upto, upto_below, upto_list, upto_list_past, upto_more, upto_one, upto_part, upto_row, upto_same, upto_times}

-- the sum over the frames of a cache's slabs, and the indexes below k
abbrev pub of_cache : State → ℕ → ℕ → (ℕ → ℕ → ℕ) → ℕ
of_cache s cache k g = over (λ f. is_slab_of cache (slab_of s f)) (length s.slabs) k g

-- no slab has an object of index k or more
abbrev pub AreBelow : State → ℕ → Type 0
AreBelow s k = (f i : ℕ) → k ≤ i → has_object i (slab_of s f) ≡ 0

-- ---- the objects

objects_share : (cache k : ℕ) (o : Option Slab) → has_object k o ≡ 0 → (if is_slab_of cache o then upto (λ i. has_object i o) k else 0) ≡ objects_in cache o
objects_share cache k None none = refl
objects_share cache k (Some slab) none =
    share_same (slab.cache == cache) (upto (λ i. has_object i (Some slab)) k) slab.objects (λ mine. upto_below slab.objects k (past_none k slab.objects none))

pub objects_of_cache : (s : State) (cache k : ℕ) → AreBelow s k → of_cache s cache k (λ f i. has_object i (slab_of s f)) ≡ num_objs_of s cache
objects_of_cache s cache k below =
    upto_same (λ f. if is_slab_of cache (slab_of s f) then upto (λ i. has_object i (slab_of s f)) k else 0) (λ f. objects_in cache (slab_of s f)) (length s.slabs)
    (λ f within. objects_share cache k (slab_of s f) (below f k (omega arith)))
    ∙ sym (upto_list (objects_in cache) s.slabs None)

-- ---- on the slabs' own freelists

own_share : (cache k : ℕ) (o : Option Slab) (free : List ℕ) → ((i : ℕ) → k ≤ i → times i free ≡ 0) → (if is_slab_of cache o then upto (λ i. times i free) k else 0) ≡ free_in cache (o, free)
own_share cache k o free below = share_same (is_slab_of cache o) (upto (λ i. times i free) k) (length free) (λ mine. upto_times free k below)

pub own_of_cache : (s : State) (cache k : ℕ) → length s.frees ≡ length s.slabs → ((f i : ℕ) → k ≤ i → times i (own_free s f) ≡ 0)
    → of_cache s cache k (λ f i. times i (own_free s f)) ≡ sum_by (free_in cache) (zip s.slabs s.frees)
own_of_cache s cache k long below =
    let zipped = length-zip s.slabs s.frees in
    let whole : length (zip s.slabs s.frees) ≡ length s.slabs = omega (arith, zipped) in
    upto_same (λ f. if is_slab_of cache (slab_of s f) then upto (λ i. times i (own_free s f)) k else 0) (λ f. free_in cache (get_or (zip s.slabs s.frees) f (None, []))) (length s.slabs)
    (λ f within. own_share cache k (slab_of s f) (own_free s f) (below f) ∙ sym (ap (free_in cache) (get_or-zip s.slabs s.frees f (None, []) within (omega arith))))
    ∙ sym (ap (upto (λ f. free_in cache (get_or (zip s.slabs s.frees) f (None, [])))) whole)
    ∙ sym (upto_list (free_in cache) (zip s.slabs s.frees) (None, []))

-- ---- with a worker or on the board

-- a slab of another cache or of this one, by its cache
kind : (cache other : ℕ) (o : Option Slab) → MatchOption o ⊥ (λ slab. slab.cache ≡ other) → is_slab_of cache o ≡ (other == cache)
kind cache other None none = absurd none
kind cache other (Some slab) is = ap (λ (x : ℕ). x == cache) is

here_one : (frame index : ℕ) (held : Held) → held.frame ≡ frame → held.index ≡ index → held_here frame index (Some held) ≡ suc zero
here_one frame index held e f = grind (arith, eq-eqb held.frame frame e, eq-eqb held.index index f)

frame_apart : (frame index : ℕ) (held : Held) → (frame ≡ held.frame → ⊥) → held_here frame index (Some held) ≡ 0
frame_apart frame index held other = grind (arith, ne_eqb held.frame frame (λ (e : held.frame ≡ frame). other (sym e)))

index_apart : (frame index : ℕ) (held : Held) → held.frame ≡ frame → (index ≡ held.index → ⊥) → held_here frame index (Some held) ≡ 0
index_apart frame index held e other = grind (arith, eq-eqb held.frame frame e, ne_eqb held.index index (λ (f : held.index ≡ index). other (sym f)))

held_share : (s : State) (cache k : ℕ) (o : Option Held) → AreBelow s k → IfSome o (λ held. MatchOption (slab_of s held.frame) ⊥ (λ slab. slab.cache ≡ held.cache))
    → ((f i : ℕ) → held_here f i o ≤ has_object i (slab_of s f)) → of_cache s cache k (λ f i. held_here f i o) ≡ held_of cache o
held_share s cache k None below there le = over_none (λ f. is_slab_of cache (slab_of s f)) (length s.slabs) k (λ f i. 0) (λ f i within mine. refl)
held_share s cache k (Some held) below there le =
    let one : held_here held.frame held.index (Some held) ≡ suc zero = here_one held.frame held.index held refl refl in
    let counted : held_here held.frame held.index (Some held) ≤ has_object held.index (slab_of s held.frame) = le held.frame held.index in
    let index_below : held.index < k =
    elim (cases_lt held.index k) [
      | inl here ↦ here
      | inr past ↦ let none = below held.frame held.index past in absurd (omega (arith, one, counted, none))
    ] in
    let frame_below : held.frame < length s.slabs =
    elim (cases_lt held.frame (length s.slabs)) [
      | inl here ↦ here
      | inr past ↦
          let none : has_object held.index (slab_of s held.frame) ≡ 0 = ap (has_object held.index) (get_or-eq_default s.slabs None past) in
          absurd (omega (arith, one, counted, none))
    ] in
    over_one (λ f. is_slab_of cache (slab_of s f)) (length s.slabs) k held.frame (λ f i. held_here f i (Some held)) frame_below (λ f i other. frame_apart f i held other)
    ∙ share_same (is_slab_of cache (slab_of s held.frame)) (upto (λ i. held_here held.frame i (Some held)) k) (suc zero)
    (λ mine. upto_one (λ i. held_here held.frame i (Some held)) k held.index index_below (λ i inside other. index_apart held.frame i held refl other) ∙ one)
    ∙ share_test (is_slab_of cache (slab_of s held.frame)) (held.cache == cache) (suc zero) (kind cache held.cache (slab_of s held.frame) there)

pub held_of_cache : (s : State) (cache k : ℕ) → AreBelow s k
    → ((object : ℕ) → IfSome (get_or s.board object None) (λ held. MatchOption (slab_of s held.frame) ⊥ (λ slab. slab.cache ≡ held.cache)))
    → ((f i : ℕ) → sum_by (held_here f i) s.board ≤ has_object i (slab_of s f)) → of_cache s cache k (λ f i. sum_by (held_here f i) s.board) ≡ sum_by (held_of cache) s.board
held_of_cache s cache k below there le =
    over_sum_by (λ f. is_slab_of cache (slab_of s f)) (length s.slabs) k held_here s.board
    ∙ upto_list (λ h. of_cache s cache k (λ f i. held_here f i h)) s.board None
    ∙ upto_same (λ p. of_cache s cache k (λ f i. held_here f i (get_or s.board p None))) (λ p. held_of cache (get_or s.board p None)) (length s.board)
    (λ p within. held_share s cache k (get_or s.board p None) below (there p) (λ f i. let part = get_or-le (held_here f i) s.board None p refl in let all = le f i in omega (arith, part, all)))
    ∙ sym (upto_list (held_of cache) s.board None)

-- ---- on the CPUs' freelists

-- what is on the freelist of a current slab, by its cache
current_kind : (cache other : ℕ) (o : Option Slab) (x : ℕ) → IfSome o (λ slab. slab.cache ≡ other) → (o ≡ None → x ≡ 0) → (if is_slab_of cache o then x else 0) ≡ (if other == cache then x else 0)
current_kind cache other None x is none = sym (share_none (other == cache) x (λ mine. none refl))
current_kind cache other (Some slab) x is none = share_test (slab.cache == cache) (other == cache) x (ap (λ (y : ℕ). y == cache) is)

current_share : (s : State) (cache k other : ℕ) (current : Option ℕ) (free : List ℕ) → AreBelow s k → (current ≡ None → free ≡ [])
    → ((frame : ℕ) → current ≡ Some frame → IfSome (slab_of s frame) (λ slab. slab.cache ≡ other)) → ((f i : ℕ) → if_current f (times i free) current ≤ has_object i (slab_of s f))
    → of_cache s cache k (λ f i. if_current f (times i free) current) ≡ (if other == cache then length free else 0)
current_share s cache k other None free below bare is le =
    over_none (λ f. is_slab_of cache (slab_of s f)) (length s.slabs) k (λ f i. 0) (λ f i within mine. refl)
    ∙ sym (share_none (other == cache) (length free) (λ mine. ap (length {A = ℕ}) (bare refl)))
current_share s cache k other (Some frame) free below bare is le =
    let counted : (i : ℕ) → times i free ≤ has_object i (slab_of s frame) = (λ (i : ℕ). let here = share_here frame (times i free) in let all = le frame i in omega (arith, here, all)) in
    let few : (i : ℕ) → k ≤ i → times i free ≡ 0 = (λ (i : ℕ) (past : k ≤ i). let all = counted i in let none = below frame i past in omega (arith, all, none)) in
    let absent : slab_of s frame ≡ None → length free ≡ 0 =
    (λ (gone : slab_of s frame ≡ None). sym (upto_times free 0 (λ i past. let all = counted i in let none : has_object i (slab_of s frame) ≡ 0 = ap (has_object i) gone in omega (arith, all, none)))) in
    let by_cache = current_kind cache other (slab_of s frame) (length free) (is frame refl) absent in
    let apart : (f i : ℕ) → (f ≡ frame → ⊥) → (if frame == f then times i free else 0) ≡ 0 = (λ (f i : ℕ) (far : f ≡ frame → ⊥). share_there frame f (times i free) (λ (e : frame ≡ f). far (sym e))) in
    elim (cases_lt frame (length s.slabs)) [
      | inl here ↦
          over_one (λ f. is_slab_of cache (slab_of s f)) (length s.slabs) k frame (λ f i. if frame == f then times i free else 0) here apart
          ∙ share_same (is_slab_of cache (slab_of s frame)) (upto (λ i. if frame == frame then times i free else 0) k) (length free)
          (λ mine. upto_same (λ i. if frame == frame then times i free else 0) (λ i. times i free) k (λ i within. share_here frame (times i free)) ∙ upto_times free k few)
          ∙ by_cache
      | inr past ↦
          over_none (λ f. is_slab_of cache (slab_of s f)) (length s.slabs) k (λ f i. if frame == f then times i free else 0) (λ f i within mine. apart f i (λ (e : f ≡ frame). omega arith))
          ∙ sym (share_none (is_slab_of cache (slab_of s frame)) (length free) (λ mine. absent (get_or-eq_default s.slabs None past)))
          ∙ by_cache
    ]

-- of the CPUs' freelists those of the cache count
pub current_of_cache : (s : State) (cache k : ℕ) → AreBelow s k → cache < 32 → length s.cpu_lists ≡ 32 * s.cpus
    → ((p : ℕ) → (get_or s.cpu_lists p no_lists).current ≡ None → (get_or s.cpu_lists p no_lists).free ≡ [])
    → ((other cpu frame : ℕ) → cpu < s.cpus → (lists_of s other cpu).current ≡ Some frame → IfSome (slab_of s frame) (λ slab. slab.cache ≡ other))
    → ((f i : ℕ) → sum_by (on_cpu f i) s.cpu_lists ≤ has_object i (slab_of s f))
    → of_cache s cache k (λ f i. sum_by (on_cpu f i) s.cpu_lists) ≡ upto (λ cpu. length (lists_of s cache cpu).free) s.cpus
current_of_cache s cache k below live long bare is le =
    let each = (λ (p : ℕ). of_cache s cache k (λ f i. on_cpu f i (get_or s.cpu_lists p no_lists))) in
    let share : (other cpu : ℕ) → cpu < s.cpus → each (other * s.cpus + cpu) ≡ (if other == cache then length (lists_of s other cpu).free else 0) =
    (λ (other cpu : ℕ) (within : cpu < s.cpus).
    current_share s cache k other (lists_of s other cpu).current (lists_of s other cpu).free below (bare (other * s.cpus + cpu)) (λ frame now. is other cpu frame within now)
    (λ f i. let part = get_or-le (on_cpu f i) s.cpu_lists no_lists (other * s.cpus + cpu) refl in let all = le f i in omega (arith, part, all))) in
    over_sum_by (λ f. is_slab_of cache (slab_of s f)) (length s.slabs) k on_cpu s.cpu_lists
    ∙ upto_list (λ l. of_cache s cache k (λ f i. on_cpu f i l)) s.cpu_lists no_lists
    ∙ ap (upto each) long
    ∙ upto_row each (λ cpu. length (lists_of s cache cpu).free) 32 s.cpus cache live
    (λ other cpu within far. share other cpu within ∙ share_test (other == cache) false (length (lists_of s other cpu).free) (ne_eqb other cache far))
    (λ cpu within. share cache cpu within ∙ share_here cache (length (lists_of s cache cpu).free))

-- those stand one after the other
pub free_of_cpus : (s : State) (cache : ℕ) → cache < 32 → length s.cpu_lists ≡ 32 * s.cpus
    → sum_by (λ lists. length lists.free) (slice_range s.cpu_lists (cache * s.cpus) ((cache + 1) * s.cpus)) ≡ upto (λ cpu. length (lists_of s cache cpu).free) s.cpus
free_of_cpus s cache live long =
    let last : cache + 1 ≤ 32 = omega arith in
    let rows = mul-le-mul_left s.cpus last in
    upto_part (λ (lists : CpuLists). length lists.free) s.cpu_lists no_lists (cache * s.cpus) ((cache + 1) * s.cpus) s.cpus (omega arith) (omega (arith, rows, long))

-- ---- free or set aside in a checked slab

-- a checked cache has no slab where a slab of another cache is
elsewhere : (cache other : ℕ) (o : Option Slab) (slot : Option SlabState) → (other ≡ cache → ⊥) → is_slab_of cache o ≡ true → Agrees other o (option_map shape_of slot) → slot ≡ None
elsewhere cache other None slot far mine agrees = absurd (cc)
elsewhere cache other (Some slab) None far mine agrees = refl
elsewhere cache other (Some slab) (Some state) far mine agrees = absurd (far (sym agrees.0 ∙ eqb-true slab.cache cache mine))

idle_nowhere : (slabs : CheckedState) (f i : ℕ) → get_or slabs.slabs f None ≡ None → idle slabs f i ≡ 0
idle_nowhere slabs f i none = ap (λ (o : Option SlabState). if is_idle (slice_get (unwrap_or o no_slab).states i) then 1 else 0) none

idle_elsewhere : (s : State) (cache k other : ℕ) (o : Option CheckedState) → (other ≡ cache → ⊥) → IfSome o (IsCheckedOf s other) → of_cache s cache k (λ f i. idle_in f i o) ≡ 0
idle_elsewhere s cache k other None far is = over_none (λ f. is_slab_of cache (slab_of s f)) (length s.slabs) k (λ f i. 0) (λ f i within mine. refl)
idle_elsewhere s cache k other (Some slabs) far is =
    over_none (λ f. is_slab_of cache (slab_of s f)) (length s.slabs) k (idle slabs)
    (λ f i within mine. idle_nowhere slabs f i (elsewhere cache other (slab_of s f) (get_or slabs.slabs f None) far mine (is.agrees f)))

pub idle_of_cache : (s : State) (cache k : ℕ) → cache < length s.checked → ((other : ℕ) → IfSome (checked_of s other) (IsCheckedOf s other))
    → of_cache s cache k (λ f i. sum_by (idle_in f i) s.checked) ≡ of_cache s cache k (λ f i. idle_in f i (checked_of s cache))
idle_of_cache s cache k live those =
    over_sum_by (λ f. is_slab_of cache (slab_of s f)) (length s.slabs) k idle_in s.checked
    ∙ upto_list (λ o. of_cache s cache k (λ f i. idle_in f i o)) s.checked None
    ∙ upto_one (λ p. of_cache s cache k (λ f i. idle_in f i (get_or s.checked p None))) (length s.checked) cache live
    (λ p within far. idle_elsewhere s cache k p (checked_of s p) far (those p))

-- 1 where the object is free or set aside
abbrev one_idle : ObjectState → ℕ
one_idle state = if is_idle (Some state) then 1 else 0

one_count : (state : ObjectState) → one_idle state ≡ (if is_free state then 1 else 0) + (if is_aside state then 1 else 0)
one_count Free = refl
one_count Used = refl
one_count Aside = refl

both_counts : (states : List ObjectState) → sum_by one_idle states ≡ count_by is_free states + count_by is_aside states
both_counts [] = refl
both_counts (state ∷ states) =
    let rest = both_counts states in
    let all = sum_by-cons one_idle state states in
    let free = sum_by-cons (λ (state : ObjectState). if is_free state then 1 else 0) state states in
    let aside = sum_by-cons (λ (state : ObjectState). if is_aside state then 1 else 0) state states in
    let one : one_idle state ≡ (if is_free state then 1 else 0) + (if is_aside state then 1 else 0) = one_count state in
    omega (arith, rest, all, free, aside, one)

idle_at : (states : List ObjectState) (i : ℕ) → (if is_idle (slice_get states i) then 1 else 0) ≡ one_idle (get_or states i Used)
idle_at states i =
    elim (cases_lt i (length states)) [
      | inl here ↦ ap (λ (o : Option ObjectState). if is_idle o then 1 else 0) (slice_get-get_or states i Used here)
      | inr past ↦ ap (λ (o : Option ObjectState). if is_idle o then 1 else 0) (slice_get_past states i past) ∙ sym (ap one_idle (get_or-eq_default states Used past))
    ]

-- the free objects and those set aside of a slab
idle_of_slab : (states : List ObjectState) (k : ℕ) → length states ≤ k → upto (λ i. if is_idle (slice_get states i) then 1 else 0) k ≡ count_by is_free states + count_by is_aside states
idle_of_slab states k few =
    upto_same (λ i. if is_idle (slice_get states i) then 1 else 0) (λ i. one_idle (get_or states i Used)) k (λ i within. idle_at states i)
    ∙ upto_list_past one_idle states Used k refl few
    ∙ both_counts states

-- those of the slab at a frame, if there is one
abbrev idle_count : Option SlabState → ℕ
idle_count slot = checked_free (unwrap_or slot no_slab) + aside_in (unwrap_or slot no_slab)

idle_share : (cache k : ℕ) (o : Option Slab) (slot : Option SlabState) → has_object k o ≡ 0 → Agrees cache o (option_map shape_of slot)
    → (if is_slab_of cache o then upto (λ i. if is_idle (slice_get (unwrap_or slot no_slab).states i) then 1 else 0) k else 0) ≡ idle_count slot
idle_share cache k None None none agrees = refl
idle_share cache k None (Some state) none agrees = absurd agrees
idle_share cache k (Some slab) None none agrees =
    share_test (slab.cache == cache) false (upto (λ i. 0) k) (ne_eqb slab.cache cache agrees)
idle_share cache k (Some slab) (Some state) none agrees =
    let few = past_none k slab.objects none in
    share_test (slab.cache == cache) true (upto (λ i. if is_idle (slice_get state.states i) then 1 else 0) k) (eq-eqb slab.cache cache agrees.0)
    ∙ idle_of_slab state.states k (omega (arith, few, agrees.2))

-- past the last frame a checked cache has no slab
no_slot : (cache : ℕ) (slot : Option SlabState) → Agrees cache None (option_map shape_of slot) → slot ≡ None
no_slot cache None agrees = refl
no_slot cache (Some state) agrees = absurd agrees

counts_apart : (slots : List (Option SlabState)) → sum_by idle_count slots ≡ sum_by (λ slot. checked_free (unwrap_or slot no_slab)) slots + sum_by (λ slot. aside_in (unwrap_or slot no_slab)) slots
counts_apart [] = refl
counts_apart (slot ∷ slots) =
    let rest = counts_apart slots in
    let all = sum_by-cons idle_count slot slots in
    let free = sum_by-cons (λ (slot : Option SlabState). checked_free (unwrap_or slot no_slab)) slot slots in
    let aside = sum_by-cons (λ (slot : Option SlabState). aside_in (unwrap_or slot no_slab)) slot slots in
    omega (arith, rest, all, free, aside)

pub idle_of_checked : (s : State) (cache k : ℕ) (slabs : CheckedState) → AreBelow s k → length s.slabs ≤ length slabs.slabs → ((f : ℕ) → Agrees cache (slab_of s f) (shape_at slabs f))
    → of_cache s cache k (idle slabs) ≡ free_count slabs + aside_count slabs
idle_of_checked s cache k slabs below frames agrees =
    let past : (f : ℕ) → length s.slabs ≤ f → idle_count (get_or slabs.slabs f None) ≡ 0 =
    (λ (f : ℕ) (beyond : length s.slabs ≤ f).
    let gone : Agrees cache None (shape_at slabs f) = subst (λ (o : Option Slab). Agrees cache o (shape_at slabs f)) (get_or-eq_default s.slabs None beyond) (agrees f) in
    ap idle_count (no_slot cache (get_or slabs.slabs f None) gone)) in
    upto_same (λ f. if is_slab_of cache (slab_of s f) then upto (idle slabs f) k else 0) (λ f. idle_count (get_or slabs.slabs f None)) (length s.slabs)
    (λ f within. idle_share cache k (slab_of s f) (get_or slabs.slabs f None) (below f k (omega arith)) (agrees f))
    ∙ sym (upto_more (λ f. idle_count (get_or slabs.slabs f None)) (length s.slabs) (length slabs.slabs) frames past)
    ∙ sym (upto_list idle_count slabs.slabs None)
    ∙ counts_apart slabs.slabs
