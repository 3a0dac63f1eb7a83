-- Nothing of a cache is held, no CPU has anything of it, and its node list is swept: then no slab of it is left.
use Rattle.std.proofs.Common.{◌≡◌, ◌≢◌, ℕ, zero, suc, ◌+◌, ◌-◌, ◌/◌, ◌%◌, ◌<◌, ◌≤◌, false, cond, eqb, List, [], ◌∷◌, length, get_or, filter, sum_by, count_by, Option, Some, None, IfSome, inl, inr, refl, ap, sym, ◌∙◌, subst, arith}
use Rattle.std.specs.Prelude.{not, slice_get}
use Rattle.std.specs.Option.{option_map, option_map_or, unwrap_or}
use Rattle.std.proofs.Math.Nat.{mod-lt}
use Rattle.std.proofs.lemmas.Nat.{div-add-mod'}
use Rattle.std.proofs.lemmas.List.Sums.{sum_by-cons, length-filter}
use Rattle.std.proofs.lemmas.List.Filters.{length-filter_both}
use Rattle.std.proofs.lemmas.Bool.{cases_eq}
use Rattle.std.proofs.lemmas.Bool.Decides.{nat_tests}
use Rattle.slub_common.specs.Times.{times}
use Rattle.slub_red_zone.specs.State.{CheckedState, SlabState, no_slab}
use Rattle.slub_red_zone.specs.Objects.{idle, is_idle, shape_at, shape_of}
use Rattle.slub_lists.specs.declared.lists.Slab.{Slab}
use Rattle.slub_lists.specs.declared.lists.CpuLists.{CpuLists}
use Rattle.slub_lists.specs.declared.lists.Held.{Held}
use Rattle.slub_lists.specs.State.{State}
use Rattle.slub_lists.specs.Alloc.{checked_of, held_here, lists_of, no_lists, node_of, own_free, slab_of}
use Rattle.slub_lists.specs.Coherent.{Agrees, IsCheckedOf, IsCoherent, has_object, held_of, held_under, idle_in, if_current, on_cpu, times_current}
use Rattle.slub_lists.specs.Free.{inuse_of}
use Rattle.slub_lists.specs.Shrink.{has_slab, is_slab_of}
use Rattle.slub_lists.specs.Shrinking.{IsSwept}
use Rattle.slub_common.proofs.Sums.{element-counted}
use Rattle.slub_common.proofs.Times.{times-filter_pass}
use Rattle.slub_lists.proofs.Shaped.{IsLiveOf}
use Rattle.slub_lists.proofs.Discarding.{slab-bounds}

-- ---- sums of nothing

-- a sum of which each term is nothing
pub sum-none : {X : Type 0} (g : X → ℕ) (xs : List X) (d : X) → ((i : ℕ) → i < length xs → g (get_or xs i d) ≡ 0) → sum_by g xs ≡ 0
sum-none g [] d none = refl
sum-none g (x ∷ xs) d none = omega (arith, sum_by-cons g x xs, none 0 (omega arith), sum-none g xs d (λ i below. none (suc i) (omega arith)))

-- a list in which each of so many numbers stands is as long
pub all-length : (n : ℕ) (xs : List ℕ) → ((i : ℕ) → i < n → 0 < times i xs) → n ≤ length xs
all-length zero xs all = omega arith
all-length (suc n) xs all =
    let both : length (filter (λ x. eqb x n) xs) + length (filter (λ x. not (eqb x n)) xs) ≡ length xs = length-filter_both (λ x. eqb x n) (λ x. not (eqb x n)) (λ x. refl) xs in
    let here : length (filter (λ x. eqb x n) xs) ≡ times n xs = length-filter (λ x. eqb x n) xs in
    let rest = all-length n (filter (λ x. not (eqb x n)) xs)
    (λ i below.
    let stays = times-filter_pass i (λ x. not (eqb x n)) xs (grind (arith, nat_tests, below)) in
    omega (arith, stays, all i (omega arith))) in
    omega (arith, both, here, rest, all n (omega arith))

-- no slab of a cache is there where no frame has one
no-slab : (cache : ℕ) (xs : List (Option Slab)) → ((f : ℕ) → is_slab_of cache (get_or xs f None) ≡ false) → count_by (is_slab_of cache) xs ≡ 0
no-slab cache xs none = sum-none (λ x. cond (is_slab_of cache x) 1 0) xs None (λ i below. ap (λ b. cond b 1 0) (none i))

pub no-slabs : (s : State) (cache : ℕ) → ((f : ℕ) → is_slab_of cache (slab_of s f) ≡ false) → has_slab s cache ≡ false
no-slabs s cache none = let e = no-slab cache s.slabs none in grind (arith, nat_tests, e)

-- ---- a slab of which nothing is held

-- a slab that a checked cache hasn't has no object there
pub idle-none : (slabs : CheckedState) (frame index : ℕ) → shape_at slabs frame ≡ None → idle slabs frame index ≡ 0
idle-none slabs frame index none = by (get_or slabs.slabs frame None) none
  where
    by : (x : Option SlabState) → option_map shape_of x ≡ None → ◌≡◌ {A = ℕ} (cond (is_idle (slice_get (unwrap_or x no_slab).states index)) 1 0) 0
    by None e = refl
    by (Some slab) e = cc

-- an object of the frame is one of the cache
held-one : (frame index cache : ℕ) (x : Option Held) → IfSome x (λ held. held.frame ≡ frame → held.cache ≡ cache) → held_here frame index x ≤ held_of cache x
held-one frame index cache None of = omega arith
held-one frame index cache (Some held) of =
    elim (cases_eq held.frame frame) [
      | inl e ↦ let same = of e in grind (arith, nat_tests, same)
      | inr ne ↦ grind (arith, nat_tests, ne)
    ]

module _ (s : State) (cache frame : ℕ) (slab : Slab) (coherent : IsCoherent s) (is : slab_of s frame ≡ Some slab) (own : slab.cache ≡ cache) where
  -- the held objects of the frame are objects of the cache
  pub held-of-cache : (object : ℕ) (x : Option Held) → IfSome x (λ held. IsLiveOf held.cache (slab_of s held.frame)) → IfSome x (λ held. held.frame ≡ frame → held.cache ≡ cache)
  held-of-cache object None of = tt
  held-of-cache object (Some held) of = λ e.
      let there : IsLiveOf held.cache (Some slab) = subst (IsLiveOf held.cache) (ap (slab_of s) e ∙ is) of in
      sym there ∙ own

  -- none is held where none of the cache is
  pub none-held : get_or s.live cache 0 ≡ 0 → (index : ℕ) → sum_by (held_here frame index) s.board ≡ 0
  none-held free index =
      sum-none (held_here frame index) s.board None
      (λ object below.
      let one = held-one frame index cache (held_under s object) (held-of-cache object (held_under s object) (coherent.shaped.held object)) in
      omega (arith, one, element-counted (held_of cache) s.board object None refl, coherent.accounted cache, free))

-- ---- what a CPU has of another cache is no slab of this one

module _ (s : State) (cache frame : ℕ) (slab : Slab) (coherent : IsCoherent s) (is : slab_of s frame ≡ Some slab) (own : slab.cache ≡ cache) (bare : (cpu : ℕ) → cpu < s.cpus → lists_of s cache cpu ≡ no_lists) where
  -- a place of the CPUs' lists belongs to a cache and a CPU
  some_cpu : 0 < s.cpus
  some_cpu = omega (arith, coherent.shaped.cpus.0)

  of-place : (place : ℕ) → lists_of s (place / s.cpus) (place % s.cpus) ≡ get_or s.cpu_lists place no_lists
  of-place place = ap (λ n. get_or s.cpu_lists n no_lists) (div-add-mod' place s.cpus)

  -- where it is not current or listed for another cache, it is nowhere
  at-place : (P : CpuLists → Type 0) → P no_lists → ((other cpu : ℕ) → cpu < s.cpus → other ≢ cache → P (lists_of s other cpu)) → (place : ℕ) → P (get_or s.cpu_lists place no_lists)
  at-place P nothing elsewhere place =
      let within : place % s.cpus < s.cpus = mod-lt place some_cpu in
      subst P (of-place place)
      (elim (cases_eq (place / s.cpus) cache) [
        | inl e ↦ subst P (sym (ap (λ n. lists_of s n (place % s.cpus)) e ∙ bare (place % s.cpus) within)) nothing
        | inr ne ↦ elsewhere (place / s.cpus) (place % s.cpus) within ne
      ])

  -- a slab of another cache is another slab
  of-other : (other : ℕ) → other ≢ cache → IfSome (slab_of s frame) (λ slab. slab.cache ≡ other) → ⊥
  of-other other ne of =
      let there : IfSome (Some slab) (λ (slab : Slab). slab.cache ≡ other) = subst (λ (x : Option Slab). IfSome x (λ slab. slab.cache ≡ other)) is of in
      ne (sym there ∙ own)

  not-current : (other cpu n : ℕ) → cpu < s.cpus → other ≢ cache → (x : Option ℕ) → (lists_of s other cpu).current ≡ x → if_current frame n x ≡ 0
  not-current other cpu n within ne None current = refl
  not-current other cpu n within ne (Some f) current =
      elim (cases_eq f frame) [
        | inl e ↦ absurd (of-other other ne (coherent.listed.of_current other cpu frame within (current ∙ ap Some e)))
        | inr apart ↦ grind (arith, nat_tests, apart)
      ]

  pub current-nowhere : times_current s frame ≡ 0
  current-nowhere =
      sum-none (λ (lists : CpuLists). if_current frame 1 lists.current) s.cpu_lists no_lists
      (λ place below.
      at-place (λ lists. if_current frame 1 lists.current ≡ 0) refl (λ other cpu within ne. not-current other cpu 1 within ne (lists_of s other cpu).current refl) place)

  pub on-no-cpu : (index : ℕ) → sum_by (on_cpu frame index) s.cpu_lists ≡ 0
  on-no-cpu index =
      sum-none (on_cpu frame index) s.cpu_lists no_lists
      (λ place below.
      at-place (λ lists. on_cpu frame index lists ≡ 0) refl
      (λ other cpu within ne. not-current other cpu (times index (lists_of s other cpu).free) within ne (lists_of s other cpu).current refl) place)

  on-no-partial : sum_by (λ (lists : CpuLists). times frame lists.partial) s.cpu_lists ≡ 0
  on-no-partial =
      sum-none (λ (lists : CpuLists). times frame lists.partial) s.cpu_lists no_lists
      (λ place below.
      at-place (λ lists. times frame lists.partial ≡ 0) refl
      (λ other cpu within ne. elim (cases_eq (times frame (lists_of s other cpu).partial) 0) [
        | inl none ↦ none
        | inr some ↦ absurd (of-other other ne (coherent.listed.of_partial other cpu frame within (omega arith)))
      ]) place)

  -- so where it is on a list, it is on the node list of the cache
  pub on-node : times frame (node_of s cache) ≡ 0 → 0 < length (own_free s frame) → ⊥
  on-node absent stocked =
      let nodes : sum_by (times frame) s.nodes ≡ 0 = sum-none (times frame) s.nodes []
      (λ other below. elim (cases_eq other cache) [
        | inl e ↦ ap (λ n. times frame (node_of s n)) e ∙ absent
        | inr ne ↦ elim (cases_eq (times frame (node_of s other)) 0) [
          | inl none ↦ none
          | inr some ↦ absurd (of-other other ne (coherent.listed.of_node other frame (omega arith)))
        ]
      ]) in
      omega (arith, coherent.kept frame stocked, current-nowhere, on-no-partial, nodes)

  -- ---- a cache that is not checked

  module _ (unchecked : checked_of s cache ≡ None) (free : get_or s.live cache 0 ≡ 0) where
    idle-one : (index other : ℕ) (x : Option CheckedState) → checked_of s other ≡ x → IfSome x (IsCheckedOf s other) → idle_in frame index x ≡ 0
    idle-one index other None e of = refl
    idle-one index other (Some slabs) e of = idle-none slabs frame index (shape (shape_at slabs frame) (subst (λ (x : Option Slab). Agrees other x (shape_at slabs frame)) is (of.agrees frame)))
      where
        shape : (x : Option (ℕ × ℕ)) → Agrees other (Some slab) x → x ≡ None
        shape None agrees = refl
        shape (Some y) agrees = let same = ap (checked_of s) (sym agrees.0 ∙ own) in cc

    not-idle : (index : ℕ) → sum_by (idle_in frame index) s.checked ≡ 0
    not-idle index = sum-none (idle_in frame index) s.checked None (λ other below. idle-one index other (checked_of s other) refl (coherent.shaped.checked.those other))

    -- all of its objects are on its own freelist
    all-there : (index : ℕ) → times index (own_free s frame) ≡ has_object index (Some slab)
    all-there index =
        let object : has_object index (slab_of s frame) ≡ has_object index (Some slab) = ap (has_object index) is in
        omega (arith, coherent.placed frame index, object, none-held s cache frame slab coherent is own free index, on-no-cpu index, not-idle index)

    many : slab.objects ≤ length (own_free s frame)
    many = all-length slab.objects (own_free s frame) (λ i below. let all = all-there i in grind (arith, nat_tests, all, below))

    -- so nothing of it is in use, and it can't be on the node list
    pub impossible : IsSwept s cache → ⊥
    impossible swept =
        let objects : inuse_of s frame ≡ slab.objects - length (own_free s frame) = ap (λ (x : Option Slab). option_map_or (λ (slab : Slab). slab.objects) x 0 - length (own_free s frame)) is in
        let bounds = slab-bounds s frame slab coherent.shaped is in
        elim (cases_eq (times frame (node_of s cache)) 0) [
          | inl absent ↦ on-node absent (omega (arith, many, bounds.2))
          | inr there ↦ let used = swept.used frame (omega arith) in omega (arith, used, objects, many)
        ]

-- no slab of a cache is left that is swept, and of which nothing is held
pub unchecked-emptied : (s : State) (cache : ℕ) → IsCoherent s → checked_of s cache ≡ None → IsSwept s cache → get_or s.live cache 0 ≡ 0 → has_slab s cache ≡ false
unchecked-emptied s cache coherent unchecked swept free = no-slabs s cache (λ f. by f (slab_of s f) refl)
  where
    by : (f : ℕ) (x : Option Slab) → slab_of s f ≡ x → is_slab_of cache x ≡ false
    by f None is = refl
    by f (Some slab) is =
        elim (cases_eq slab.cache cache) [
          | inl e ↦ absurd (impossible s cache f slab coherent is e swept.bare unchecked free swept)
          | inr ne ↦ grind (arith, nat_tests, ne)
        ]
