-- How many objects can be held or set aside.
use Rattle.std.proofs.Common.{◌≡◌, ℕ, zero, suc, ◌+◌, ◌*◌, ◌<◌, ◌≤◌, List, [], ◌∷◌, length, get_or, sum_by, Option, Some, None, is_some, IfSome, inl, inr, refl, ap, arith}
use Rattle.std.specs.Option.{unwrap_or}
use Rattle.std.proofs.lemmas.List.Sums.{sum_by-cons, count_by-le-length}
use Rattle.std.proofs.lemmas.Bool.{cases_eq}
use Rattle.std.proofs.lemmas.Bool.Decides.{nat_tests}
use Rattle.slub_red_zone.specs.State.{CheckedState, SlabState, no_slab, aside_in, aside_count, is_aside}
use Rattle.slub_red_zone.specs.Sound.{IsSlab, IsSound}
use Rattle.slub_lists.specs.declared.lists.Slab.{Slab}
use Rattle.slub_lists.specs.declared.lists.Held.{Held}
use Rattle.slub_lists.specs.State.{State}
use Rattle.slub_lists.specs.Alloc.{held_here, slab_of}
use Rattle.slub_lists.specs.Coherent.{IsCoherent, has_object, held_of, held_under}
use Rattle.slub_common.proofs.Sums.{element-counted}
use Rattle.slub_lists.proofs.CheckedGiving.{one-object}
use Rattle.slub_lists.proofs.Coherence.{live-inside}
use Rattle.slub_lists.proofs.Discarding.{slab-bounds}

-- ---- sums over the numbers below another

below : ℕ → (ℕ → ℕ) → ℕ
below zero g = 0
below (suc n) g = below n g + g n

below-most : (n k : ℕ) (g : ℕ → ℕ) → ((i : ℕ) → g i ≤ k) → below n g ≤ n * k
unfolding below
below-most zero k g most = omega arith
below-most (suc n) k g most = omega (arith, below-most n k g most, most n)

below-add : (n : ℕ) (a b c : ℕ → ℕ) → ((i : ℕ) → a i + b i ≤ c i) → below n a + below n b ≤ below n c
unfolding below
below-add zero a b c less = omega arith
below-add (suc n) a b c less = omega (arith, below-add n a b c less, less n)

below-at : (n i : ℕ) (g : ℕ → ℕ) → i < n → g i ≤ below n g
unfolding below
below-at zero i g inside = absurd (omega arith)
below-at (suc n) i g inside =
    elim (cases_eq i n) [
      | inl e ↦ omega (arith, ap g e)
      | inr ne ↦ omega (arith, below-at n i g (omega arith))
    ]

-- ---- held objects stand at different places

-- how many objects stand at one of these places
places-of : ℕ → ℕ → List (Option Held) → ℕ
places-of n m board = below n (λ f. below m (λ i. sum_by (held_here f i) board))

one-place : (cache n m : ℕ) (x : Option Held) → IfSome x (λ held. (held.frame < n) × (held.index < m)) → held_of cache x ≤ below n (λ f. below m (λ i. held_here f i x))
one-place cache n m None inside = omega arith
one-place cache n m (Some held) inside =
    let here : held_here held.frame held.index (Some held) ≡ 1 = grind (arith, nat_tests) in
    let row = below-at m held.index (λ i. held_here held.frame i (Some held)) inside.1 in
    let all = below-at n held.frame (λ f. below m (λ i. held_here f i (Some held))) inside.0 in
    let most = at-most (held.cache) in
    omega (arith, here, row, all, most)
  where
    at-most : (c : ℕ) → held_of cache (Some held) ≤ 1
    at-most c = grind (arith, nat_tests)

held-places : (cache n m : ℕ) (board : List (Option Held)) → ((o : ℕ) → IfSome (get_or board o None) (λ held. (held.frame < n) × (held.index < m))) → sum_by (held_of cache) board ≤ places-of n m board
unfolding places-of
held-places cache n m [] inside = omega arith
held-places cache n m (x ∷ xs) inside =
    let first = one-place cache n m x (inside 0) in
    let others = held-places cache n m xs (λ o. inside (suc o)) in
    let both = below-add n (λ f. below m (λ i. held_here f i x)) (λ f. below m (λ i. sum_by (held_here f i) xs)) (λ f. below m (λ i. sum_by (held_here f i) (x ∷ xs)))
    (λ f. below-add m (λ i. held_here f i x) (λ i. sum_by (held_here f i) xs) (λ i. sum_by (held_here f i) (x ∷ xs)) (λ i. omega (arith, sum_by-cons (held_here f i) x xs))) in
    omega (arith, first, others, both, sum_by-cons (held_of cache) x xs)

held-most : (cache n m : ℕ) (board : List (Option Held)) → ((o : ℕ) → IfSome (get_or board o None) (λ held. (held.frame < n) × (held.index < m))) → ((f i : ℕ) → sum_by (held_here f i) board ≤ 1) → sum_by (held_of cache) board ≤ n * (m * 1)
unfolding places-of
held-most cache n m board inside once =
    let all = below-most n (m * 1) (λ f. below m (λ i. sum_by (held_here f i) board)) (λ f. below-most m 1 (λ i. sum_by (held_here f i) board) (once f)) in
    omega (arith, held-places cache n m board inside, all)

-- ---- of a machine

module _ (s : State) (coherent : IsCoherent s) where
  once : (f i : ℕ) → sum_by (held_here f i) s.board ≤ 1
  once f i = omega (arith, coherent.placed f i, one-object i (slab_of s f))

  held-inside : (o : ℕ) (x : Option Held) → held_under s o ≡ x → IfSome x (λ held. (held.frame < 4096) × (held.index < 512))
  held-inside o None is = tt
  held-inside o (Some held) is = by (slab_of s held.frame) refl
    where
      counted : 0 < has_object held.index (slab_of s held.frame)
      counted =
          let here : held_here held.frame held.index (Some held) ≡ 1 = grind (arith, nat_tests) in
          omega (arith, here, ap (held_here held.frame held.index) is, element-counted (held_here held.frame held.index) s.board o None refl, coherent.placed held.frame held.index)

      by : (x : Option Slab) → slab_of s held.frame ≡ x → (held.frame < 4096) × (held.index < 512)
      by None at = absurd (let none : has_object held.index (slab_of s held.frame) ≡ 0 = ap (has_object held.index) at in omega (arith, counted, none))
      by (Some slab) at =
          let object : has_object held.index (slab_of s held.frame) ≡ has_object held.index (Some slab) = ap (has_object held.index) at in
          let some = counted in
          let inside : held.index < slab.objects = grind (arith, nat_tests, object, some) in
          (omega (arith, live-inside s.slabs held.frame (ap is_some at), coherent.shaped.slabs, coherent.shaped.frames.1), omega (arith, inside, (slab-bounds s held.frame slab coherent.shaped at).1))

  pub live-most : (cache : ℕ) → get_or s.live cache 0 ≤ 2097152
  live-most cache = omega (arith, coherent.accounted cache, held-most cache 4096 512 s.board (λ o. held-inside o (held_under s o) refl) once)

-- ---- of a checked cache

sum-most : {X : Type 0} (g : X → ℕ) (xs : List X) (d : X) (k : ℕ) → ((i : ℕ) → g (get_or xs i d) ≤ k) → sum_by g xs ≤ length xs * k
sum-most g [] d k most = omega arith
sum-most g (x ∷ xs) d k most = omega (arith, sum_by-cons g x xs, most 0, sum-most g xs d k (λ i. most (suc i)))

pub aside-most : (slabs : CheckedState) → IsSound slabs → aside_count slabs ≤ 2097152
aside-most slabs sound =
    omega (arith, sum-most (λ (slab : Option SlabState). aside_in (unwrap_or slab no_slab)) slabs.slabs None 512 (λ f. one (get_or slabs.slabs f None) (sound.slab f)), sound.frames)
  where
    one : (x : Option SlabState) → IfSome x (IsSlab slabs.layout) → aside_in (unwrap_or x no_slab) ≤ 512
    one None h = omega arith
    one (Some st) h =
        let most = count_by-le-length is_aside st.states in
        let bounds = sound.layout.bounds in
        elim h.sized [
          | inl wide ↦ omega (arith, most, wide.1, bounds.objects.1)
          | inr least ↦ omega (arith, most, least.1, bounds.min_objects_slab.1, bounds.objects.1)
        ]
