-- What one item has of what all items of a trace have.
use Rattle.std.proofs.Common.{◌≡◌, ℕ, zero, suc, ◌^◌, ◌≤◌, eqb, false, List, [], ◌∷◌, length, flat_map, slice_get, refl, ap, subst, arith, nat_eq, Option, Some, None}
use Rattle.std.specs.List.{AllByRecursion, IsDistinct}
use Rattle.std.proofs.lemmas.Bool.Decides.{nat_tests}
use Rattle.std.proofs.lemmas.List.{length-append}
use Rattle.std.proofs.lemmas.Map.Keys.{IsDistinct-cons}
use Rattle.std.proofs.lemmas.Option.{get_or_from_slice_get, slice_get_within}
use Rattle.slub_common.specs.Times.{times}
use Rattle.slub_common.proofs.Times.{times-append, times-cons, times-cons_same}
use Rattle.slub_trace.specs.declared.event.Round.{Round}
use Rattle.slub_law_rounds.proofs.Times.{once_times}
use Rattle.slub_trace.specs.declared.trace.Item.{Item}
use Rattle.slub_trace.specs.declared.trace.Item.TheVariants as item
use Rattle.slub_trace.specs.declared.trace.Trace.{Trace}
use Rattle.slub_trace.specs.Sound.{IsSound, IsSoundItem, IsSoundRound, events_in, objects_in, objects_of}
use Rattle.slub_tries.specs.Fresh.{IsRoundOf}

-- ---- different numbers

differ-of : (x : ℕ) (ys : List ℕ) → times x ys ≡ 0 → AllByRecursion (λ y. eqb x y ≡ false) ys
differ-of x [] none = tt
differ-of x (y ∷ ys) none =
    let split = times-cons x y ys in
    (grind (arith, nat_tests, split, none), differ-of x ys (omega (arith, split, none)))

none-distinct : IsDistinct nat_eq []
unfolding IsDistinct
none-distinct = tt

-- numbers that stand once at most
distinct-of : (xs : List ℕ) → ((x : ℕ) → times x xs ≤ 1) → IsDistinct nat_eq xs
distinct-of [] once = none-distinct
distinct-of (x ∷ xs) once =
    IsDistinct-cons nat_eq x xs (differ-of x xs (let none : times x xs ≡ 0 = omega (arith, once x, times-cons_same x x xs refl) in none))
    (distinct-of xs (λ y. omega (arith, once y, times-cons y x xs)))

-- ---- one item among all

no-item : {it : Item} → ◌≡◌ {A = Option Item} None (Some it) → ⊥
no-item is = let never : ⊥ = cc in never

times-item : (items : List Item) (number : ℕ) (it : Item) (object : ℕ) → slice_get items number ≡ Some it → times object (objects_in it) ≤ times object (flat_map objects_in items)
times-item [] number it object found = absurd (no-item found)
times-item (first ∷ items) zero it object found =
    let same : first ≡ it = cc in
    let here : times object (objects_in first) ≡ times object (objects_in it) = ap (λ (i : Item). times object (objects_in i)) same in
    omega (arith, here, times-append object (objects_in first) (flat_map objects_in items))
times-item (first ∷ items) (suc number) it object found =
    omega (arith, times-item items number it object found, times-append object (objects_in first) (flat_map objects_in items))

length-item : (items : List Item) (number : ℕ) (it : Item) → slice_get items number ≡ Some it → length (events_in it) ≤ length (flat_map events_in items)
length-item [] number it found = absurd (no-item found)
length-item (first ∷ items) zero it found =
    let same : first ≡ it = cc in
    let here : length (events_in first) ≡ length (events_in it) = ap (λ (i : Item). length (events_in i)) same in
    omega (arith, here, length-append (events_in first) (flat_map events_in items))
length-item (first ∷ items) (suc number) it found =
    omega (arith, length-item items number it found, length-append (events_in first) (flat_map events_in items))

-- ---- a round of a sound trace

module _ (trace : Trace) (round : Round) (sound : IsSound trace) (is : IsRoundOf trace round) where
  pub round-sound : IsSoundRound trace round
  round-sound =
      let it = item.Round round in
      subst (IsSoundItem trace) (get_or_from_slice_get trace.items is.0 it it is.1) (sound.items is.0 it (slice_get_within trace.items is.0 it is.1))

  pub round-distinct : IsDistinct nat_eq (objects_of round.events)
  round-distinct = distinct-of (objects_of round.events) (λ object.
      omega (arith, times-item trace.items is.0 (item.Round round) object is.1, once_times object (flat_map objects_in trace.items) sound.distinct))

  pub round-brief : length round.events ≤ 2 ^ 32
  round-brief = omega (arith, length-item trace.items is.0 (item.Round round) is.1, sound.brief)
