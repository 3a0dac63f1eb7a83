-- Which frames come free where slabs of a cache go.
use Rattle.std.proofs.Common.{◌≡◌, ℕ, suc, ◌+◌, ◌^◌, ◌<◌, ◌≤◌, ◌&&◌, ◌⊎◌, true, false, List, [], ◌∷◌, get_or, Option, Some, None, Contains, inl, inr, refl, ap, sym, ◌∙◌, subst, arith, nat_lt, nat_le, cond, zero-add}
use Rattle.std.specs.Prelude.{if◌then◌else◌, count_by}
use Rattle.std.proofs.lemmas.Bool.{cases_Bool, cases_eq}
use Rattle.std.proofs.lemmas.Bool.Decides.{nat_tests}
use Rattle.slub_common.specs.Times.{times}
use Rattle.slub_common.proofs.Times.{Contains-times, times-contained}
use Rattle.slub_lists.specs.declared.lists.Slab.{Slab}
use Rattle.slub_lists.specs.State.{State}
use Rattle.slub_lists.specs.Alloc.{slab_of}
use Rattle.slub_lists.specs.Coherent.{IsCoherent, covered_from, covers}
use Rattle.slub_lists.specs.Leaving.{FreesAll, FreesLost, HasFrame, KeepsHeld, LeavesSlabs, StaysOrGoes}
use Rattle.slub_lists.specs.Shrink.{ShrinksByKind, ShrinksCache, busy_of, has_slab, is_slab_of}
use Rattle.slub_lists.proofs.Apart.{one-slab}
use Rattle.slub_common.proofs.Writes.{inside-of}
use Rattle.slub_lists.proofs.Framed.{covered-set, framed-most}
use Rattle.slub_lists.proofs.Kept.{consistent-of}
use Rattle.slub_common.proofs.Sums.{element-counted}

-- ---- a frame that is covered is one of a slab

-- a slab of these, the first of which would begin at `k`, that has the frame
record IsCovered (f k : ℕ) (xs : List (Option Slab)) : Type 0 where
  place : ℕ
  slab : Slab
  there : get_or xs place None ≡ Some slab
  from : k + place ≤ f
  below : f < k + place + 2 ^ slab.order

next-covered : (f k : ℕ) (x : Option Slab) (xs : List (Option Slab)) → IsCovered f (k + 1) xs → IsCovered f k (x ∷ xs)
next-covered f k x xs is = record { place = suc is.place; slab = is.slab; there = is.there; from = omega (arith, is.from); below = omega (arith, is.below) }

covered-some : (f k : ℕ) (xs : List (Option Slab)) → 0 < covered_from f k xs → IsCovered f k xs
covered-some f k [] some = absurd (omega arith)
covered-some f k (None ∷ xs) some = next-covered f k None xs (covered-some f (k + 1) xs (omega (arith, some)))
covered-some f k (Some slab ∷ xs) some =
    elim (cases_Bool (nat_le k f && nat_lt f (k + 2 ^ slab.order))) [
      | inl has ↦ record { place = 0; slab = slab; there = refl; from = grind (arith, nat_tests, has); below = grind (arith, nat_tests, has) }
      | inr hasnt ↦
          let none : covers f k (Some slab) ≡ 0 = rw hasnt refl in
          next-covered f k (Some slab) xs (covered-some f (k + 1) xs (omega (arith, some, none)))
    ]

has-covered : (f first : ℕ) (slab : Slab) → first ≤ f → f < first + 2 ^ slab.order → covers f first (Some slab) ≡ 1
has-covered f first slab from below = grind (arith, nat_tests, from, below)

some-covered : (s : State) (f first : ℕ) (slab : Slab) → slab_of s first ≡ Some slab → first ≤ f → f < first + 2 ^ slab.order → 0 < covered_from f 0 s.slabs
some-covered s f first slab is from below =
    let without = covered-set f 0 s.slabs first None (inside-of s.slabs first slab is) in
    let here : covers f (0 + first) (slab_of s first) ≡ 1 = ap (covers f (0 + first)) is ∙ ap (λ n. covers f n (Some slab)) (zero-add first) ∙ has-covered f first slab from below in
    omega (arith, without, here)

-- ---- a slab that is there was there

record Was (cache : ℕ) (x : Option Slab) (slab : Slab) : Type 0 where
  old : Slab
  there : x ≡ Some old
  order : old.order ≡ slab.order
  cache_is : old.cache ≡ slab.cache

was : (cache : ℕ) (x y : Option Slab) (slab : Slab) → StaysOrGoes cache x y → y ≡ Some slab → Was cache x slab
was cache None y slab gone is = absurd (let e = sym gone ∙ is in cc)
was cache (Some old) y slab (inl e) is =
    let same : old ≡ slab = some-is (sym e ∙ is) in
    record { old = old; there = refl; order = ap (λ (z : Slab). z.order) same; cache_is = ap (λ (z : Slab). z.cache) same }
  where
    some-is : {a b : Slab} → Some a ≡ Some b → a ≡ b
    some-is e = cc
was cache (Some old) y slab (inr (own, inl e)) is =
    let same : record old { frozen = false } ≡ slab = some-is (sym e ∙ is) in
    record { old = old; there = refl; order = ap (λ (z : Slab). z.order) same; cache_is = ap (λ (z : Slab). z.cache) same }
  where
    some-is : {a b : Slab} → Some a ≡ Some b → a ≡ b
    some-is e = cc
was cache (Some old) y slab (inr (own, inr e)) is = absurd (let gone = sym e ∙ is in cc)

-- ---- what comes free

module _ (s after : State) (cache : ℕ) (coherent : IsCoherent s) (coherent_after : IsCoherent after) (frames : after.frames ≡ s.frames) (leaves : LeavesSlabs s cache after) (f : ℕ) where
  -- the frame is free or covered as often as before
  as-often : times f s.pool.free + covered_from f 0 s.slabs ≡ times f after.pool.free + covered_from f 0 after.slabs
  as-often = coherent.framed f ∙ ap (λ n. if nat_lt 0 f && nat_lt f n then 1 else 0) (sym frames) ∙ sym (coherent_after.framed f)

  most : times f s.pool.free + covered_from f 0 s.slabs ≤ 1
  most = framed-most s f coherent.framed

  -- a frame that was covered and is not was lost by the cache
  lost : covered_from f 0 after.slabs ≡ 0 → 0 < covered_from f 0 s.slabs → HasFrame s cache f
  lost none some = by (covered-some f 0 s.slabs some)
    where
      by : IsCovered f 0 s.slabs → HasFrame s cache f
      by is = its (subst (λ (x : Option Slab). StaysOrGoes cache x (slab_of after is.place)) is.there (leaves is.place))
        where
          from : is.place ≤ f
          from = omega (arith, is.from)

          below : f < is.place + 2 ^ is.slab.order
          below = omega (arith, is.below)

          its : StaysOrGoes cache (Some is.slab) (slab_of after is.place) → HasFrame s cache f
          its (inl same) = absurd (omega (arith, none, some-covered after f is.place is.slab same from below))
          its (inr (own, inl same)) = absurd (omega (arith, none, some-covered after f is.place (record is.slab { frozen = false }) same from below))
          its (inr (own, inr gone)) = record { first = is.place; slab = is.slab; there = is.there; own = own; from = from; below = below }

  has-not : covered_from f 0 after.slabs ≡ 0 → ¬ HasFrame after cache f
  has-not none has = omega (arith, none, some-covered after f has.first has.slab has.there has.from has.below)

  came : Contains after.pool.free f → Contains s.pool.free f ⊎ (HasFrame s cache f × ¬ HasFrame after cache f)
  came free =
      let here = times-contained f after.pool.free free in
      let none : covered_from f 0 after.slabs ≡ 0 = omega (arith, here, framed-most after f coherent_after.framed) in
      elim (cases_eq (times f s.pool.free) 0) [
        | inl taken ↦ inr (lost none (omega (arith, here, as-often, taken, none)), has-not none)
        | inr some ↦ inl (Contains-times f s.pool.free (omega (arith, some)))
      ]

  -- a slab that has the frame is one that had it
  had : IsCovered f 0 after.slabs → (first : ℕ) × (old : Slab) × (slab_of s first ≡ Some old) × (first ≤ f) × (f < first + 2 ^ old.order) × (old.cache ≡ cache → HasFrame after cache f)
  had is =
      let its = was cache (slab_of s is.place) (slab_of after is.place) is.slab (leaves is.place) is.there in (
        is.place,
        its.old,
        its.there,
        omega (arith, is.from),
        omega (arith, is.below, ap (λ n. 2 ^ n) its.order),
        λ own. record { first = is.place; slab = is.slab; there = is.there; own = sym its.cache_is ∙ own; from = omega (arith, is.from); below = omega (arith, is.below) },
      )

  back : Contains s.pool.free f ⊎ (HasFrame s cache f × ¬ HasFrame after cache f) → Contains after.pool.free f
  back before =
      elim (cases_eq (times f after.pool.free) 0) [
        | inl none ↦ absurd (contrary before none)
        | inr some ↦ Contains-times f after.pool.free (omega (arith, some))
      ]
    where
      contrary : Contains s.pool.free f ⊎ (HasFrame s cache f × ¬ HasFrame after cache f) → times f after.pool.free ≡ 0 → ⊥
      contrary (inl free) none =
          let here = times-contained f s.pool.free free in
          let old = had (covered-some f 0 after.slabs (omega (arith, here, as-often, none))) in
          omega (arith, here, most, some-covered s f old.0 old.1 old.2 old.3 old.4)
      contrary (inr (has, hasnt)) none =
          let covered = some-covered s f has.first has.slab has.there has.from has.below in
          let old = had (covered-some f 0 after.slabs (omega (arith, covered, as-often, none))) in
          let place = one-slab s f old.0 has.first old.1 has.slab old.2 has.there (has-covered f old.0 old.1 old.3 old.4) (has-covered f has.first has.slab has.from has.below) (consistent-of s coherent) in
          let same : old.1 ≡ has.slab = some-is (sym old.2 ∙ ap (slab_of s) place ∙ has.there) in
          hasnt (old.5 (ap (λ (z : Slab). z.cache) same ∙ has.own))
        where
          some-is : {a b : Slab} → Some a ≡ Some b → a ≡ b
          some-is e = cc

pub frees-lost : (s after : State) (cache : ℕ) → IsCoherent s → IsCoherent after → after.frames ≡ s.frames → LeavesSlabs s cache after → FreesLost s cache after
frees-lost s after cache coherent coherent_after frames leaves f =
    (came s after cache coherent coherent_after frames leaves f, back s after cache coherent coherent_after frames leaves f)

-- ---- where the cache has no slab any more

no-frame : (s : State) (cache f : ℕ) → has_slab s cache ≡ false → ¬ HasFrame s cache f
no-frame s cache f none has =
    let own : is_slab_of cache (Some has.slab) ≡ true = grind (arith, nat_tests, has.own) in
    let here : is_slab_of cache (slab_of s has.first) ≡ true = ap (is_slab_of cache) has.there ∙ own in
    let counted = element-counted (λ x. cond (is_slab_of cache x) 1 0) s.slabs has.first None refl in
    let one : ◌≡◌ {A = ℕ} (cond (is_slab_of cache (slab_of s has.first)) 1 0) 1 = ap (λ b. cond b 1 0) here in
    let some : 0 < count_by (is_slab_of cache) s.slabs = omega (arith, counted, one) in
    grind (arith, nat_tests, none, some)

pub frees-all : (s after : State) (cache : ℕ) → FreesLost s cache after → has_slab after cache ≡ false → FreesAll s cache after
frees-all s after cache lost none f = (λ free. grown ((lost f).0 free), λ before. (lost f).1 (still before))
  where
    grown : Contains s.pool.free f ⊎ (HasFrame s cache f × ¬ HasFrame after cache f) → Contains s.pool.free f ⊎ HasFrame s cache f
    grown (inl free) = inl free
    grown (inr (has, hasnt)) = inr has

    still : Contains s.pool.free f ⊎ HasFrame s cache f → Contains s.pool.free f ⊎ (HasFrame s cache f × ¬ HasFrame after cache f)
    still (inl free) = inl free
    still (inr has) = inr (has, no-frame after cache f none)

-- ---- the whole

pub shrinks-cache : (s after : State) (cache : ℕ) → IsCoherent s → IsCoherent after → ShrinksByKind s cache after → KeepsHeld s after → LeavesSlabs s cache after → (busy_of s cache ≡ 0 → has_slab after cache ≡ false) → ShrinksCache s cache after
shrinks-cache s after cache coherent coherent_after steps held leaves emptied =
    let lost = frees-lost s after cache coherent coherent_after held.frames leaves in
    record {
      steps = steps;
      held = held;
      slabs = leaves;
      pages = lost;
      emptied = λ busy. (emptied busy, frees-all s after cache lost (emptied busy));
    }
