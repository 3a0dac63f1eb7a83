-- The slabs of a cache that has none.
use Rattle.std.proofs.Common.{◌≡◌, ℕ, zero, suc, ◌<◌, ◌≤◌, length, get_or, sum_by, replicate, Option, None, IfSome, IsSome, IsTrue, true, false, cond, refl, ap, subst, sym, arith}
use Rattle.std.proofs.lemmas.List.{length-replicate}
use Rattle.std.proofs.lemmas.List.Sums.{sum_by-cons}
use Rattle.slub_object_layout.specs.declared.layout.Flags.{Flags}
use Rattle.slub_object_layout.specs.declared.layout.Layout.{Layout}
use Rattle.slub_object_layout.specs.Layout.{is_checked}
use Rattle.slub_red_zone.specs.State.{SlabState}
use Rattle.slub_red_zone.specs.Steps.{no_slabs, opening}
use Rattle.slub_red_zone.specs.Sound.{IsSlab, IsLayoutFor}
use Rattle.slub_red_zone.specs.Kept.{IsKept}
use Rattle.slub_red_zone.proofs.Whole.{stock}

none-at : (n f : ℕ) → ◌≡◌ {A = Option SlabState} (get_or (replicate n None) f None) None
none-at zero f = refl
none-at (suc n) zero = refl
none-at (suc n) (suc f) = none-at n f

none-sum : (F : Option SlabState → ℕ) → F None ≡ 0 → (n : ℕ) → sum_by F (replicate n None) ≡ 0
none-sum F e zero = refl
none-sum F e (suc n) = omega (arith, sum_by-cons F None (replicate n None), e, none-sum F e n)

no_slab-at : (f : ℕ) → get_or no_slabs f None ≡ None
unfolding no_slabs
no_slab-at f = none-at 4096 f

no_slab-sum : (F : Option SlabState → ℕ) → F None ≡ 0 → sum_by F no_slabs ≡ 0
unfolding no_slabs
no_slab-sum F e = none-sum F e 4096

no_slab-length : length no_slabs ≡ 4096
unfolding no_slabs
no_slab-length = length-replicate {A = Option SlabState} 4096 None

never : false ≡ true → ⊥
never e = let one : zero ≡ suc zero = ap (λ b. cond b 1 0) (sym (sym e)) in omega (arith, one)

-- it is sound, and its totals are 0
pub opening-kept : (layout : Layout) (flags : Flags) (cache counts reports : ℕ) → cache < 32 → IsTrue (is_checked flags) → IsLayoutFor flags layout → 4096 ≤ counts → IsKept (opening layout flags cache) (record { free = 0; used = 0; aside = 0; slabs = 0 }) 4096 counts reports
opening-kept layout flags cache counts reports few checked for room = record {
  sound = record {
    cache = few;
    checked = checked;
    layout = for;
    frames = no_slab-length;
    first_frame = λ has. let P : Option SlabState → Type 0 = λ x. IsSome x in absurd (never (subst P (no_slab-at 0) has));
    slab = λ f. let P : Option SlabState → Type 0 = λ x. IfSome x (IsSlab layout) in subst P (sym (no_slab-at f)) tt;
    listed = λ f. ap stock (sym (no_slab-at f));
    listed_count = sym (no_slab-sum stock refl);
    reported = omega arith;
  };
  are_totals = record { free = sym (no_slab-sum _ refl); used = sym (no_slab-sum _ refl); aside = sym (no_slab-sum _ refl); slabs = sym (no_slab-sum _ refl) };
  list_room = refl;
  counts_room = room;
  reports_room = omega arith;
}
