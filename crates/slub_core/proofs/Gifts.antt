-- What the search among the listed slabs gives is what a checked cache gives.
use Rattle.std.proofs.Common.{◌≡◌, ℕ, ◌<◌, ◌∙◌, List, [], ◌∷◌, length, get_or, drop, Option, Some, None, unwrap_or, refl, sym, ap, subst, arith, inl, inr, ◌⊎◌}
use Rattle.std.proofs.lemmas.Bool.{cases_lt}
use Rattle.slub_trace.specs.declared.damage.Damage.{Damage}
use Rattle.slub_red_zone.specs.declared.checked.CheckedGive.TheVariants.{Given}
use Rattle.slub_red_zone.specs.declared.checked.Slot.{Slot}
use Rattle.slub_red_zone.specs.State.{SlabState, CheckedState, no_slab, slab_of}
use Rattle.slub_red_zone.specs.Sound.{IsSound}
use Rattle.slub_red_zone.specs.Steps.{Gives, nothing_listed, next_is_whole, next_is_damaged, IsNext, damage_of_free, with_given, with_damaged}
use Rattle.slub_red_zone.proofs.Whole.{stock, listed-stocked}
use Rattle.slub_red_zone.proofs.Stocks.{stock-none}
use Rattle.slub_red_zone.proofs.Given.{damaged-sound}
use Rattle.slub_core.specs.Gifts.{Gift, first_free, or_next, gift_from}
use Rattle.slub_core.specs.Laws.{CheckedCachesGive}

-- ---- the first free object of a listed slab is next

front_of : (xs : List ℕ) → 0 < length xs → xs ≡ get_or xs 0 0 ∷ drop 1 xs
front_of [] some = absurd (omega arith)
front_of (x ∷ xs) some = refl

stocked : (x : Option SlabState) → stock x ≡ 1 → 0 < length (unwrap_or x no_slab).free
stocked None one = absurd (omega (arith, one))
stocked (Some slab) one = elim (cases_lt 0 (length slab.free)) [
  | inl some ↦ some
  | inr none ↦ absurd (let zero_stock = stock-none slab (omega arith) in omega (arith, one, zero_stock))
]

next_of : (s : CheckedState) (frame : ℕ) (frames : List ℕ) → IsSound s → s.listed ≡ frame ∷ frames → IsNext s (first_free s frame)
next_of s frame frames sound listed = record {
  listed = listed ∙ sym (ap (λ (xs : List ℕ). frame ∷ drop 1 xs) listed);
  free = front_of (slab_of s frame).free (stocked (get_or s.slabs frame None) (listed-stocked s frame frames sound listed));
}

-- ---- slab by slab

damage_cases : (d : Option Damage) → (d ≡ None) ⊎ ((damage : Damage) × (d ≡ Some damage))
damage_cases None = inl refl
damage_cases (Some damage) = inr (damage, refl)

gives_from : (listed : List ℕ) (s : CheckedState) → IsSound s → s.listed ≡ listed → Gives s (gift_from listed s).answer (gift_from listed s).after
gives_from [] s sound is = nothing_listed s is
gives_from (frame ∷ frames) s sound is =
    let next = next_of s frame frames sound is in
    let slot : Slot = first_free s frame in
    let more : Damage → Gift = λ (damage : Damage). gift_from frames (with_damaged s slot damage) in
    let gift : Gift = record { answer = Given slot; after = with_given s slot } in
    let P : Option Damage → Type 0 = λ d. Gives s (or_next gift more d).answer (or_next gift more d).after in
    elim (damage_cases (damage_of_free s slot)) [
      | inl whole ↦ subst P (sym whole) (next_is_whole s slot next whole)
      | inr (damage, is_damaged) ↦ subst P (sym is_damaged)
          (next_is_damaged s slot damage _ _ next is_damaged
          (gives_from frames (with_damaged s slot damage) (damaged-sound s slot sound next damage) (ap (λ (xs : List ℕ). drop 1 xs) is)))
    ]

pub checked_caches-give : CheckedCachesGive
checked_caches-give s sound = gives_from s.listed s sound refl
