-- The way down the tree to the lowest block of an order.
use Rattle.std.proofs.Common.{ℕ, suc, ◌+◌, ◌-◌, ◌*◌, ◌/◌, ◌^◌, ◌<◌, ◌≤◌, ◌≡◌, inl, inr, Bool, List, sym, ◌∙◌, ap, subst, arith}
use Rattle.std.specs.Int.{bit_at}
use Rattle.std.proofs.lemmas.Bool.{cases_lt}
use Rattle.std.proofs.lemmas.Nat.{div_below, pow_pos, shr-shr}
use Rattle.std.proofs.Math.Nat.{pow-suc}
use Rattle.slub_page_pool.specs.Block.{IsBlock}
use Rattle.slub_page_pool.specs.Marks.{free_of}
use Rattle.slub_page_pool.specs.Orders.{orders_in}
use Rattle.slub_page_pool.proofs.RunOrders.{IsWhole, IsLone, next_place, bit_at-lone, right_has, not_whole-from_bit, IsWhole-from_bit, IsLone-from_block, IsBlock-from_lone}

-- there are twice as many runs of the order below
pub pow_next : (n : ℕ) → 2 ^ suc n ≡ 2 * 2 ^ n
pow_next n = omega (arith, pow-suc 2 n)

-- runs of an order, where those of the next are as many as is said
pub pow_halves : (level next : ℕ) → level ≡ suc next → level ≤ 10 → 2 ^ (12 - next) ≡ 2 * 2 ^ (12 - level)
pow_halves level next is small =
    let e : 12 - next ≡ suc (12 - level) = omega arith in
    ap (λ n. 2 ^ n) e ∙ pow_next (12 - level)

-- the run at `place` has a block of the order, lies in no whole run, and no run before it has one
pub record Descent (marks : List Bool) (order level place : ℕ) : Type 0 where
  pub low : order ≤ level
  pub high : level ≤ 10
  pub within : place < 2 ^ (12 - level)
  pub found : bit_at (orders_in marks level place) order ≡ 1
  pub alone : level < 10 → IsWhole marks (suc level) (place / 2) → ⊥
  pub none_below : (j : ℕ) → j / 2 ^ (level - order) < place → IsLone marks order j → ⊥

-- the way begins at the first run of order 10 that has one
pub Descent-start : (marks : List Bool) (order top : ℕ) → order ≤ 10 → top < 4 → bit_at (orders_in marks 10 top) order ≡ 1 → ((t : ℕ) → t < top → bit_at (orders_in marks 10 t) order ≡ 1 → ⊥) → Descent marks order 10 top
Descent-start marks order top small few found none_below = record {
  low = small;
  high = omega arith;
  within = few;
  found = found;
  alone = λ less all. absurd (omega arith);
  none_below = λ j below lone. none_below (j / 2 ^ (10 - order)) below (bit_at-lone marks order j lone (10 - order) 10 (omega arith) (omega arith));
}

-- the place of a run of the order, one level up
place_up : (order level next j : ℕ) → level ≡ suc next → order ≤ next → j / 2 ^ (level - order) ≡ j / 2 ^ (next - order) / 2
place_up order level next j is low =
    let e : level - order ≡ suc (next - order) = omega arith in
    ap (λ n. j / 2 ^ n) e ∙ next_place j (next - order)

-- to the left half, where that has one
pub Descent-left : {marks : List Bool} {order level place : ℕ} → Descent marks order level place → (next : ℕ) → level ≡ suc next → order ≤ next → bit_at (orders_in marks next (2 * place)) order ≡ 1 → Descent marks order next (2 * place)
Descent-left {marks} {order} {level} {place} way next is low found = record {
  low = low;
  high = omega (arith, way.high);
  within = omega (arith, pow_halves level next is way.high, way.within);
  found = found;
  alone = λ less all.
      let half : 2 * place / 2 ≡ place = omega arith in
      not_whole-from_bit marks (suc next) place order (omega arith) (subst (λ n. bit_at (orders_in marks n place) order ≡ 1) is way.found) (subst (λ n. IsWhole marks (suc next) n) half all);
  none_below = λ j below lone. way.none_below j (omega (arith, place_up order level next j is low)) lone;
}

-- to the right half, where the left has none
pub Descent-right : {marks : List Bool} {order level place : ℕ} → Descent marks order level place → (next : ℕ) → level ≡ suc next → order ≤ next → (bit_at (orders_in marks next (2 * place)) order ≡ 1 → ⊥) → Descent marks order next (2 * place + 1)
Descent-right {marks} {order} {level} {place} way next is low missing =
    let found = subst (λ n. bit_at (orders_in marks n place) order ≡ 1) is way.found in
    record {
      low = low;
      high = omega (arith, way.high);
      within = omega (arith, pow_halves level next is way.high, way.within);
      found = right_has marks next place order (omega arith) found missing;
      alone = λ less all.
          let half : (2 * place + 1) / 2 ≡ place = omega arith in
          not_whole-from_bit marks (suc next) place order (omega arith) found (subst (λ n. IsWhole marks (suc next) n) half all);
      none_below = λ j below lone.
          let up = place_up order level next j is low in
          elim (cases_lt (j / 2 ^ (next - order)) (2 * place)) [
            | inl before ↦ way.none_below j (omega (arith, up)) lone
            | inr here ↦
                let same : j / 2 ^ (next - order) ≡ 2 * place = omega arith in
                missing (subst (λ n. bit_at (orders_in marks next n) order ≡ 1) same (bit_at-lone marks order j lone (next - order) next (omega arith) (omega (arith, way.high))))
          ];
    }

-- at the order itself it has come to a block
pub Descent-block : {marks : List Bool} {order level place : ℕ} → Descent marks order level place → level ≤ order → IsBlock (free_of marks) (place * 2 ^ order) order
Descent-block {marks} {order} {level} {place} way down =
    let same : level ≡ order = omega (arith, way.low) in
    IsBlock-from_lone marks order place (omega (arith, way.low, way.high)) record {
      all = IsWhole-from_bit marks order place (subst (λ n. bit_at (orders_in marks n place) order ≡ 1) same way.found);
      alone = λ less all. way.alone (omega arith) (subst (λ n. IsWhole marks (suc n) (place / 2)) (sym same) all);
    }

-- and there is none below it
pub Descent-lowest : {marks : List Bool} {order level place : ℕ} → Descent marks order level place → level ≤ order → (e : ℕ) → e < place * 2 ^ order → IsBlock (free_of marks) e order → ⊥
Descent-lowest {marks} {order} {level} {place} way down e below block =
    let none : level - order ≡ 0 = omega arith in
    let place_e : e / 2 ^ order < place = div_below e (2 ^ order) place (pow_pos order) below in
    let at : e / 2 ^ order / 2 ^ (level - order) ≡ e / 2 ^ order = rw none (omega arith) in
    way.none_below (e / 2 ^ order) (omega arith) (IsLone-from_block marks e order block)

-- a block of a machine of 4096 frames shows in one of the four runs of order 10
pub bit_at-block : (marks : List Bool) (e order : ℕ) → order ≤ 10 → IsBlock (free_of marks) e order → bit_at (orders_in marks 10 (e / 2 ^ 10)) order ≡ 1
bit_at-block marks e order small block =
    let whole : order + (10 - order) ≡ 10 = omega arith in
    let place : e / 2 ^ order / 2 ^ (10 - order) ≡ e / 2 ^ 10 = shr-shr e order (10 - order) ∙ ap (λ n. e / 2 ^ n) whole in
    subst (λ n. bit_at (orders_in marks 10 n) order ≡ 1) place (bit_at-lone marks order (e / 2 ^ order) (IsLone-from_block marks e order block) (10 - order) 10 (omega arith) (omega arith))
