-- The list where a slab gains its first free object or loses its last.
use Rattle.std.proofs.Common.{◌≡◌, ℕ, ◌<◌, List, length, Some, arith, eqb, if◌then◌else◌}
use Rattle.std.proofs.lemmas.Bool.{cond_both}
use Rattle.std.proofs.lemmas.Bool.Decides.{nat_tests}
use Rattle.slub_red_zone.specs.State.{SlabState}
use Rattle.slub_red_zone.proofs.Whole.{stock}

pub stock-none : (slab : SlabState) → length slab.free ≡ 0 → stock (Some slab) ≡ 0
stock-none slab none = grind (arith, nat_tests, none)

pub stock-one : (slab : SlabState) → 0 < length slab.free → stock (Some slab) ≡ 1
stock-one slab some = grind (arith, nat_tests, some)

-- what holds of the one list and of the other holds of the one that is chosen
pub by-count : (n : ℕ) (xs ys : List ℕ) (P : List ℕ → Type 0) → (n ≡ 0 → P xs) → (0 < n → P ys) → P (if eqb n 0 then xs else ys)
by-count n xs ys P none some = cond_both (eqb n 0) xs ys P (λ yes. none (grind (arith, nat_tests, yes))) (λ no. some (grind (arith, nat_tests, no)))
