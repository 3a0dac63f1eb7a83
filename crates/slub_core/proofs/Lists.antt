-- How often a number stands in a list.
use Rattle.std.proofs.Common.{◌≡◌, ℕ, zero, suc, ◌+◌, ◌<◌, ◌≤◌, ◌==◌, List, [], ◌∷◌, length, refl, arith}
use Rattle.std.specs.Prelude.{slice_index}
use Rattle.std.proofs.lemmas.Bool.{eq-eqb}
use Rattle.slub_common.specs.Times.{times}
use Rattle.slub_common.proofs.Times.{times-cons}
use Rattle.slub_core.specs.World.{one_if}

-- the head counts where it is the number
pub times-first : (x y : ℕ) (ys : List ℕ) → times x (y ∷ ys) ≡ one_if (y == x) + times x ys
times-first x y ys = times-cons x y ys

-- what stands at a place is counted
pub times-at : (g : ℕ) (xs : List ℕ) (k : ℕ) → k < length xs → slice_index xs k ≡ g → 1 ≤ times g xs
times-at g [] k below e = absurd (omega arith)
times-at g (x ∷ xs) zero below e = let c = times-first g x xs in let o : one_if (x == g) ≡ 1 = rw (eq-eqb x g e) refl in omega arith
times-at g (x ∷ xs) (suc k) below e = let c = times-first g x xs in let r = times-at g xs k (omega arith) e in omega arith
