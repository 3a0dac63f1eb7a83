-- What counts where a current slab is this one.
use Rattle.std.proofs.Common.{◌≡◌, ◌≢◌, ℕ, Some, arith}
use Rattle.std.proofs.lemmas.Bool.Decides.{nat_tests}
use Rattle.slub_lists.specs.Coherent.{if_current}

-- a number that goes to one frame
pub current-same : (f frame n : ℕ) → f ≡ frame → if_current f n (Some frame) ≡ n
current-same f frame n e = grind (arith, nat_tests)

-- and to no other
pub current-other : (f frame n : ℕ) → f ≢ frame → if_current f n (Some frame) ≡ 0
current-other f frame n ne = grind (arith, nat_tests)
