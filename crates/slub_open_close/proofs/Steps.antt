-- What each change of a CPU word adds to its transaction id.
use Rattle.std.proofs.Common.{◌≡◌, ℕ, ◌*◌, ◌^◌, ◌<◌, ◌≤◌, refl, arith}
use Rattle.std.specs.Prelude.{cond, nat_le}
use Rattle.std.specs.Int.{IsPowerOfTwo}
use Rattle.std.proofs.lemmas.Bool.{cond_both, leb-true, leb-false}
use Rattle.slub_trace.specs.Ranges.{step_of}
use Rattle.slub_open_close.specs.Ids.{IsStepOf}
use Rattle.slub_open_close.proofs.Firsts.{one-step}

of-power : (cpus k step : ℕ) → step ≡ 2 ^ k → cpus ≤ step → step < 2 * cpus → IsStepOf cpus step
of-power cpus k step is least most = let power : IsPowerOfTwo step = (k, is) in (power, least, most)

-- the reader's step is the least power of two
pub is-step : (cpus : ℕ) → 1 ≤ cpus → cpus ≤ 16 → IsStepOf cpus (step_of cpus)
is-step cpus some few =
    cond_both (nat_le cpus 1) 1 (cond (nat_le cpus 2) 2 (cond (nat_le cpus 4) 4 (cond (nat_le cpus 8) 8 16))) (IsStepOf cpus)
    (λ one. of-power cpus 0 1 refl (leb-true cpus 1 one) (omega arith))
    (λ more. let above1 : 1 < cpus = leb-false cpus 1 more in
    cond_both (nat_le cpus 2) 2 (cond (nat_le cpus 4) 4 (cond (nat_le cpus 8) 8 16)) (IsStepOf cpus)
    (λ two. of-power cpus 1 2 refl (leb-true cpus 2 two) (omega arith))
    (λ more2. let above2 : 2 < cpus = leb-false cpus 2 more2 in
    cond_both (nat_le cpus 4) 4 (cond (nat_le cpus 8) 8 16) (IsStepOf cpus)
    (λ four. of-power cpus 2 4 refl (leb-true cpus 4 four) (omega arith))
    (λ more4. let above4 : 4 < cpus = leb-false cpus 4 more4 in
    cond_both (nat_le cpus 8) 8 16 (IsStepOf cpus)
    (λ eight. of-power cpus 3 8 refl (leb-true cpus 8 eight) (omega arith))
    (λ more8. let above8 : 8 < cpus = leb-false cpus 8 more8 in of-power cpus 4 16 refl few (omega arith)))))

-- and no other number is
pub step-is : (cpus step : ℕ) → IsStepOf cpus step → 1 ≤ cpus → cpus ≤ 16 → step ≡ step_of cpus
step-is cpus step is some few = one-step cpus step (step_of cpus) is (is-step cpus some few)
