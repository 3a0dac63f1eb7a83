-- Numbers that are multiples of a power of two.
use Rattle.std.proofs.Common.{ℕ, ◌+◌, ◌-◌, ◌*◌, ◌/◌, ◌%◌, ◌^◌, ◌<◌, ◌≤◌, ◌≡◌, inl, inr, arith, subst}
use Rattle.std.specs.Int.{◌∣◌}
use Rattle.std.proofs.Math.Nat.{dvd-sub, dvd-add, dvd-mul_right, dvd-mul_left}
use Rattle.std.proofs.lemmas.Nat.{pow_pos, pow-add, mod_below, div-add-mod'}
use Rattle.std.proofs.lemmas.Nat.Gcd.{dvd_trans, dvd_of_mod-eq-zero, mod-eq-zero_of_dvd, le_of_dvd}
use Rattle.std.proofs.lemmas.Bool.{cases_lt}

-- a greater power is a multiple of a lesser one
pub pow_divides : (p q : ℕ) → p ≤ q → 2 ^ p ∣ 2 ^ q
pow_divides p q more =
    let whole : p + (q - p) ≡ q = omega arith in
    let parts : 2 ^ (p + (q - p)) ≡ 2 ^ p * 2 ^ (q - p) = pow-add 2 p (q - p) in
    subst (λ n. 2 ^ p ∣ 2 ^ n) whole (rw parts (dvd-mul_right (2 ^ p) (2 ^ (q - p))))

-- different multiples are at least the step apart
pub multiples_apart : (m a b : ℕ) → m ∣ a → m ∣ b → a < b → a + m ≤ b
multiples_apart m a b left right below =
    let gap : m ≤ b - a = le_of_dvd (omega arith) (dvd-sub m right left) in
    omega arith

-- the multiple at or below a number
pub divides_start : (m f : ℕ) → m ∣ f - f % m
divides_start m f =
    let whole : f / m * m ≡ f - f % m = omega (arith, div-add-mod' f m) in
    subst (λ n. m ∣ n) whole (dvd-mul_left m (f / m))

-- an aligned run of order p that meets an aligned run of a greater order lies in it, with the run of order p round it
pub run_within : (p q f e : ℕ) → p ≤ q → e % 2 ^ q ≡ 0 → e ≤ f → f < e + 2 ^ q → (e ≤ f - f % 2 ^ p) × (f - f % 2 ^ p + 2 ^ p ≤ e + 2 ^ q)
run_within p q f e more aligned low high =
    let wide : 2 ^ p ∣ 2 ^ q = pow_divides p q more in
    let first : 2 ^ p ∣ e = dvd_trans (2 ^ p) wide (dvd_of_mod-eq-zero (2 ^ q) aligned) in
    let last : 2 ^ p ∣ e + 2 ^ q = dvd-add (2 ^ p) first wide in
    let start : 2 ^ p ∣ f - f % 2 ^ p = divides_start (2 ^ p) f in
    let rest : f % 2 ^ p < 2 ^ p = mod_below f (2 ^ p) (pow_pos p) in
    let near : f - f % 2 ^ p < e + 2 ^ q = omega arith in (
      elim (cases_lt (f - f % 2 ^ p) e) [
        | inl before ↦ absurd (omega (arith, multiples_apart (2 ^ p) (f - f % 2 ^ p) e start first before))
        | inr after ↦ after
      ],
      multiples_apart (2 ^ p) (f - f % 2 ^ p) (e + 2 ^ q) start last near,
    )

-- the start of a run is a multiple of its length
pub aligned_start : (m f : ℕ) → (f - f % m) % m ≡ 0
aligned_start m f = mod-eq-zero_of_dvd m (divides_start m f)
